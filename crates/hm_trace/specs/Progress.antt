-- How far the reading of a trace has come, line by line.
use Rattle.std.specs.Prelude.{◌≡◌, ℕ, ◌+◌, ◌-◌, ◌^◌, Bool, ◌&&◌, nat_lt, ◌==◌, if◌then◌else◌, Option, Some, None}
use Rattle.std.specs.Prelude.{is_none, List, ◌++◌, Result, Ok, Err, codes}
use Rattle.std.specs.Fmt.{decimal}
use Rattle.hm_protocol.specs.declared.events.Recorded.{Recorded}
use Rattle.hm_script.specs.Reasons.{reason_text}
use Rattle.hm_trace.specs.Lines.{line_at}
use Rattle.hm_trace.specs.declared.line.TraceLine.{TraceLine}
use Rattle.hm_trace.specs.declared.reader.Numbers.{Numbers}
use Rattle.hm_trace.specs.declared.reader.Progress.{Progress}
use Rattle.hm_trace.specs.declared.reader.Fault.{Fault}
use Rattle.hm_trace.specs.declared.reader.Refused.{Refused}

-- before the first line
abbrev pub start : Progress
start = record { lines = 0; numbers = None; recorded = None; lost = 0; missed = 0 }

-- the number of the next line, from 1, up to the last number that there is
abbrev pub line_number : Progress → ℕ
line_number p = if nat_lt p.lines (2 ^ 64 - 1) then p.lines + 1 else p.lines

-- one line more was read
abbrev pub with_line : Progress → Progress
with_line p = record p { lines = line_number p }

-- the first number, and the next one
abbrev pub numbers : ℕ → ℕ → Option Numbers
numbers first next = Some (record { first = first; next = next })

-- an event with this number: the first one may have any, and the others count
abbrev pub event_next : Progress → ℕ → Result Progress Fault
event_next p n = if nat_lt n (2 ^ 64 - 1) then elim p.numbers [
  | None ↦ Ok (record (with_line p) { numbers = numbers n (n + 1) })
  | Some x ↦ if x.next == n then Ok (record (with_line p) { numbers = numbers x.first (n + 1) }) else Err Fault.NotNext
] else Err Fault.TooMany

-- the numbers of events that are not there are passed over
abbrev pub skipped : Option Numbers → ℕ → Result (Option Numbers) Fault
skipped None count = Ok None
skipped (Some x) count =
    if nat_lt (x.next + count) (2 ^ 64) then Ok (numbers x.first (x.next + count)) else Err Fault.TooMany

-- some events are not there
abbrev pub lost_next : Progress → ℕ → ℕ → Result Progress Fault
lost_next p count missed = if nat_lt (p.lost + count) (2 ^ 64) && nat_lt (p.missed + missed) (2 ^ 64)
    then elim (skipped p.numbers count) [
      | Ok ns ↦ Ok (record (with_line p) { numbers = ns; lost = p.lost + count; missed = p.missed + missed })
      | Err f ↦ Err f
    ] else Err Fault.TooMany

-- nothing was read but blank lines
abbrev pub is_new : Progress → Bool
is_new p = is_none p.recorded && (is_none p.numbers && ((p.lost == 0) && (p.missed == 0)))

-- what was recorded is said before all else
abbrev pub names_next : Progress → Recorded → Result Progress Fault
names_next p r =
    if is_new p then Ok (record (with_line p) { recorded = Some r }) else Err Fault.LateNames

-- how far it has come after a line that tells this
abbrev pub progress_next : Progress → TraceLine → Result Progress Fault
progress_next p TraceLine.Blank = Ok (with_line p)
progress_next p (TraceLine.Names r) = names_next p r
progress_next p (TraceLine.Event n e) = event_next p n
progress_next p (TraceLine.Lost count missed) = lost_next p count missed

-- it begins with number 0, and nothing is missing
abbrev pub is_whole : Progress → Bool
is_whole p = (p.lost == 0) && ((p.missed == 0)
    && elim p.numbers [ None ↦ is_none p.numbers | Some x ↦ x.first == 0 ])

-- ---- a line after others

-- the line is refused
abbrev pub refused : Progress → Fault → Refused
refused p f = record { line = line_number p; why = f }

-- a line that tells this, and how far reading has come after it
abbrev pub read_told : Progress → TraceLine → Result (Progress × TraceLine) Refused
read_told p x = elim (progress_next p x) [ Ok q ↦ Ok (q, x) | Err f ↦ Err (refused p f) ]

-- the next line: what it tells, and how far reading has come after it; or that it is refused, and why
abbrev pub read_next : Progress → List ℕ → Result (Progress × TraceLine) Refused
read_next p l = elim (line_at l) [ Ok x ↦ read_told p x | Err r ↦ Err (refused p (Fault.Line r)) ]

-- what is answered, and what is known then: as before, if the line is refused
abbrev pub Reads : Progress → List ℕ → Progress → Result TraceLine Refused → Type 0
Reads p l q (Ok x) = read_next p l ≡ Ok (q, x)
Reads p l q (Err why) = (read_next p l ≡ Err why) × (q ≡ p)

-- ---- what is said of a bad line

-- what is wrong with it
abbrev pub fault_text : Fault → List ℕ
fault_text (Fault.Line r) = reason_text r
fault_text Fault.NotNext = codes "not the next number"
fault_text Fault.LateNames = codes "names not first"
fault_text Fault.TooMany = codes "too many"

-- the first bad line, and what is wrong with it
abbrev pub refused_text : Refused → List ℕ
refused_text r = codes "trace line " ++ (decimal r.line ++ (codes ": " ++ fault_text r.why))
