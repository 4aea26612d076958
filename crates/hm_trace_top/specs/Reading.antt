-- What is read of a trace: its events, and their numbers.
use Rattle.std.specs.Prelude.{◌≡◌, ℕ, List, [], ◌∷◌, ◌++◌, Result, Ok, Err}
use Rattle.std.specs.List.{flat_map}
use Rattle.hm_protocol.specs.declared.events.Traced.{Traced}
use Rattle.hm_script.specs.Automaton.{lines}
use Rattle.hm_trace.specs.Lines.{line_at}
use Rattle.hm_trace.specs.Progress.{read_next, start}
use Rattle.hm_trace.specs.Traces.{events_told, read_lines}
use Rattle.hm_trace.specs.declared.line.TraceLine.{TraceLine}
use Rattle.hm_trace.specs.declared.reader.Progress.{Progress}
use Rattle.hm_trace.specs.declared.reader.Refused.{Refused}
use Rattle.hm_trace_top.specs.declared.reading.Trace.{Trace}
use Rattle.hm_trace_top.specs.declared.reading.Unread.{Unread}

-- ---- numbers

-- the number of the event that a line tells, if it tells one
abbrev pub number_told : TraceLine → List ℕ
number_told (TraceLine.Event n e) = n ∷ []
number_told x = []

-- the same of a line's text
abbrev pub number_of : List ℕ → List ℕ
number_of l = elim (line_at l) [ Ok x ↦ number_told x | Err why ↦ [] ]

-- the numbers of the events of a text, in their order
abbrev pub numbers_of : List ℕ → List ℕ
numbers_of bytes = flat_map number_of (lines bytes)

-- ---- a whole trace

-- so far reading has come, with these events and these numbers
pub record Read : Type 0 where
  pub progress : Progress
  pub events : List Traced
  pub numbers : List ℕ

-- the same of a trace that was read
abbrev pub read_by : Trace → Read
read_by t = record { progress = t.progress; events = t.events.items; numbers = t.numbers.items }

-- the trace that these lines are: how far reading has come after it, its events, and their numbers; or the first bad one
abbrev pub read_of : List (List ℕ) → Result Read Refused
read_of ls = elim (read_lines start ls) [
  | Ok x ↦ Ok (record { progress = x.0; events = x.1; numbers = flat_map number_of ls })
  | Err why ↦ Err why
]

-- the lines are this trace
abbrev pub IsTrace : List (List ℕ) → Trace → Type 0
IsTrace ls t = read_of ls ≡ Ok (read_by t)

-- why they are none, if memory did not run out: the first bad line
abbrev pub IsUnread : List (List ℕ) → Unread → Type 0
IsUnread ls (Unread.Refused refused) = read_of ls ≡ Err refused
IsUnread ls Unread.NoMemory = Unit {0}

-- ---- some lines of one

-- an event more
abbrev pub with_event : Read → ℕ → Traced → Read
with_event r n e = record r { events = r.events ++ e ∷ []; numbers = r.numbers ++ n ∷ [] }

-- after one line more, which tells this
abbrev pub read_more : Read → Progress → TraceLine → Read
read_more r q x = record {
  progress = q;
  events = r.events ++ events_told x;
  numbers = r.numbers ++ number_told x;
}

-- after one line more, or that it is refused
abbrev pub read_line : Read → List ℕ → Result Read Refused
read_line r l = elim (read_next r.progress l) [ Ok x ↦ Ok (read_more r x.0 x.1) | Err why ↦ Err why ]

-- after some lines more, or the first that is refused
abbrev pub read_on : Read → List (List ℕ) → Result Read Refused
read_on r [] = Ok r
read_on r (l ∷ ls) = elim (read_line r l) [ Ok s ↦ read_on s ls | Err why ↦ Err why ]

-- before the first line
abbrev pub opening : Read
opening = record { progress = start; events = []; numbers = [] }

-- why lines that come to this were not read, if memory did not run out: one is refused
abbrev pub Stops : Result Read Refused → Unread → Type 0
Stops r (Unread.Refused refused) = r ≡ Err refused
Stops r Unread.NoMemory = Unit {0}
