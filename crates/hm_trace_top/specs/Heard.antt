-- What is said of bytes that are a trace, or several.
use Rattle.std.specs.Prelude.{◌≡◌, ℕ, ◌+◌, false, if◌then◌else◌, List, [], ◌∷◌, ◌++◌, length, Result, Ok, Err}
use Rattle.hm_protocol.specs.declared.rules.Verdict.{Verdict}
use Rattle.hm_script.specs.Automaton.{lines}
use Rattle.hm_trace_top.specs.Lists.{Named, is_list, traces_in}
use Rattle.hm_trace_top.specs.Reading.{Read, read_of}
use Rattle.hm_trace_top.specs.Texts.{lines_text, verdicts}
use Rattle.hm_trace_top.specs.Together.{all_text}
use Rattle.hm_trace_top.specs.declared.ended.Ended.{Ended}

-- the verdicts on a trace
abbrev pub verdicts_of : Read → List Verdict
verdicts_of r = verdicts r.progress.recorded r.events

-- all that is written of it
abbrev pub text_of : Read → List ℕ
text_of r = lines_text r.progress r.events r.numbers (verdicts_of r)

-- what is said of some traces: the text, and the verdicts on each
pub record Heard : Type 0 where
  pub text : List ℕ
  pub said : List (List Verdict)

-- of none
abbrev pub nothing_heard : Heard
nothing_heard = record { text = []; said = [] }

-- a trace more, which this line names
abbrev pub hear : Heard → List ℕ → Read → Heard
hear h header r = record { text = h.text ++ (header ++ text_of r); said = h.said ++ verdicts_of r ∷ [] }

-- some traces more; or the first that is none, by its number from 1, and its first bad line
abbrev pub hear_all : Heard → List Named → Result Heard Ended
hear_all h [] = Ok h
hear_all h (x ∷ xs) = elim (read_of x.lines) [
  | Ok r ↦ hear_all (hear h x.header r) xs
  | Err why ↦ Err (Ended.RefusedIn (length h.said + 1) why)
]

-- and in the end what all say together
abbrev pub sum_up : Result Heard Ended → Result Heard Ended
sum_up (Ok h) = Ok (record h { text = h.text ++ all_text h.said })
sum_up (Err ended) = Err ended

-- of one trace, which no line names
abbrev pub hear_one : Result Read Ended → Result Heard Ended
hear_one (Ok r) = Ok (hear nothing_heard [] r)
hear_one (Err ended) = Err ended

-- the bad line of one trace
abbrev pub one_read : List (List ℕ) → Result Read Ended
one_read ls = elim (read_of ls) [ Ok r ↦ Ok r | Err why ↦ Err (Ended.Refused why) ]

-- what is said of these lines: of a list, if the first line names a trace, and else of one trace
abbrev pub heard_of : List (List ℕ) → Result Heard Ended
heard_of ls = if is_list ls then sum_up (hear_all nothing_heard (traces_in ls)) else hear_one (one_read ls)

-- the same of bytes
abbrev pub said_of : List ℕ → Result Heard Ended
said_of bytes = heard_of (lines bytes)

-- ---- what nothing is said of

-- it is not the bytes: a number of 64 bits may not count what they say, or memory ran out
abbrev pub IsShortage : Ended → Type 0
IsShortage Ended.TooLong = Unit {0}
IsShortage Ended.NoMemory = Unit {0}
IsShortage _ = ⊥

-- why some traces of a list were not heard that come to this
abbrev pub IsUnheard : Result Heard Ended → Ended → Type 0
IsUnheard x (Ended.RefusedIn n why) = x ≡ Err (Ended.RefusedIn n why)
IsUnheard x ended = IsShortage ended

-- the lines are a trace
abbrev pub AreTrace : List (List ℕ) → Type 0
AreTrace ls = (r : Read) × (read_of ls ≡ Ok r)

-- why nothing is said of lines that no line names: they are no trace, or there are too many counts or too little memory
abbrev pub IsUnread : List (List ℕ) → Ended → Type 0
IsUnread ls (Ended.Refused why) = read_of ls ≡ Err why
IsUnread ls Ended.TooLong = AreTrace ls
IsUnread ls Ended.NoMemory = Unit {0}
IsUnread ls _ = ⊥

-- why nothing is said of bytes: they are no trace, or a trace of the list is none, or there are too many counts or too
-- little memory
abbrev pub IsUnsaid : List ℕ → Ended → Type 0
IsUnsaid bytes (Ended.Refused why) = said_of bytes ≡ Err (Ended.Refused why)
IsUnsaid bytes (Ended.RefusedIn n why) = said_of bytes ≡ Err (Ended.RefusedIn n why)
IsUnsaid bytes Ended.TooLong = is_list (lines bytes) ≡ false → AreTrace (lines bytes)
IsUnsaid bytes Ended.NoMemory = Unit {0}
IsUnsaid bytes _ = ⊥
