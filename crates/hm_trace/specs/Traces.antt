-- What a whole trace tells.
use Rattle.std.specs.Prelude.{◌≡◌, ℕ, ◌+◌, true, Some, List, [], ◌∷◌, ◌++◌, Result, Ok, Err, codes}
use Rattle.std.specs.List.{flat_map}
use Rattle.std.specs.Fmt.{decimal}
use Rattle.hm_protocol.specs.declared.events.Recorded.{Recorded}
use Rattle.hm_protocol.specs.declared.events.Traced.{Traced}
use Rattle.hm_report.specs.Words.{actor_text}
use Rattle.hm_script.specs.Automaton.{lines}
use Rattle.hm_script.specs.Spelling.{line}
use Rattle.hm_trace.specs.Fits.{FitsTraced}
use Rattle.hm_trace.specs.Progress.{is_whole, read_next, start}
use Rattle.hm_trace.specs.Spelling.{event_words, recorded_words}
use Rattle.hm_trace.specs.declared.line.TraceLine.{TraceLine}
use Rattle.hm_trace.specs.declared.reader.Progress.{Progress}
use Rattle.hm_trace.specs.declared.reader.Refused.{Refused}

-- ---- reading

-- the event that a line tells, if it tells one
abbrev pub events_told : TraceLine → List Traced
events_told (TraceLine.Event n e) = e ∷ []
events_told x = []

-- these events came before
abbrev pub with_front : List Traced → Result (Progress × List Traced) Refused → Result (Progress × List Traced) Refused
with_front es (Ok x) = Ok (x.0, es ++ x.1)
with_front es (Err w) = Err w

-- the events of some lines, and how far reading has come after them; or the first bad line
abbrev pub read_lines : Progress → List (List ℕ) → Result (Progress × List Traced) Refused
read_lines p [] = Ok (p, [])
read_lines p (l ∷ ls) = elim (read_next p l) [
  | Ok x ↦ with_front (events_told x.1) (read_lines x.0 ls)
  | Err w ↦ Err w
]

-- the same of bytes
abbrev pub read_trace : List ℕ → Result (Progress × List Traced) Refused
read_trace bytes = read_lines start (lines bytes)

-- ---- the text of a whole trace

-- the words of the lines of some events, the first of which has this number
abbrev pub events_words : ℕ → List Traced → List (List (List ℕ))
events_words n [] = []
events_words n (e ∷ es) = (decimal n ∷ actor_text e.thread ∷ event_words e.event) ∷ events_words (n + 1) es

-- what was recorded, and all events, from number 0 on
abbrev pub trace_text : Recorded → List Traced → List ℕ
trace_text r es = flat_map line ((codes "names" ∷ recorded_words r) ∷ events_words 0 es)

-- so these bytes are read: as these events, and a whole trace
pub record IsReadAs (bytes : List ℕ) (r : Recorded) (es : List Traced) : Type 0 where
  pub end : Progress
  pub read : read_trace bytes ≡ Ok (end, es)
  pub whole : is_whole end ≡ true
  pub recorded : end.recorded ≡ Some r

-- events that a program can have
abbrev pub FitsAll : List Traced → Type 0
FitsAll [] = Unit {0}
FitsAll (e ∷ es) = FitsTraced e × FitsAll es
