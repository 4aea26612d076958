-- The lines of a trace: what each tells, and its text.
use Rattle.std.specs.Prelude.{ℕ, ◌-◌, Bool, ◌||◌, ◌==◌, if◌then◌else◌, List, [], ◌∷◌, ◌++◌, Result, Ok, Err}
use Rattle.std.specs.Prelude.{codes, drop, length, slice_index, take}
use Rattle.std.specs.Char.{is_ascii_whitespace}
use Rattle.std.specs.List.{position_or_len, suffix_len}
use Rattle.std.specs.Option.{ok_or}
use Rattle.std.specs.Str.{bytes_eq}
use Rattle.hm_protocol.specs.declared.events.Recorded.{Recorded}
use Rattle.hm_script.specs.Gives.{◌>>=◌}
use Rattle.hm_script.specs.Numerals.{number}
use Rattle.hm_script.specs.Splitting.{split, word}
use Rattle.hm_script.specs.declared.reason.Reason.{Reason}
use Rattle.hm_trace.specs.EventWords.{event_named}
use Rattle.hm_trace.specs.Events.{event_at}
use Rattle.hm_trace.specs.Spelling.{event_line, lost_line, names_line}
use Rattle.hm_trace.specs.Words.{field, lettered}
use Rattle.hm_trace.specs.declared.line.TraceLine.{TraceLine}

-- ---- what a line tells

-- the one text of what a line tells, with its line feed
abbrev pub line_text : TraceLine → List ℕ
line_text TraceLine.Blank = 10 ∷ []
line_text (TraceLine.Names r) = names_line r
line_text (TraceLine.Event n e) = event_line n e
line_text (TraceLine.Lost count missed) = lost_line count missed

-- ---- reading

-- the line up to the first `#`
abbrev pub before_comment : List ℕ → List ℕ
before_comment l = take (position_or_len (λ b. b == 35) l) l

-- the bytes without the white space at their end, such as a line feed
abbrev pub trimmed : List ℕ → List ℕ
trimmed l = take (length l - suffix_len is_ascii_whitespace l) l

-- the line without its comment and the white space at its end
unfoldable pub text_of : List ℕ → List ℕ
text_of l = trimmed (before_comment l)

-- the line ends in a line feed
abbrev pub is_ended : List ℕ → Bool
is_ended l = slice_index l (length l - 1) == 10

-- one of the six words after the first is this one
abbrev pub has_word : List ℕ → List (List ℕ) → Bool
has_word w ws = bytes_eq (word 1 ws) w || (bytes_eq (word 2 ws) w || (bytes_eq (word 3 ws) w
    || (bytes_eq (word 4 ws) w || (bytes_eq (word 5 ws) w || bytes_eq (word 6 ws) w))))

-- what was recorded, by the words of its line
unfoldable pub recorded_at : List (List ℕ) → Recorded
recorded_at ws = record {
  set = has_word (codes "set") ws;
  erase = has_word (codes "erase") ws;
  uses = has_word (codes "use") ws;
  take = has_word (codes "take") ws;
  free = has_word (codes "free") ws;
  model = has_word (codes "model") ws;
}

-- what is not there, by the words of its line
unfoldable pub lost_at : List (List ℕ) → Result TraceLine Reason
lost_at ws = do
  count ← number (word 1 ws)
  missed ← number (word 2 ws)
  Ok (TraceLine.Lost count missed)

-- an event with its number and its thread, by the words of its line
unfoldable pub numbered_at : List (List ℕ) → Result TraceLine Reason
numbered_at ws = do
  n ← number (field 0 ws)
  a ← lettered (field 1 ws)
  k ← ok_or (event_named (field 2 ws)) Reason.Word
  e ← event_at k (drop 1 (drop 1 (drop 1 ws)))
  Ok (TraceLine.Event n (record { thread = a; event = e }))

-- what the words of a line tell, of which there is one
unfoldable pub words_at : List (List ℕ) → Result TraceLine Reason
words_at ws = if bytes_eq (word 0 ws) (codes "names") then Ok (TraceLine.Names (recorded_at ws))
    else (if bytes_eq (word 0 ws) (codes "lost") then lost_at ws else numbered_at ws)

-- what a text tells; nothing is a blank line
abbrev pub told_by : List ℕ → Result TraceLine Reason
told_by [] = Ok TraceLine.Blank
told_by (b ∷ t) = words_at (split (b ∷ t))

-- what a line tells: that whose text it is, but for its comment and the white space at its end
unfoldable pub line_at : List ℕ → Result TraceLine Reason
line_at l = if is_ended l then (do
  x ← told_by (text_of l)
  if bytes_eq (text_of l ++ 10 ∷ []) (line_text x) then Ok x else Err Reason.Shape) else Err Reason.LineEnd
