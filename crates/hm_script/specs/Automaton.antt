-- Reading a script line by line, with the first bad line and its reason.
use Rattle.std.specs.Prelude.{ℕ, ◌+◌, ◌-◌, ◌^◌, Bool, true, false, ◌&&◌, ◌||◌, List, [], ◌∷◌, ◌++◌, length, take}
use Rattle.std.specs.Prelude.{Result, Ok, Err, nat_lt, nat_le, ◌==◌, if◌then◌else◌, codes, slice_index}
use Rattle.std.specs.List.{list_all}
use Rattle.std.specs.Option.{ok_or}
use Rattle.std.specs.Str.{bytes_eq}
use Rattle.hm_base.specs.Program.{Program, add_to_last, run_lines, operation_count}
use Rattle.hm_base.specs.declared.ops.Version.{Version}
use Rattle.hm_base.specs.declared.ops.Version.TheVariants.{One, Two}
use Rattle.hm_base.specs.declared.ops.ScheduleLine.TheVariants.{Run}
use Rattle.hm_base.specs.declared.ops.ScheduleLine.TheVariants as schedule
use Rattle.hm_script.specs.declared.keyword.Keyword.{Keyword}
use Rattle.hm_script.specs.declared.keyword.Keyword.TheVariants.{Frames, Device, Skip, Actor, Turns, Drain, Op}
use Rattle.hm_script.specs.declared.part.Part.{Part}
use Rattle.hm_script.specs.declared.part.Part.TheVariants as part_of
use Rattle.hm_script.specs.declared.reason.Reason.{Reason}
use Rattle.hm_script.specs.declared.reason.Reason.TheVariants.{LineEnd, Header, Word, Range, Undeclared, Limit}
use Rattle.hm_script.specs.declared.reason.Refused.{Refused}
use Rattle.hm_script.specs.declared.words.Words.{Words}
use Rattle.hm_script.specs.Built.{has_op, word_of_version}
use Rattle.hm_script.specs.Gives.{◌>>=◌}
use Rattle.hm_script.specs.Splitting.{split, word}
use Rattle.hm_script.specs.Numerals.{number}
use Rattle.hm_script.specs.Keywords.{keyword_named}
use Rattle.hm_script.specs.Reading.{demand, shape, one, two, op_at}

-- ---- lines

-- the byte becomes the first of the first line, or a line of its own if there is none
abbrev pub onto_line : ℕ → List (List ℕ) → List (List ℕ)
onto_line b [] = (b ∷ []) ∷ []
onto_line b (l ∷ ls) = (b ∷ l) ∷ ls

-- the lines, each with its line feed; the last may have none
abbrev pub lines : List ℕ → List (List ℕ)
lines [] = []
lines (b ∷ bytes) = if b == 10 then (10 ∷ []) ∷ lines bytes else onto_line b (lines bytes)

-- these bytes alone may stand in a line, besides its line feed
abbrev pub is_printable : ℕ → Bool
is_printable b = nat_le 32 b && nat_le b 126

-- the line ends in a line feed, and before it stand printable bytes
abbrev pub is_line : List ℕ → Bool
is_line l = (slice_index l (length l - 1) == 10) && list_all is_printable (take (length l - 1) l)

-- the line without its line feed
unfoldable pub line_text : List ℕ → Result (List ℕ) Reason
line_text l = if is_line l then Ok (take (length l - 1) l) else Err LineEnd

-- ---- what has been read

-- the part that has been reached, and the script so far
pub record State : Type 0 where
  pub part : Part
  pub script : Program

-- the script before any line was read; its numbers are placeholders until their lines come
abbrev pub empty : Program
empty = record { version = One; frames = 0; devices = []; skip = 0; actors = []; schedule = [] }

-- the two fields of a state, so that equations need no record
abbrev pub state : Part → Program → State
state p s = record { part = p; script = s }

-- the keywords that may come next in the order of the parts
abbrev pub allows : Part → Keyword → Bool
allows part_of.Headed Frames = true
allows part_of.Devices Device = true
allows part_of.Devices Skip = true
allows part_of.Devices Actor = true
allows part_of.Devices Turns = true
allows part_of.Devices Drain = true
allows part_of.Skipped Actor = true
allows part_of.Skipped Turns = true
allows part_of.Skipped Drain = true
allows part_of.Actors Actor = true
allows part_of.Actors (Op op) = true
allows part_of.Actors Turns = true
allows part_of.Actors Drain = true
allows part_of.Turns Turns = true
allows part_of.Turns Drain = true
allows _ _ = false

-- the set has the keyword, and the script so far may have one more
abbrev pub permits : Words → Program → Keyword → Bool
permits w s Skip = w.skip
permits w s Actor = w.several_actors || (length s.actors == 0)
permits w s Turns = w.several_turns || (run_lines s.schedule == 0)
permits w s Drain = w.drain
permits w s (Op op) = has_op w op && word_of_version s.version op
permits w s _ = true

unfoldable pub keyword_at : Words → State → List ℕ → Result Keyword Reason
keyword_at w s word = do
  k ← ok_or (keyword_named word) Word
  _ ← demand (allows s.part k && permits w s.script k) Word
  Ok k

-- ---- a line after the first

unfoldable pub step : Keyword → State → List (List ℕ) → Result State Reason
step Frames s words = one number (λ n. do
  _ ← demand (nat_le n 16384) Range
  Ok (state part_of.Devices (record s.script { frames = n }))) words
step Device s words = two number number (λ d n. do
  _ ← demand ((d == length s.script.devices) && (nat_lt d 4 && nat_le n 8192)) Range
  Ok (state part_of.Devices (record s.script { devices = s.script.devices ++ n ∷ [] }))) words
step Skip s words = one number (λ m. do
  _ ← demand (nat_le 1 m && nat_le m (2 ^ 36)) Range
  Ok (state part_of.Skipped (record s.script { skip = m }))) words
step Actor s words = one number (λ a. do
  _ ← demand ((a == length s.script.actors) && nat_lt a 16) Range
  Ok (state part_of.Actors (record s.script { actors = s.script.actors ++ [] ∷ [] }))) words
step Turns s words = two number number (λ a k. do
  _ ← demand (nat_le 1 k && nat_le k 1000000) Range
  _ ← demand (nat_lt a (length s.script.actors)) Undeclared
  _ ← demand (nat_lt (run_lines s.script.schedule) 100000) Limit
  Ok (state part_of.Turns (record s.script { schedule = s.script.schedule ++ Run a k ∷ [] }))) words
step Drain s words = do
  _ ← shape 1 words
  Ok (state part_of.Drained (record s.script { schedule = s.script.schedule ++ schedule.Drain ∷ [] }))
step (Op w) s words = do
  op ← op_at (length s.script.devices) w words
  _ ← demand (nat_lt (operation_count s.script.actors) 100000) Limit
  Ok (state part_of.Actors (record s.script { actors = add_to_last s.script.actors op }))

-- ---- a line

-- the line's words, by the part that has been reached
unfoldable pub read_text : Words → State → List ℕ → Result State Reason
read_text w s text = do
  k ← keyword_at w s (word 0 (split text))
  step k s (split text)

-- the version that the first line names
unfoldable pub version_named : Words → List ℕ → Result Version Reason
version_named w text = if bytes_eq text (codes "hmm 1") then Ok One
    else (if bytes_eq text (codes "hmm 2") && w.version_two then Ok Two
    else Err Header)

unfoldable pub read_header : Words → State → List ℕ → Result State Reason
read_header w s text = do
  v ← version_named w text
  Ok (state part_of.Headed (record s.script { version = v }))

-- no line was read yet, so only a header may come
abbrev pub is_start : Part → Bool
is_start part_of.Start = true
is_start _ = false

unfoldable pub next : Words → State → List ℕ → Result State Reason
next w s l = do
  text ← line_text l
  if is_start s.part then read_header w s text else read_text w s text

-- ---- all lines

-- a script is refused at a line, for a reason
abbrev pub refused : ℕ → Reason → Refused
refused n r = record { line = n; why = r }

-- the script, or the line that is missing
abbrev pub finish : ℕ → State → Result Program Refused
finish n s = elim s.part [
  | part_of.Start ↦ Err (refused n Header)
  | part_of.Headed ↦ Err (refused n Word)
  | _ ↦ Ok s.script
]

-- reading goes on from a state, or ends with the reason at this line
abbrev pub after : {A : Type 0} → ℕ → Result State Reason → (State → Result A Refused) → Result A Refused
after n (Ok s) go = go s
after n (Err r) go = Err (refused n r)

-- reads these lines, of which the first has this number
unfoldable pub run : Words → ℕ → State → List (List ℕ) → Result Program Refused
run w n s [] = finish n s
run w n s (l ∷ ls) = after n (next w s l) (λ t. run w (n + 1) t ls)

-- the state before the first line
abbrev pub start : State
start = state part_of.Start empty

-- the script of these words whose text the bytes are, or the first bad line and its reason
unfoldable pub reading : Words → List ℕ → Result Program Refused
reading w bytes = run w 1 start (lines bytes)
