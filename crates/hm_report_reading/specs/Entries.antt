-- What the lines of a report after its script say.
use Rattle.std.specs.Prelude.{◌≡◌, ◌⊎◌, ℕ, ◌^◌, ◌<◌, ◌≤◌, Option, Some, None, List, [], ◌∷◌, ◌++◌, length, codes, ⊤}
use Rattle.std.specs.Prelude.{All}
use Rattle.std.specs.Fmt.{decimal}
use Rattle.hm_history.specs.declared.Entry.{Entry}
use Rattle.hm_report.specs.Report.{end_line, entry_line, entry_lines}
use Rattle.hm_report.specs.Words.{actor_text}
use Rattle.hm_script.specs.Automaton.{lines}
use Rattle.hm_script.specs.Spelling.{line}
use Rattle.hm_report_reading.specs.Fits.{FitsEntry}
use Rattle.hm_report_reading.specs.declared.reader.Unfinished.{Unfinished}

-- the line is that of the entry that was found, whose numbers are in range, or of none
abbrev pub IsRead : ℕ → List ℕ → Option Entry → Type 0
IsRead at line None = (e : Entry) → FitsEntry e → line ≡ entry_line at e → ⊥
IsRead at line (Some e) = FitsEntry e × (line ≡ entry_line at e)

-- the line of an actor whose operation of this number is its first that has not ended
abbrev pub unfinished_text : ℕ → ℕ → List ℕ
unfinished_text a index = line (codes "unfinished" ∷ actor_text a ∷ decimal index ∷ [])

-- its numbers are in range
pub record FitsUnfinished (u : Unfinished) : Type 0 where
  pub actor : u.actor < 16
  pub index : u.index < 2 ^ 64

-- what was read of a line of an operation that has not ended: its actor and number, or that it is no such line
abbrev pub IsUnfinished : List ℕ → Option Unfinished → Type 0
IsUnfinished line None = (u : Unfinished) → FitsUnfinished u → line ≡ unfinished_text u.actor u.index → ⊥
IsUnfinished line (Some u) = FitsUnfinished u × (line ≡ unfinished_text u.actor u.index)

-- what was read of a report's last line: the number of entries, or that it is no such line
abbrev pub IsEnd : List ℕ → Option ℕ → Type 0
IsEnd line None = (n : ℕ) → n < 2 ^ 64 → line ≡ end_line n → ⊥
IsEnd line (Some n) = line ≡ end_line n

-- the first of these lines is that of no entry
abbrev pub BeginsNone : ℕ → List (List ℕ) → Type 0
BeginsNone at [] = ⊤
BeginsNone at (l ∷ ls) = IsRead at l None

-- the bytes are the lines of these entries, and then a line of none, unless there are as many as a history has
pub record ReadsAll (bytes : List ℕ) (es : List Entry) (rest : List ℕ) : Type 0 where
  pub bytes_are : bytes ≡ entry_lines 0 es ++ rest
  pub fits : All FitsEntry es
  pub few : length es ≤ 2000000
  pub ends : BeginsNone (length es) (lines rest) ⊎ (length es ≡ 2000000)
