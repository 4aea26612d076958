-- What is read of a report, and its first bad line.
use Rattle.std.specs.Prelude.{◌≡◌, ℕ, ◌+◌, ◌<◌, ◌≤◌, List, [], ◌∷◌, ◌++◌, length, take, Result, Ok, Err, All, ⊤}
use Rattle.hm_base.specs.Program.{Program}
use Rattle.hm_history.specs.declared.Entry.{Entry}
use Rattle.hm_report_reading.specs.Entries.{FitsUnfinished, unfinished_text}
use Rattle.hm_report_reading.specs.declared.reader.Unfinished.{Unfinished}
use Rattle.hm_report_front.specs.Heads.{lines_behind}
use Rattle.hm_report_front.specs.declared.head.BadLine.{BadLine}
use Rattle.hm_report_reading.specs.Texts.{HasText, text_of}
use Rattle.hm_report_reading.specs.declared.reading.WholeReport.{WholeReport}
use Rattle.hm_script.specs.Automaton.{lines}
use Rattle.hm_script.specs.Spelling.{text}

-- ---- the first bad line, without regard to how reports are read

-- the first n lines of the bytes are the first n lines of this text
pub record SharesLines (bytes : List ℕ) (n : ℕ) (c : Program) (h : List Entry) (us : List Unfinished) : Type 0 where
  pub has : HasText c h us
  pub shares : take n (lines (text_of c h us)) ≡ take n (lines bytes)

-- no such text has the first n lines of the bytes, and some has any fewer; a line that is missing is bad if no such
-- text ends before it
pub record IsFirstUnread (bytes : List ℕ) (n : ℕ) : Type 0 where
  pub bad : (c : Program) (h : List Entry) (us : List Unfinished) → SharesLines bytes n c h us → ⊥
  pub before : (k : ℕ) → k < n
      → (c : Program) × (h : List Entry) × (us : List Unfinished) × SharesLines bytes k c h us

-- ---- what is read

-- the bytes are the text of what was read, or this line is the first bad one
abbrev pub IsReadOf : List ℕ → Result WholeReport BadLine → Type 0
IsReadOf bytes (Ok r) = HasText r.script r.history.entries r.unfinished.items
    × (bytes ≡ text_of r.script r.history.entries r.unfinished.items)
    × (r.first ≡ length (lines (text r.script)) + 2)
IsReadOf bytes (Err bad) = IsFirstUnread bytes bad.0

-- what was read is this
abbrev pub IsThis : Program → List Entry → List Unfinished → Result WholeReport BadLine → Type 0
IsThis c h us (Ok r) = (r.script ≡ c) × (r.history.entries ≡ h) × (r.unfinished.items ≡ us)
IsThis c h us (Err bad) = ⊥

-- what is read of any bytes that have the script's lines, the line `history`, and then the lines of these, the first of
-- which has this number
abbrev pub IsReadBehind : Program → ℕ → List ℕ → Result WholeReport BadLine → Type 0
IsReadBehind c first bytes r = (whole : List ℕ) → lines whole ≡ lines_behind c (lines bytes)
    → first ≡ length (lines (text c)) + 2 → IsReadOf whole r

-- ---- the operations that have not ended

-- their lines
abbrev pub unfinished_list : List Unfinished → List (List ℕ)
unfinished_list [] = []
unfinished_list (u ∷ us) = unfinished_text u.actor u.index ∷ unfinished_list us

-- the first of these lines tells none
abbrev pub BeginsNoUnfinished : List (List ℕ) → Type 0
BeginsNoUnfinished [] = ⊤
BeginsNoUnfinished (l ∷ ls) = (u : Unfinished) → FitsUnfinished u → l ≡ unfinished_text u.actor u.index → ⊥

-- the bytes are the lines of these, and then a line of none
pub record ReadsUnfinished (bytes : List ℕ) (us : List Unfinished) (rest : List ℕ) : Type 0 where
  pub lines_are : lines bytes ≡ unfinished_list us ++ lines rest
  pub fits : All FitsUnfinished us
  pub few : length us ≤ length bytes
  pub ends : BeginsNoUnfinished (lines rest)
