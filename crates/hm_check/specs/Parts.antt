-- The parts of a report, line by line.
use Rattle.std.specs.Prelude.{◌≡◌, ℕ, ◌<◌, ◌≤◌, Bool, true, false, List, [], ◌∷◌, ◌++◌, length, ⊤}
use Rattle.hm_base.specs.Program.{Program, IsScript}
use Rattle.hm_history.specs.Kernel.Due.{due}
use Rattle.hm_history.specs.Laws.{DueFrom}
use Rattle.hm_history.specs.declared.Entry.{Entry}
use Rattle.hm_history.specs.declared.Progress.{Progress}
use Rattle.hm_report.specs.Report.{entry_line, unfinished_lines, end_line, first_unended}
use Rattle.hm_report_front.specs.Parts.{entry_list}
use Rattle.hm_script.specs.Automaton.{lines}
use Rattle.hm_world.specs.WorldValue.{WorldValue, grown}

-- ---- the entries

-- the entry may come next
pub record MayCome (c : Program) (h : List Entry) (e : Entry) : Type 0 where
  pub is_due : due c h e.actor ≡ Progress.Did e
  pub room : length h < 2000000

-- no entry that may come next has this line
abbrev pub IsNoEntry : Program → List Entry → List ℕ → Type 0
IsNoEntry c h l = (e : Entry) → MayCome c h e → l ≡ entry_line (length h) e → ⊥

-- the first of these lines, if there is one, is that of no entry that may come next
abbrev pub BeginsNoEntry : Program → List Entry → List (List ℕ) → Type 0
BeginsNoEntry c h [] = ⊤
BeginsNoEntry c h (l ∷ ls) = IsNoEntry c h l

-- the entry that may come next and has this line was added
pub record Added (t u : WorldValue) (l : List ℕ) : Type 0 where
  pub entry : Entry
  pub may : MayCome t.script t.history entry
  pub text : l ≡ entry_line (length t.history) entry
  pub grown : u ≡ grown t entry.actor entry.kind

-- it was, or there is none and nothing was added
abbrev pub TakesLine : WorldValue → WorldValue → List ℕ → Bool → Type 0
TakesLine t u l taken = elim taken [ true ↦ Added t u l | false ↦ (u ≡ t) × IsNoEntry t.script t.history l ]

-- the entries of the lines were added, up to a line of none
pub record TakesAll (t u : WorldValue) (bytes rest : List ℕ) : Type 0 where
  pub same : u.script ≡ t.script
  pub lines_are : lines bytes ≡ entry_list 0 u.history ++ lines rest
  pub ends : BeginsNoEntry u.script u.history (lines rest)

-- the script's entries that were read, and what follows them
pub record TakenFrom (c : Program) (bytes : List ℕ) (d : Program) (h : List Entry) (rest : List ℕ) : Type 0 where
  pub same : d ≡ c
  pub script : IsScript c
  pub dues : DueFrom c [] h
  pub few : length h ≤ 2000000
  pub lines_are : lines bytes ≡ entry_list 0 h ++ lines rest
  pub ends : BeginsNoEntry c h (lines rest)

-- a byte after a number
abbrev pub IsNoDigit : ℕ → Type 0
IsNoDigit b = b < 48

-- ---- the end

-- what follows the entries
abbrev pub tail_of : Program → List Entry → List ℕ
tail_of c h = unfinished_lines c (first_unended c h) ++ end_line (length h)
