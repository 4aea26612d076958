-- The parts of a report, line by line.
use Rattle.std.specs.Prelude.{◌≡◌, ℕ, ◌+◌, Bool, true, not, Option, Some, None, List, [], ◌∷◌, ◌++◌, take}
use Rattle.std.specs.List.{list_all}
use Rattle.std.specs.Borrow.{Bor}
use Rattle.std.specs.Str.{bytes_eq}
use Rattle.hm_history.specs.declared.Entry.{Entry}
use Rattle.hm_report.specs.Report.{entry_line, history_line}
use Rattle.hm_script.specs.Automaton.{lines}

-- ---- the script

-- any line but `history`
abbrev pub is_script_line : List ℕ → Bool
is_script_line l = not (bytes_eq l history_line)

-- after those lines comes `history`, or nothing
abbrev pub GoesOnWith : List ℕ → List ℕ → Option (Bor (List ℕ)) → Type 0
GoesOnWith bytes script None = lines bytes ≡ lines script
GoesOnWith bytes script (Some rest) = lines bytes ≡ lines script ++ history_line ∷ lines rest.now

-- the bytes begin with these lines, none of which is `history`
pub record FrontOf (bytes script : List ℕ) (rest : Option (Bor (List ℕ))) : Type 0 where
  pub none : list_all is_script_line (lines script) ≡ true
  pub goes_on : GoesOnWith bytes script rest

-- ---- the entries

-- the lines of entries, of which the first has this position
abbrev pub entry_list : ℕ → List Entry → List (List ℕ)
entry_list at [] = []
entry_list at (e ∷ es) = entry_line at e ∷ entry_list (at + 1) es

-- ---- the lines that are shared

-- these lists begin with the same n lines, and not with the same n + 1
pub record Differ (xs ys : List (List ℕ)) (n : ℕ) : Type 0 where
  pub same : take n xs ≡ take n ys
  pub next : take (n + 1) xs ≡ take (n + 1) ys → ⊥
