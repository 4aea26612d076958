-- What was read of a report's front.
use Rattle.std.specs.Prelude.{◌≡◌, ℕ, ◌+◌, ◌<◌, List, ◌∷◌, ◌++◌, length, take, Result, Ok, Err}
use Rattle.hm_base.specs.Program.{Program, IsScript}
use Rattle.hm_report.specs.Report.{history_line}
use Rattle.hm_script.specs.Automaton.{lines}
use Rattle.hm_script.specs.Spelling.{text}
use Rattle.hm_report_front.specs.declared.head.BadLine.{BadLine}
use Rattle.hm_report_front.specs.declared.head.Head.{Head}

-- a script's lines, `history`, and these
abbrev pub lines_behind : Program → List (List ℕ) → List (List ℕ)
lines_behind c ls = lines (text c) ++ history_line ∷ ls

-- the first n lines of the bytes are not those of a script and `history`, whatever follows, and any fewer are
pub record IsBadHead (bytes : List ℕ) (n : ℕ) : Type 0 where
  pub bad : (c : Program) (ls : List (List ℕ)) → IsScript c → take n (lines_behind c ls) ≡ take n (lines bytes) → ⊥
  pub before : (k : ℕ) → k < n
      → (c : Program) × IsScript c × ((ls : List (List ℕ)) → take k (lines_behind c ls) ≡ take k (lines bytes))

-- the bytes are the lines of this script, `history`, and then the rest, of which the first line has this number
pub record IsHead (bytes : List ℕ) (c : Program) (first : ℕ) (rest : List ℕ) : Type 0 where
  pub script : IsScript c
  pub lines_are : lines bytes ≡ lines_behind c (lines rest)
  pub number : first ≡ length (lines (text c)) + 2

-- what was read of a report's front: the script and where its entries begin, or the first bad line
abbrev pub ReadsHead : List ℕ → Result Head BadLine → Type 0
ReadsHead bytes (Ok head) = IsHead bytes head.script head.first head.rest.now
ReadsHead bytes (Err bad) = IsBadHead bytes bad.0
