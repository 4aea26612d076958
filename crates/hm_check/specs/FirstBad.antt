-- The first line of bytes that no legal report has, without regard to how reports are read.
use Rattle.std.specs.Prelude.{◌≡◌, ℕ, ◌≤◌, ◌<◌, List, length, take}
use Rattle.hm_base.specs.Program.{Program, IsScript}
use Rattle.hm_history.specs.Kernel.Legal.{Legal}
use Rattle.hm_history.specs.declared.Entry.{Entry}
use Rattle.hm_report.specs.Report.{report}
use Rattle.hm_script.specs.Automaton.{lines}

-- the report of these is legal: the history is, and is not too long
pub record IsLegalReport (c : Program) (h : List Entry) : Type 0 where
  pub script : IsScript c
  pub legal : Legal c h
  pub few : length h ≤ 2000000

-- the first n lines of the bytes are the first n lines of this legal report
pub record SharesLines (bytes : List ℕ) (n : ℕ) (c : Program) (h : List Entry) : Type 0 where
  pub legal : IsLegalReport c h
  pub shares : take n (lines (report c h)) ≡ take n (lines bytes)

-- no legal report has the first n lines of the bytes, and some legal report has any fewer; a line that is missing is
-- bad if no legal report ends before it
pub record IsFirstBad (bytes : List ℕ) (n : ℕ) : Type 0 where
  pub bad : (c : Program) (h : List Entry) → SharesLines bytes n c h → ⊥
  pub before : (k : ℕ) → k < n → (c : Program) × (h : List Entry) × SharesLines bytes k c h
