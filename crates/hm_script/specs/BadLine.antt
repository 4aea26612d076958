-- The first bad line, without regard to how lines are read.
use Rattle.std.specs.Prelude.{◌≡◌, ℕ, ◌<◌, List, take}
use Rattle.hm_base.specs.Program.{Program, IsScript}
use Rattle.hm_script.specs.declared.words.Words.{Words}
use Rattle.hm_script.specs.Built.{IsBuilt}
use Rattle.hm_script.specs.Spelling.{text}
use Rattle.hm_script.specs.Automaton.{lines}

-- the first n lines of the bytes are the first n lines of this script's text, and it has only these words
pub record SharesLinesOf (w : Words) (bytes : List ℕ) (n : ℕ) (s : Program) : Type 0 where
  pub script : IsScript s
  pub built : IsBuilt w s
  pub shares : take n (lines (text s)) ≡ take n (lines bytes)

-- no text of a script of these words has the first n lines of the bytes, and some text has any fewer
pub record IsFirstBadOf (w : Words) (bytes : List ℕ) (n : ℕ) : Type 0 where
  pub bad : (s : Program) → SharesLinesOf w bytes n s → ⊥
  pub before : (k : ℕ) → k < n → (s : Program) × SharesLinesOf w bytes k s

-- the first n lines of the bytes are the first n lines of this script's text
pub record SharesLines (bytes : List ℕ) (n : ℕ) (s : Program) : Type 0 where
  pub script : IsScript s
  pub shares : take n (lines (text s)) ≡ take n (lines bytes)

-- no text of a script has the first n lines of the bytes, and some text has any fewer
pub record IsFirstBad (bytes : List ℕ) (n : ℕ) : Type 0 where
  pub bad : (s : Program) → SharesLines bytes n s → ⊥
  pub before : (k : ℕ) → k < n → (s : Program) × SharesLines bytes k s
