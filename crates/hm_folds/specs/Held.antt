-- Which frames of a pool are held.
use Rattle.std.specs.Prelude.{◌≡◌, ℕ, ◌≤◌, ◌<◌, ◌^◌, not, false}
use Rattle.hm_folds.specs.Numbers.{has_number}
use Rattle.hm_folds.specs.declared.numbers.Numbers.{Numbers}

-- below a number each frame is held or noted as free, and from there on none is either
pub record IsHeld (frames next : ℕ) (held free : Numbers) : Type 0 where
  pub few : frames < 2 ^ 32
  pub within : next ≤ frames
  pub below : (n : ℕ) → n < next → has_number free n ≡ not (has_number held n)
  pub no_held : (n : ℕ) → next ≤ n → has_number held n ≡ false
  pub no_free : (n : ℕ) → next ≤ n → has_number free n ≡ false
