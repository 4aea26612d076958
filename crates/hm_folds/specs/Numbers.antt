-- A set of numbers.
use Rattle.std.specs.Prelude.{◌≡◌, ℕ, ◌≤◌, ◌<◌, Bool, true, false, Option, Some, None}
use Rattle.std.specs.Ordering.{nat_cmp}
use Rattle.std.specs.BTreeSet as bag
use Rattle.hm_folds.specs.declared.numbers.Numbers.{Numbers}

-- the number is in the set
abbrev pub has_number : Numbers → ℕ → Bool
has_number x n = bag.contains nat_cmp x.numbers n

-- a number of it from there on, and none before it is one; without one, none is
pub record IsLeast (x : Numbers) (from at : ℕ) : Type 0 where
  pub above : from ≤ at
  pub there : has_number x at ≡ true
  pub none : (n : ℕ) → from ≤ n → n < at → has_number x n ≡ false

-- what a search from a number on finds: the least number of the set there, or none
abbrev pub IsFirstNumber : Numbers → ℕ → Option ℕ → Type 0
IsFirstNumber x from None = (n : ℕ) → from ≤ n → has_number x n ≡ false
IsFirstNumber x from (Some at) = IsLeast x from at
