-- When what is kept of look-ups is what is recalled of a history.
use Rattle.std.specs.Prelude.{◌≡◌, ℕ}
use Rattle.hm_flaws.specs.Recalled.{Recalled}
use Rattle.hm_parts.specs.Lookups.{begun_in, set_in, told_in}
use Rattle.hm_parts.specs.declared.pasts.Pasts.{Pasts}

-- what is kept is what is recalled
pub record AreRecalled (r : Recalled) (x : Pasts) : Type 0 where
  pub begun : (a m : ℕ) → begun_in x.begun.items a m ≡ r.begun a m
  pub told : (m v : ℕ) → told_in x.told.items m v ≡ r.told m v
  pub set : (m v : ℕ) → set_in x.sets.items m v ≡ r.set m v
