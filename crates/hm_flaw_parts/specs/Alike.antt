-- Marks that are the same, part by part.
use Rattle.std.specs.Prelude.{◌≡◌, ℕ, option_map}
use Rattle.hm_race_keys.specs.Arrays.{flag_in}
use Rattle.hm_race_keys.specs.Sparse.{found}
use Rattle.hm_flaw_parts.specs.Marks.{at_of, set_of}
use Rattle.hm_flaw_parts.specs.declared.marks.Marks.{Marks}

-- the same look-ups, spans that mirrors were told of, `set`s, and actors that were short of a frame
pub record SameMarks (x y : Marks) : Type 0 where
  pub begun : (a m : ℕ) → option_map at_of (found x.begun.value a m) ≡ option_map at_of (found y.begun.value a m)
  pub told : x.told.value ≡ y.told.value
  pub sets : (m v : ℕ) → option_map set_of (found x.sets.value m v) ≡ option_map set_of (found y.sets.value m v)
  pub short : (a : ℕ) → flag_in x.short a ≡ flag_in y.short a
