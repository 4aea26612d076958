-- The last table entry that was set for each page of a mirror.
use Rattle.std.specs.Prelude.{ℕ, Bool, Option, option_map}
use Rattle.std.specs.Ordering.{nat_cmp}
use Rattle.std.specs.BTreeMap as tree
use Rattle.hm_parts.specs.declared.sets.LastSet.{LastSet}
use Rattle.hm_parts.specs.declared.sets.Sets.{Sets}

-- whether it goes back to a look-up, and the position from which it is to be untold
abbrev pub set_of : LastSet → Bool × ℕ
set_of x = (x.goes_back, x.since)

-- those of the last `set` of a page
abbrev pub set_at : Sets → ℕ → Option (Bool × ℕ)
set_at x v = option_map set_of (tree.get nat_cmp x.sets v)
