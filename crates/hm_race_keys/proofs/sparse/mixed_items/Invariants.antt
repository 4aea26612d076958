use Rattle.std.proofs.Common.{◌≡◌, drop}
use Rattle.hm_race_keys.specs.Sparse.{mixed_each, mixed_items}
use Rattle.hm_race_keys.proofs.sparse.mixed_items.Given as goal

abbrev pub invariant-loop-item : goal.invariant-loop-item
invariant-loop-item g l = mixed_each g.V.Kept.mixed l.total (drop l.item-index l.items) ≡ mixed_items g.V.Kept.mixed l.sum l.items
