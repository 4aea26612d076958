use Rattle.std.proofs.Common.{◌≡◌}
use Rattle.hm_verdicts.proofs.Mapping.{mapped_to}
use Rattle.hm_verdicts.proofs.newest_first.change_items.Given as goal

abbrev pub invariant-loop-item : goal.invariant-loop-item
invariant-loop-item g l = l.item-items ≡ mapped_to (g.C.Changes.made l.how) l.item-index l.fn.items.items
