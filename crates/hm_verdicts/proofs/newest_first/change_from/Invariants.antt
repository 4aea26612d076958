use Rattle.std.proofs.Common.{◌≡◌}
use Rattle.hm_verdicts.proofs.Mapping.{mapped_to}
use Rattle.hm_verdicts.proofs.newest_first.change_from.Given as goal

abbrev pub invariant-loop-number : goal.invariant-loop-number
invariant-loop-number g l = l.items.items ≡ mapped_to (g.C.Changes.made l.how) l.number l.fn.items.items
