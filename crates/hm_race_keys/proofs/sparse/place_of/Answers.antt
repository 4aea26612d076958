use Rattle.std.proofs.Common.{rules}
use Rattle.std.proofs.lemmas.Fn.{always_returns_same}
use Rattle.hm_race_keys.specs.Sparse.{stands_before}
use Rattle.hm_race_keys.proofs.Ordered.{partitioned, place_is}
use Rattle.hm_race_keys.proofs.sparse.place_of.Goals as goal

pub returns-clause-place : goal.returns-clause-place
returns-clause-place g c =
    place_is c.args.row c.args.number c.args.items.now _ c.partition_point.ensures.bound
    (c.partition_point.ensures.partitioned (stands_before c.args.row c.args.number) (always_returns_same _ _ _ (λ a r g h. (search rules, search rules))) (partitioned c.args.row c.args.number 0 0 c.args.items.now c.requires))
