use Rattle.std.proofs.Common.{nat_le, rules}
use Rattle.std.proofs.lemmas.Fn.{always_returns_same}
use Rattle.hm_base.specs.Areas.{last_of}
use Rattle.hm_base.specs.declared.area.Area.{Area}
use Rattle.vm_areas.proofs.Searched.{partitioned, place_is}
use Rattle.vm_areas.proofs.place_of.Goals as goal

pub returns-clause-place : goal.returns-clause-place
returns-clause-place c =
    let ends = λ (a : Area). nat_le (last_of a.span) c.args.page in
    place_is c.args.page c.args.areas.now _ c.partition_point.ensures.bound
    (c.partition_point.ensures.partitioned ends (always_returns_same _ _ _ (λ a r g h. (search rules, search rules))) (partitioned c.args.page 0 c.args.areas.now c.requires))
