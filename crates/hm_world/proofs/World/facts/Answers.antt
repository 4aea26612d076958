use Rattle.std.proofs.Common.{refl}
use Rattle.hm_world.specs.WorldValue.{now}
use Rattle.hm_world.proofs.World.facts.Goals as goal

pub returns-clause-now : goal.returns-clause-now
unfolding now
returns-clause-now c = refl
