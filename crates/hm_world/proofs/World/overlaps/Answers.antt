use Rattle.std.proofs.Common.{refl}
use Rattle.hm_world.proofs.World.overlaps.Goals as goal

pub returns-in-Start : goal.returns-in-Start
returns-in-Start c = rw (c.overlaps_span.ensures, c.in-Start.is) refl
