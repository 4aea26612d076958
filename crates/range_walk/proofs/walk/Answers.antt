use Rattle.std.proofs.Common.{refl}
use Rattle.range_walk.proofs.walk.Goals as goal

pub returns : goal.returns
returns g c = rw (c.fault.ensures, c.suits_walk-suited.ensures, c.place-place.ensures, c.mirror_dev.ensures, c.op_mirror.ensures, c.op_writes.ensures) refl
