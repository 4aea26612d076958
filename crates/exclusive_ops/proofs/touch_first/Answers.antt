use Rattle.std.proofs.Common.{refl}
use Rattle.exclusive_ops.proofs.touch_first.Goals as goal

pub returns : goal.returns
returns g c = rw (c.fault.ensures, c.suits-suited.ensures, c.place.ensures) refl
