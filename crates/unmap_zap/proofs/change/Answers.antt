use Rattle.std.proofs.Common.{refl}
use Rattle.unmap_zap.proofs.change.Goals as goal

pub returns-in-Protect : goal.returns-in-Protect
returns-in-Protect g c = rw (c.start.ensures, c.in-Protect.is) refl
