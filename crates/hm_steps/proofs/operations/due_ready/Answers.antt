use Rattle.std.proofs.Common.{refl}
use Rattle.hm_steps.proofs.operations.due_ready.Goals as goal

pub returns-in-Fork : goal.returns-in-Fork
returns-in-Fork g c = rw (c.start_all.ensures, c.in-Fork.is) refl

pub returns-in-ToDevice : goal.returns-in-ToDevice
returns-in-ToDevice g c = rw (c.start_mirror.ensures, c.in-ToDevice.is) refl

pub returns-in-ToSystem : goal.returns-in-ToSystem
returns-in-ToSystem g c = rw (c.start_mirror-in-ToSystem.ensures, c.in-ToSystem.is) refl
