use Rattle.std.proofs.Common.{refl}
use Rattle.hm_steps.proofs.phases.begun_turn.Goals as goal

pub returns : goal.returns
returns g c = rw (c.comes_to.ensures, c.rlock_mirror.ensures, c.op_mirror.ensures) refl
