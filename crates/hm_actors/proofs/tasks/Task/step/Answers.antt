use Rattle.std.proofs.Common.{sym}
use Rattle.hm_actors.proofs.tasks.Task.step.Goals as goal

pub step_op-requires-clause-fits : goal.step_op-requires-clause-fits
step_op-requires-clause-fits c = c.requires.fits _ (sym c.in-Some.ensures.op)
