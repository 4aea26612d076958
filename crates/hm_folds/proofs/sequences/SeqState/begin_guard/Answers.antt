use Rattle.std.proofs.Common.{arith}
use Rattle.hm_folds.proofs.SeqSteps.{start_kept}
use Rattle.hm_folds.proofs.sequences.SeqState.begin_guard.Goals as goal

pub returns : goal.returns
returns c = start_kept c.args.self.now c.number.result c.number-2.result c.args.proc c.args.actor c.args.seq c.args.span c.overlapping-met.result c.number.ensures.same c.number-2.ensures.same (omega arith) (omega arith) c.overlapping-met.ensures c.requires
