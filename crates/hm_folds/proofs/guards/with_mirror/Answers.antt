use Rattle.std.proofs.Common.{arith}
use Rattle.hm_folds.proofs.Sets.{one_told}
use Rattle.hm_folds.proofs.guards.with_mirror.Goals as goal

pub returns : goal.returns
returns c = one_told c.args.set.now c.number.result c.args.mirror c.number.ensures.same (omega arith) (omega arith) c.requires
