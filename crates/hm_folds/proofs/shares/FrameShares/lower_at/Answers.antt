use Rattle.std.proofs.Common.{arith}
use Rattle.hm_folds.proofs.ByFrame.{lowered}
use Rattle.hm_folds.proofs.shares.FrameShares.lower_at.Goals as goal

pub returns : goal.returns
returns c = λ f. lowered c.args.self.now.pools c.pool_index.result c.from.result c.args.frame.now c.index-self-pool_index.result c.lower.new.self c.args.fewer c.pool_index.ensures.same (omega arith) c.from.ensures c.lower.ensures f
