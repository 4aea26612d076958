use Rattle.std.proofs.Common.{arith}
use Rattle.hm_base.specs.PlaceWords.{pool_index}
use Rattle.hm_folds.specs.Commits.{frame_of}
use Rattle.hm_folds.proofs.ByFrame.{committed_set, pool_same}
use Rattle.hm_folds.proofs.commits.Commits.set.Goals as goal

pub returns-in-Ok-clause-ok : goal.returns-in-Ok-clause-ok
returns-in-Ok-clause-ok c = λ f. committed_set c.args.self.now.pools c.pool_index.result c.from.result c.args.frame.now c.args.to.now c.index-self-pool_index.result c.set.new.self c.dev_of-dev.result c.pool_index.ensures.same (omega arith) c.from.ensures c.dev_of-dev.ensures c.in-Ok.ensures.ok f

pub returns-in-Err-clause-err : goal.returns-in-Err-clause-err
returns-in-Err-clause-err c = λ f. pool_same (frame_of f.number) c.args.self.now.pools c.pool_index.result (pool_index f.pool) c.index-self-pool_index.result c.set.new.self (omega arith) (c.in-Err.ensures.err f.number)
