use Rattle.std.proofs.Common.{◌==◌, not, true, Some, ap, sym, ◌∙◌, arith}
use Rattle.hm_base.specs.PlaceWords.{pool_index}
use Rattle.hm_history.specs.Memory.Words.{least}
use Rattle.hm_folds.specs.HeldFrames.{held_of, frames_of}
use Rattle.hm_folds.proofs.ByFrame.{held_set, or_if, pool_same, read_pool}
use Rattle.hm_folds.proofs.held_frames.HeldFrames.take.Goals as goal

pub take-requires : goal.take-requires
take-requires c =
    read_pool (λ o. least (λ n. not (held_of n o)) 0 (frames_of o)) c.args.self.now.pools c.pool_index.result (pool_index c.args.frame.now.pool) c.index-self-pool_index.result c.pool_index.ensures.same (omega arith)
    ∙ c.requires ∙ ap Some (sym c.from.ensures)

pub returns-in-Ok-clause-frames : goal.returns-in-Ok-clause-frames
returns-in-Ok-clause-frames c = λ p. pool_same frames_of c.args.self.now.pools c.pool_index.result (pool_index p) c.index-self-pool_index.result c.take.new.self (omega arith) c.take.ensures.frames

pub returns-in-Err-clause-frames : goal.returns-in-Err-clause-frames
returns-in-Err-clause-frames c = λ p. pool_same frames_of c.args.self.now.pools c.pool_index.result (pool_index p) c.index-self-pool_index.result c.take.new.self (omega arith) c.take.ensures.frames

pub returns-in-Ok-clause-ok : goal.returns-in-Ok-clause-ok
returns-in-Ok-clause-ok c = λ f.
    held_set c.args.self.now.pools c.pool_index.result c.from.result c.args.frame.now true c.index-self-pool_index.result c.take.new.self c.pool_index.ensures.same (omega arith) c.from.ensures
    (λ n. c.in-Ok.ensures.ok n ∙ or_if (n == c.from.result) _) f

pub returns-in-Err-clause-err : goal.returns-in-Err-clause-err
returns-in-Err-clause-err c = λ f. pool_same (held_of f.number) c.args.self.now.pools c.pool_index.result (pool_index f.pool) c.index-self-pool_index.result c.take.new.self (omega arith) (c.in-Err.ensures.err f.number)
