use Rattle.std.proofs.Common.{◌==◌, false, Some, get_or, ap, ◌∙◌, arith}
use Rattle.hm_base.specs.PlaceWords.{pool_index}
use Rattle.hm_folds.specs.HeldFrames.{held_of, frames_of}
use Rattle.hm_folds.proofs.ByFrame.{held_set, not_and_if, pool_same, read_pool}
use Rattle.hm_folds.proofs.held_frames.HeldFrames.drop_frame.Goals as goal

pub drop_frame-requires : goal.drop_frame-requires
drop_frame-requires c =
    ap (λ n. held_of n (Some (get_or c.args.self.now.pools c.pool_index.result c.index-self-pool_index.result))) c.from.ensures
    ∙ read_pool (held_of c.args.frame.now.number) c.args.self.now.pools c.pool_index.result (pool_index c.args.frame.now.pool) c.index-self-pool_index.result c.pool_index.ensures.same (omega arith)
    ∙ c.requires

pub returns-in-Ok-clause-frames : goal.returns-in-Ok-clause-frames
returns-in-Ok-clause-frames c = λ p. pool_same frames_of c.args.self.now.pools c.pool_index.result (pool_index p) c.index-self-pool_index.result c.drop_frame.new.self (omega arith) c.drop_frame.ensures.frames

pub returns-in-Err-clause-frames : goal.returns-in-Err-clause-frames
returns-in-Err-clause-frames c = λ p. pool_same frames_of c.args.self.now.pools c.pool_index.result (pool_index p) c.index-self-pool_index.result c.drop_frame.new.self (omega arith) c.drop_frame.ensures.frames

pub returns-in-Ok-clause-ok : goal.returns-in-Ok-clause-ok
returns-in-Ok-clause-ok c = λ f.
    held_set c.args.self.now.pools c.pool_index.result c.from.result c.args.frame.now false c.index-self-pool_index.result c.drop_frame.new.self c.pool_index.ensures.same (omega arith) c.from.ensures
    (λ n. c.in-Ok.ensures.ok n ∙ not_and_if (n == c.from.result) _) f

pub returns-in-Err-clause-err : goal.returns-in-Err-clause-err
returns-in-Err-clause-err c = λ f. pool_same (held_of f.number) c.args.self.now.pools c.pool_index.result (pool_index f.pool) c.index-self-pool_index.result c.drop_frame.new.self (omega arith) (c.in-Err.ensures.err f.number)
