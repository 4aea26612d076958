use Rattle.std.proofs.Common.{◌-◌, slice_index_or, sym, ◌∙◌, arith}
use Rattle.hm_base.specs.declared.PoolId.{PoolId}
use Rattle.hm_base.specs.PlaceWords.{pool_index}
use Rattle.hm_history.specs.Memory.Words.{least}
use Rattle.hm_folds.specs.HeldFrames.{held_of, frames_of}
use Rattle.hm_folds.proofs.ByFrame.{read_pool}
use Rattle.hm_folds.proofs.HeldPools.{held_below}
use Rattle.hm_folds.proofs.held_frames.HeldFrames.held_from.Goals as goal

pub overflow_cast-result : goal.overflow_cast-result
overflow_cast-result c = let l = held_below (slice_index_or c.args.self.now.pools c.pool_index.result c.index-self-pool_index.result) c.args.from c.in-Some.number (sym c.in-Some.is ∙ c.held_from.ensures) in omega (arith, l)

pub returns-in-Some : goal.returns-in-Some
returns-in-Some c = sym c.in-Some.is ∙ c.held_from.ensures ∙ read_pool (λ o. least (λ n. held_of n o) c.args.from (frames_of o - c.args.from)) c.args.self.now.pools c.pool_index.result (pool_index (PoolId.Device c.args.dev)) c.index-self-pool_index.result c.pool_index.ensures.same (omega arith)

pub returns-in-None : goal.returns-in-None
returns-in-None c = sym c.in-None.is ∙ c.held_from.ensures ∙ read_pool (λ o. least (λ n. held_of n o) c.args.from (frames_of o - c.args.from)) c.args.self.now.pools c.pool_index.result (pool_index (PoolId.Device c.args.dev)) c.index-self-pool_index.result c.pool_index.ensures.same (omega arith)
