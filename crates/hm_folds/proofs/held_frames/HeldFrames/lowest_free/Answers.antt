use Rattle.std.proofs.Common.{not, slice_index_or, sym, ◌∙◌, arith}
use Rattle.hm_base.specs.PlaceWords.{pool_index}
use Rattle.hm_history.specs.Memory.Words.{least}
use Rattle.hm_folds.specs.HeldFrames.{held_of, frames_of}
use Rattle.hm_folds.proofs.ByFrame.{read_pool}
use Rattle.hm_folds.proofs.HeldPools.{free_below}
use Rattle.hm_folds.proofs.held_frames.HeldFrames.lowest_free.Goals as goal

pub overflow_cast-result : goal.overflow_cast-result
overflow_cast-result c = let l = free_below (slice_index_or c.args.self.now.pools c.pool_index.result c.index-self-pool_index.result) c.in-Some.number (sym c.in-Some.is ∙ c.lowest_free.ensures) in omega (arith, l)

pub returns-in-Some : goal.returns-in-Some
returns-in-Some c = sym c.in-Some.is ∙ c.lowest_free.ensures ∙ read_pool (λ o. least (λ n. not (held_of n o)) 0 (frames_of o)) c.args.self.now.pools c.pool_index.result (pool_index c.args.pool) c.index-self-pool_index.result c.pool_index.ensures.same (omega arith)

pub returns-in-None : goal.returns-in-None
returns-in-None c = sym c.in-None.is ∙ c.lowest_free.ensures ∙ read_pool (λ o. least (λ n. not (held_of n o)) 0 (frames_of o)) c.args.self.now.pools c.pool_index.result (pool_index c.args.pool) c.index-self-pool_index.result c.pool_index.ensures.same (omega arith)
