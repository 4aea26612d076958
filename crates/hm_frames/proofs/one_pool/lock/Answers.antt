use Rattle.hm_frames.proofs.Relocks.{locked_after}
use Rattle.hm_frames.proofs.one_pool.lock.Goals as goal

pub returns : goal.returns
returns c = locked_after _ _ _ _ _ _ c.unlock.ensures c.try_lock.ensures
