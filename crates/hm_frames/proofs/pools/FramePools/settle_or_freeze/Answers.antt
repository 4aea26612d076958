use Rattle.std.proofs.Common.{◌∙◌, ap}
use Rattle.hm_frames.specs.Pools.{PoolsState, is_held_in}
use Rattle.hm_frames.proofs.Updates.{settled_held}
use Rattle.hm_frames.proofs.pools.FramePools.settle_or_freeze.Goals as goal

pub returns-in-Sys-clause-held : goal.returns-in-Sys-clause-held
returns-in-Sys-clause-held c = λ f. ap (λ (x : PoolsState). is_held_in x f) c.settle.ensures ∙ settled_held _ _ _ _ f
