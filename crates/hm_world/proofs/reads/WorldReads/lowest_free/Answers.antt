use Rattle.std.proofs.Common.{◌∙◌}
use Rattle.hm_frames.proofs.Shows.{lowest_free_shown}
use Rattle.hm_world.specs.WorldValue.{now}
use Rattle.hm_world.proofs.Shown.{shown}
use Rattle.hm_world.proofs.reads.WorldReads.lowest_free.Goals as goal

pub returns : goal.returns
returns c = c.lowest_free.ensures ∙ lowest_free_shown _ (now c.args.self.now).after _ c.args.pool (shown _ _ c.self.view_is _ c.self.invariant).frames
