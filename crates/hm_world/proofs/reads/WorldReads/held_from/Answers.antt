use Rattle.std.proofs.Common.{◌∙◌}
use Rattle.hm_frames.proofs.Shows.{held_from_shown}
use Rattle.hm_world.specs.WorldValue.{now}
use Rattle.hm_world.proofs.Shown.{shown}
use Rattle.hm_world.proofs.reads.WorldReads.held_from.Goals as goal

pub returns : goal.returns
returns c = c.held_from.ensures ∙ held_from_shown _ (now c.args.self.now).after _ c.args.dev c.args.from (shown _ _ c.self.view_is _ c.self.invariant).frames
