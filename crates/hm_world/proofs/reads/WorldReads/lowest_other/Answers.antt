use Rattle.std.proofs.Common.{◌∙◌}
use Rattle.hm_spaces.proofs.SpacesRead.{lowest_other_shown}
use Rattle.hm_world.specs.WorldValue.{now}
use Rattle.hm_world.proofs.Shown.{shown}
use Rattle.hm_world.proofs.reads.WorldReads.lowest_other.Goals as goal

pub returns : goal.returns
returns c = c.lowest_other.ensures ∙ lowest_other_shown (now c.args.self.now).after.locks _ _ _ _ c.args.proc c.args.actor (shown _ _ c.self.view_is _ c.self.invariant).spaces
