use Rattle.std.proofs.Common.{◌∙◌}
use Rattle.hm_tables.proofs.ReadsShown.{uses_shown}
use Rattle.hm_world.specs.WorldValue.{now}
use Rattle.hm_world.proofs.Shown.{shown}
use Rattle.hm_world.proofs.reads.WorldReads.uses.Goals as goal

pub returns : goal.returns
returns c = c.uses.ensures ∙ uses_shown _ (now c.args.self.now).after.places _ (shown _ _ c.self.view_is _ c.self.invariant).tables c.args.frame.now
