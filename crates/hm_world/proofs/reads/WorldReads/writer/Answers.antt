use Rattle.std.proofs.Common.{◌∙◌}
use Rattle.hm_spaces.proofs.SpacesRead.{writer_shown}
use Rattle.hm_world.specs.WorldValue.{now}
use Rattle.hm_world.proofs.Shown.{shown}
use Rattle.hm_world.proofs.reads.WorldReads.writer.Goals as goal

pub returns : goal.returns
returns c = c.writer.ensures ∙ writer_shown (now c.args.self.now).after.locks _ _ _ _ c.args.proc (shown _ _ c.self.view_is _ c.self.invariant).spaces
