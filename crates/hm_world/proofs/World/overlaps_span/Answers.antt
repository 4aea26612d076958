use Rattle.std.proofs.Common.{◌∙◌, rules}
use Rattle.hm_notifiers.proofs.Readings.{some_overlap_shown}
use Rattle.hm_world.specs.WorldValue.{now}
use Rattle.hm_world.proofs.Shown.{shown}
use Rattle.hm_world.proofs.World.overlaps_span.Goals as goal

pub returns : goal.returns
returns c = c.some_overlap.ensures ∙ some_overlap_shown _ (now c.args.self.now).after.sequences _ c.args.proc c.args.span (shown _ _ c.self.view_is _ c.self.invariant).notifiers (search rules)
