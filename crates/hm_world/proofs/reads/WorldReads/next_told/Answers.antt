use Rattle.std.proofs.Common.{◌∙◌, rules}
use Rattle.hm_notifiers.proofs.Readings.{next_told_shown}
use Rattle.hm_world.specs.WorldValue.{now}
use Rattle.hm_world.proofs.Shown.{shown}
use Rattle.hm_world.proofs.reads.WorldReads.next_told.Goals as goal

pub returns : goal.returns
returns c = c.next_told.ensures ∙ next_told_shown _ (now c.args.self.now).after.sequences _ c.args.proc c.args.span c.args.after (shown _ _ c.self.view_is _ c.self.invariant).notifiers (search rules)
