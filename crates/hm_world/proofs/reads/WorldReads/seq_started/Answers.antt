use Rattle.std.proofs.Common.{◌∙◌, rules}
use Rattle.hm_notifiers.proofs.Readings.{seq_started_shown}
use Rattle.hm_world.specs.WorldValue.{now}
use Rattle.hm_world.proofs.Shown.{shown}
use Rattle.hm_world.proofs.reads.WorldReads.seq_started.Goals as goal

pub returns : goal.returns
returns c = c.seq_started.ensures ∙ seq_started_shown _ (now c.args.self.now).after.sequences _ c.args.proc c.args.span (shown _ _ c.self.view_is _ c.self.invariant).notifiers (search rules)
