use Rattle.std.proofs.Common.{arith, rules}
use Rattle.hm_notifiers.proofs.Readings.{seq_bounded}
use Rattle.hm_world.specs.WorldValue.{now}
use Rattle.hm_world.proofs.Shown.{shown, few}
use Rattle.hm_world.proofs.reads.WorldReads.seq_ended.Goals as goal

pub seq_ended-requires : goal.seq_ended-requires
seq_ended-requires c = omega (arith, seq_bounded _ (now c.args.self.now).after.sequences _ c.args.proc (shown _ _ c.self.view_is _ c.self.invariant).notifiers (search rules), few _ _ c.self.view_is _ c.self.invariant)
