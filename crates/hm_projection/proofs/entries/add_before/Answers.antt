use Rattle.std.proofs.Common.{sym}
use Rattle.hm_steps.proofs.Ops.{op_ranged}
use Rattle.hm_projection.proofs.entries.add_before.Goals as goal

pub add_told_of_walk-requires : goal.add_told_of_walk-requires
add_told_of_walk-requires c = op_ranged c.args.world.now.script c.args.entry.now.actor _ c.in-Some.op.now c.facts.ensures.script (sym c.in-Some.ensures)

pub add_told_of_frames-requires : goal.add_told_of_frames-requires
add_told_of_frames-requires c = op_ranged c.args.world.now.script c.args.entry.now.actor _ c.in-Some.op.now c.facts.ensures.script (sym c.in-Some.ensures)
