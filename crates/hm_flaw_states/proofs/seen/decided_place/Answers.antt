use Rattle.std.proofs.Common.{subst}
use Rattle.hm_base.specs.Program.{IsScript}
use Rattle.hm_race_states.proofs.Ranges.{op_ranged}
use Rattle.hm_flaw_states.proofs.seen.decided_place.Goals as goal

pub touch_page-requires : goal.touch_page-requires
touch_page-requires g c = op_ranged (g.W.Reads.program c.args.world.now) (subst IsScript c.script.ensures c.facts.ensures) c.args.actor _ c.in-Some.op.now c.in-Some.ensures
