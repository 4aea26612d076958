use Rattle.hm_race_states.proofs.Ranges.{op_ranged}
use Rattle.hm_race_states.proofs.here.Here.decided_place.Goals as goal

pub touch_page-requires : goal.touch_page-requires
touch_page-requires c = op_ranged c.args.self.now.script.now c.facts.ensures c.args.actor _ c.in-Some.op.now c.in-Some.ensures
