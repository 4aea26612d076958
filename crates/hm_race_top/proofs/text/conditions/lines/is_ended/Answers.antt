use Rattle.hm_race_top.proofs.Ended.{ended_same, not_ended}
use Rattle.hm_race_top.proofs.text.conditions.lines.is_ended.Goals as goal

pub returns-in-Some : goal.returns-in-Some
returns-in-Some c = ended_same c.args.line.now c.args.text.now c.in-Some.front.now c.eq.result c.in-Some.ensures c.eq.ensures

pub returns-in-None : goal.returns-in-None
returns-in-None c = not_ended c.args.line.now c.args.text.now c.in-None.ensures
