use Rattle.hm_judge.proofs.StandingLines.{one_line_more}
use Rattle.hm_judge.proofs.text.add_standings.Goals as goal

pub loop-actor-preserved : goal.loop-actor-preserved
loop-actor-preserved c =
    one_line_more c.args.at c.loop-actor.actor c.args.standing.now c.index-standing-actor.result c.args.text.now c.loop-actor.text c.add_standing.new.text
    c.loop-actor-test.true c.index-standing-actor.is c.loop-actor.invariant c.in_ok-add_standing.ensures
