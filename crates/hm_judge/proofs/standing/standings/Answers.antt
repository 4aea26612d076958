use Rattle.std.proofs.Common.{ap, ◌∙◌}
use Rattle.hm_history.specs.Kernel.Due.{due}
use Rattle.hm_judge.proofs.StandingLines.{one_more}
use Rattle.hm_judge.proofs.standing.standings.Goals as goal

pub loop-actor-preserved : goal.loop-actor-preserved
loop-actor-preserved c =
    let f = due c.args.world.now.script c.args.world.now.history in
    one_more f c.loop-actor.standing.items c.push.new.self.items c.loop-actor.actor c.in_ok-progress.progress
    c.loop-actor.invariant (c.in_ok-progress.ensures ∙ ap f c.new.ensures) c.in_ok-push.ensures.items
