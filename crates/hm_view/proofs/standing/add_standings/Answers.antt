use Rattle.std.proofs.Common.{◌++◌, ap, ◌∙◌}
use Rattle.hm_view.specs.Standing.{standing_of}
use Rattle.hm_view.proofs.Texts.{one_piece}
use Rattle.hm_view.proofs.standing.add_standings.Goals as goal

pub loop-actor-preserved : goal.loop-actor-preserved
loop-actor-preserved c =
    let f = standing_of c.args.world.now.script c.args.world.now.history in
    one_piece f c.args.text.now c.loop-actor.text c.add_standing.new.text c.loop-actor.actor c.loop-actor.invariant
    (c.in_ok-add_standing.ensures ∙ ap (λ a. c.loop-actor.text ++ f a) c.new.ensures)
