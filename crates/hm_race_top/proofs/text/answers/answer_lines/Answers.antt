use Rattle.std.proofs.Common.{◌<◌, [], length, ◌∙◌, arith}
use Rattle.std.proofs.lemmas.List.{get_or_default}
use Rattle.hm_race_keys.specs.Trail.{answers_in}
use Rattle.hm_race_top.proofs.Texts.{one_actor}
use Rattle.hm_race_top.proofs.text.answers.answer_lines.Goals as goal

pub loop-actor-preserved : goal.loop-actor-preserved
loop-actor-preserved c =
    let lists = c.args.answers.now.lists.items in
    let within : c.loop-actor.actor < length lists = omega (arith, c.loop-actor-test.true, c.loop-actor.auto.actor-end, c.requires) in
    one_actor (answers_in lists) c.loop-actor.actor c.as_slice.result.now c.loop-actor.text c.add_lines.new.text
    c.loop-actor.invariant (c.as_slice.ensures ∙ c.index-list.ensures ∙ get_or_default lists c.loop-actor.actor _ [] within) c.in_ok-add_lines.ensures
