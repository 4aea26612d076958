use Rattle.std.proofs.Common.{arith, map, ap, ◌∙◌}
use Rattle.std.proofs.lemmas.List.{length-map}
use Rattle.std.specs.Rc.{rc_value}
use Rattle.hm_race_laws.specs.Positions.{forget_going}
use Rattle.hm_race_laws.specs.Numbers.{small_going}
use Rattle.hm_race_states.specs.Goings.{blurred_goings, goings_with}
use Rattle.hm_race_states.specs.Tasks.{going_in}
use Rattle.hm_race_states.proofs.Lists.{pushed, mapped_more, one_more, all_there}
use Rattle.hm_race_states.proofs.next.tasks_after.Goals as goal

pub loop-at-preserved : goal.loop-at-preserved
loop-at-preserved g c =
    let old = c.loop-at.all.items in
    let new = c.push.new.self.items in
    let t = c.in_ok-blurred.field-0 in
    let n = c.loop-at.at in
    let p = c.args.script.now in
    let s = g.C.Came.seqs c.args.came.now in
    record {
      len = one_more old new t n c.in_ok-push.ensures.items c.loop-at.invariant.len;
      at = pushed (map rc_value old) (map rc_value new) t.value n (blurred_goings p s (goings_with (map rc_value c.args.tasks.now) c.args.actor (going_in c.args.moved.now.value))) (mapped_more old new t c.in_ok-push.ensures.items) c.loop-at.invariant.len c.loop-at.invariant.at
          (c.in_ok-blurred.ensures ∙ (ap (λ a. forget_going (small_going p s a (going_in c.gone_on-task.result.now.value))) c.new.ensures ∙ ap (λ g. forget_going (small_going p s n g)) c.gone_on-task.ensures));
    }

pub returns-clause-goings : goal.returns-clause-goings
returns-clause-goings g c = all_there c.args.script.now (g.C.Came.seqs c.args.came.now) (map rc_value c.args.tasks.now) (map rc_value c.loop-at.all.items) c.args.actor (going_in c.args.moved.now.value) c.loop-at.at (length-map c.args.tasks.now rc_value ∙ omega (arith, c.loop-at-test.false, c.loop-at.auto.at-end)) c.loop-at.invariant.len (omega (arith, c.loop-at-test.false, c.requires.there)) c.loop-at.invariant.at
