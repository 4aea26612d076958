use Rattle.std.proofs.Common.{List, map, ap, ◌∙◌, arith}
use Rattle.std.proofs.lemmas.List.{map-set, length-map}
use Rattle.std.specs.Rc.{rc_value}
use Rattle.hm_race_states.specs.Goings.{goings_with}
use Rattle.hm_race_states.specs.States.{goings_in}
use Rattle.hm_race_states.specs.Tasks.{going_in}
use Rattle.hm_race_states.specs.declared.tasks.RaceTask.{RaceTask}
use Rattle.hm_flaw_states.proofs.Tasks.{gone_on}
use Rattle.hm_flaw_states.proofs.next.tasks_with.Goals as goal

pub returns : goal.returns
returns c =
    let xs = c.in_ok-all.all.items in
    let n = c.number.result in
    let a = c.args.actor in
    let x = c.in_ok-task.task in
    ap goings_in (map-set rc_value xs n x)
    ∙ (gone_on (map rc_value xs) n a x.value c.number.ensures.same (omega (arith, length-map xs rc_value, c.in_ok-all.ensures.len, c.number.ensures.same, c.requires.there))
    ∙ (ap (λ (ys : List RaceTask). goings_with ys a (going_in x.value)) c.in_ok-all.ensures.same
    ∙ ap (λ (t : RaceTask). goings_with (map rc_value c.args.tasks.now) a (going_in t)) c.in_ok-task.ensures.ok))
