use Rattle.std.proofs.Common.{◌≡◌, sym, ap, ◌∙◌, subst}
use Rattle.hm_history.specs.Kernel.Going.{Going, going_next}
use Rattle.hm_actors.specs.Actors.{IsSeen}
use Rattle.hm_race_states.specs.States.{state_in}
use Rattle.hm_race_states.specs.Tasks.{going_in}
use Rattle.hm_race_states.proofs.Lists.{task_there}
use Rattle.hm_race_states.proofs.Seens.{takes_here, task_is}
use Rattle.hm_race_states.proofs.state.RaceState.moved.Goals as goal

pub after-requires : goal.after-requires
after-requires c = takes_here c.args.script.now (state_in c.args.self.now) c.args.entry.now c.seen-seen.result (going_in c.deref.result.now)
    (task_there c.args.self.now.tasks.items c.number.result c.args.entry.now.actor c.index-task.result.now c.number.ensures.same c.requires.there c.index-task.ensures ∙ ap going_in (sym c.deref.ensures))
    c.requires.takes c.seen-seen.ensures

pub returns : goal.returns
returns c =
    let u = state_in c.args.self.now in
    let a = c.args.entry.now.actor in
    let k = c.args.entry.now.kind in
    let there : going_in c.deref.result.now ≡ u.going a = ap going_in c.deref.ensures ∙ sym (task_there c.args.self.now.tasks.items c.number.result a c.index-task.result.now c.number.ensures.same c.requires.there c.index-task.ensures) in
    let seen : IsSeen c.args.script.now u.after a (going_in c.deref.result.now) k c.seen-seen.result = subst (λ (g : Going). IsSeen c.args.script.now u.after a g k c.seen-seen.result) (sym there) c.seen-seen.ensures in
    ap going_in c.in_ok-new.ensures.ok ∙ (c.in_ok-moved.ensures ∙ (task_is c.args.script.now u.after a (going_in c.deref.result.now) k c.seen-seen.result seen ∙ ap (λ (g : Going). going_next c.args.script.now u.after a g k) there))
