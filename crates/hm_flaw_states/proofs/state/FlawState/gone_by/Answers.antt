use Rattle.std.proofs.Common.{◌≡◌, ◌≤◌, ℕ, sym, ap, ◌∙◌, subst}
use Rattle.hm_history.specs.Kernel.Going.{Going, going_next, op_at}
use Rattle.hm_actors.specs.Actors.{IsSeen}
use Rattle.hm_flaw_states.specs.Owns.{driver_in}
use Rattle.hm_flaws.specs.Flawed.{found, going_by}
use Rattle.hm_race_states.specs.Tasks.{going_in}
use Rattle.hm_race_states.proofs.Lists.{task_there}
use Rattle.hm_flaw_states.specs.Rooms.{IsQuietAt, StackStands}
use Rattle.hm_flaw_states.specs.States.{state_in}
use Rattle.hm_flaw_states.proofs.state.FlawState.gone_by.Goals as goal

pub returns : goal.returns
returns c =
    let u = state_in c.args.self.now in
    let a = c.args.actor in
    let k = c.args.kind.now in
    let p = c.args.script.now in
    let l = c.args.flaw in
    let t = going_in c.deref.result.now in
    let s = found l p (record { state = u; driver = driver_in c.args.own.now }) in
    let there : t ≡ u.going a = ap going_in c.deref.ensures ∙ sym (task_there c.args.self.now.tasks.items c.number.result a c.index-task.result.now c.number.ensures.same c.requires.there c.index-task.ensures) in
    let seen : IsSeen p s a t k c.seen-seen.result = subst (λ (g : Going). IsSeen p s a g k c.seen-seen.result) (sym there) c.seen-seen.ensures.seen in
    c.in_ok-task_after.ensures s seen
    ∙ (ap (λ (n : ℕ). going_by l (op_at p a t.index) n t.stack k (going_next p s a t k)) c.seen-seen.ensures.at
    ∙ ap (λ (g : Going). going_by l (op_at p a g.index) u.after.length g.stack k (going_next p s a g k)) there)

pub task_after-requires : goal.task_after-requires
task_after-requires c =
    let u = state_in c.args.self.now in
    let a = c.args.actor in
    let there : going_in c.deref.result.now ≡ u.going a = ap going_in c.deref.ensures ∙ sym (task_there c.args.self.now.tasks.items c.number.result a c.index-task.result.now c.number.ensures.same c.requires.there c.index-task.ensures) in
    record {
      stands = subst (λ (n : ℕ). StackStands n (going_in c.deref.result.now).stack) (sym c.seen-seen.ensures.at) (subst (λ (g : Going). StackStands u.after.length g.stack) (sym there) (c.requires.standing a));
      quiet = subst (λ (g : Going). IsQuietAt g.stack c.seen-seen.result) (sym there) (c.requires.quiet c.seen-seen.result c.seen-seen.ensures.seen);
      room = subst (λ (n : ℕ). n ≤ 2000000) (sym c.seen-seen.ensures.at) c.requires.room;
    }
