use Rattle.std.proofs.Common.{◌<◌, ◌≤◌, List, Global, length, map, sym, ap, subst, ◌∙◌}
use Rattle.std.specs.Rc.{rc_value}
use Rattle.std.specs.declared.rc.Rc.{Rc}
use Rattle.hm_history.specs.Memory.Words.{with_at}
use Rattle.hm_history.specs.Kernel.Going.{Going}
use Rattle.hm_race_states.specs.Goings.{goings_with}
use Rattle.hm_race_states.specs.Tasks.{going_in}
use Rattle.hm_race_states.specs.declared.tasks.RaceTask.{RaceTask}
use Rattle.hm_flaw_states.specs.Owns.{driver_in}
use Rattle.hm_flaw_states.specs.States.{state_in}
use Rattle.hm_flaw_states.proofs.Standings.{actor_kept}
use Rattle.hm_flaw_states.proofs.state.FlawState.actors_after.Goals as goal

pub returns : goal.returns
returns c =
    let a = c.args.entry.now.actor in
    c.in_ok-tasks_with.ensures
    ∙ (ap (λ (ts : List (Rc RaceTask Global)). goings_with (map rc_value ts) a (going_in c.in_ok-moved.moved)) c.deref.ensures.value
    ∙ ap (λ (g : Going). with_at (state_in c.args.self.now).going a g) c.in_ok-moved.ensures)

pub tasks_with-requires : goal.tasks_with-requires
tasks_with-requires c = record {
  few = subst (λ (ts : List (Rc RaceTask Global)). length ts ≤ 16) (sym c.deref.ensures.value) c.args.self.now.few;
  there = subst (λ (ts : List (Rc RaceTask Global)). c.args.entry.now.actor < length ts) (sym c.deref.ensures.value)
      (actor_kept c.args.self.now c.args.flaw c.args.script.now (driver_in c.args.own.now) c.args.entry.now.actor c.args.entry.now c.requires.is_due);
}
