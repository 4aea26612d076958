use Rattle.std.proofs.Common.{sym, ap, subst, ◌∙◌}
use Rattle.hm_history.specs.Kernel.Going.{State}
use Rattle.hm_flaw_states.specs.Follows.{Standing}
use Rattle.hm_flaw_states.specs.Owns.{driver_in}
use Rattle.hm_flaw_states.specs.States.{state_in}
use Rattle.hm_flaw_states.proofs.Standings.{flawed_stands}
use Rattle.hm_flaw_states.proofs.Storing.{due_stays}
use Rattle.hm_flaw_states.proofs.Nexts.{same_whole}
use Rattle.hm_flaw_states.proofs.state.FlawState.after.Goals as goal

pub returns-clause-next : goal.returns-clause-next
returns-clause-next c =
    let x = c.in_ok-actors.actors in
    same_whole _ _
    (ap (λ (u : State). u.after) c.joined.ensures ∙ c.in_ok-memory.ensures x)
    (ap (λ (u : State). u.going) c.joined.ensures ∙ c.in_ok-actors.ensures)

pub memory_after-requires : goal.memory_after-requires
memory_after-requires c = record {
  page = due_stays c.args.flaw c.args.script.now c.facts.ensures (record { state = state_in c.args.self.now; driver = driver_in c.args.own.now }) c.args.entry.now.actor c.args.entry.now c.requires.is_due;
  answers = c.requires.answers;
  room = c.requires.room;
}

pub returns-clause-standing : goal.returns-clause-standing
returns-clause-standing c =
    let x = c.in_ok-actors.actors in
    let next = same_whole _ _
    (ap (λ (u : State). u.after) c.joined.ensures ∙ c.in_ok-memory.ensures x)
    (ap (λ (u : State). u.going) c.joined.ensures ∙ c.in_ok-actors.ensures) in
    subst Standing (sym next) (flawed_stands c.args.flaw c.args.script.now (record { state = state_in c.args.self.now; driver = driver_in c.args.own.now }) c.args.entry.now c.requires.is_due c.facts_of.ensures c.requires.standing)
