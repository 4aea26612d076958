use Rattle.std.proofs.Common.{sym, ap, ◌∙◌, subst}
use Rattle.hm_actors.specs.Actors.{IsSeen}
use Rattle.hm_history.specs.Memory.After.{After}
use Rattle.hm_flaw_states.specs.Owns.{driver_in}
use Rattle.hm_flaws.specs.Flawed.{found}
use Rattle.hm_flaws.specs.declared.flaws.Flaw.{Flaw}
use Rattle.hm_flaw_states.specs.States.{state_in}
use Rattle.hm_flaw_states.proofs.Leaving.{found_there, orphan_there}
use Rattle.hm_flaw_states.proofs.state.FlawState.seen.Goals as goal

pub seen-requires-in_default : goal.seen-requires-in_default
seen-requires-in_default c = c.orphan-orphan.ensures ∙ orphan_there c.args.flaw c.args.script.now (record { state = state_in c.args.self.now; driver = driver_in c.args.own.now }) c.args.kind.now

pub returns-in_default-clause-seen : goal.returns-in_default-clause-seen
returns-in_default-clause-seen c = subst (λ (s : After). IsSeen c.args.script.now s c.args.actor ((state_in c.args.self.now).going c.args.actor) c.args.kind.now c.seen-in_default.result)
    (found_there c.args.flaw c.args.script.now (record { state = state_in c.args.self.now; driver = driver_in c.args.own.now }) c.in_default.not-NoFlaw)
    c.seen-in_default.ensures.seen

pub returns-in-NoFlaw-clause-seen : goal.returns-in-NoFlaw-clause-seen
returns-in-NoFlaw-clause-seen c = subst (λ (s : After). IsSeen c.args.script.now s c.args.actor ((state_in c.args.self.now).going c.args.actor) c.args.kind.now c.seen.result)
    (sym (ap (λ (l : Flaw). found l c.args.script.now (record { state = state_in c.args.self.now; driver = driver_in c.args.own.now })) c.in-NoFlaw.is))
    c.seen.ensures.seen
