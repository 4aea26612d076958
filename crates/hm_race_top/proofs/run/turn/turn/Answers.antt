use Rattle.std.proofs.Common.{◌<◌, length, sym, ap, ◌∙◌, subst, refl}
use Rattle.hm_history.specs.Kernel.Going.{state_next}
use Rattle.hm_history.specs.declared.Progress.{Progress}
use Rattle.hm_race_laws.specs.Blur.{tidied}
use Rattle.hm_history.specs.declared.Entry.{Entry}
use Rattle.hm_race_states.specs.Afters.{ActorTakes, PartsTake}
use Rattle.hm_race_states.specs.States.{state_in}
use Rattle.hm_race_top.proofs.Turning.{has_actor, parts, takes, turned, not_turned}
use Rattle.hm_race_top.proofs.run.turn.turn.Goals as goal

pub after-requires-clause-there : goal.after-requires-clause-there
after-requires-clause-there c = subst (λ (e : Entry). e.actor < length c.args.state.now.tasks.items) (sym c.blurred_entry-entry.ensures)
    (has_actor c.forms_go_on.ensures c.args.script.now c.facts.ensures c.requires.history c.args.state.now c.requires.shows c.facts-2.ensures c.args.actor c.in-Did.entry (sym c.in_ok-entry.ensures ∙ c.in-Did.is))

pub after-requires-clause-actor : goal.after-requires-clause-actor
after-requires-clause-actor c = subst (ActorTakes c.args.script.now (state_in c.args.state.now)) (sym c.blurred_entry-entry.ensures)
    (takes c.forms_go_on.ensures c.args.script.now c.facts.ensures c.requires.history c.args.state.now c.requires.shows c.facts-2.ensures c.args.actor c.in-Did.entry (sym c.in_ok-entry.ensures ∙ c.in-Did.is) c.requires.few)

pub after-requires-clause-parts : goal.after-requires-clause-parts
after-requires-clause-parts c = subst (λ (e : Entry). PartsTake (state_in c.args.state.now) e.kind) (sym c.blurred_entry-entry.ensures)
    (parts c.forms_go_on.ensures c.args.script.now c.facts.ensures c.requires.history c.args.state.now c.requires.shows c.facts-2.ensures c.args.actor c.in-Did.entry (sym c.in_ok-entry.ensures ∙ c.in-Did.is))

pub returns-in_ok-state-in-Did : goal.returns-in_ok-state-in-Did
returns-in_ok-state-in-Did c = λ h shows.
    turned c.forms_go_on.ensures c.args.script.now c.facts.ensures h c.args.state.now shows c.facts-2.ensures c.args.actor c.in-Did.entry (sym c.in_ok-entry.ensures ∙ c.in-Did.is)
    (record { entry = c.blurred_entry-entry.result; state = c.in_ok-state-in-Did.state }) c.blurred_entry-entry.ensures
    (c.in_ok-state-in-Did.ensures ∙ ap (λ e. tidied c.args.script.now (state_next c.args.script.now (state_in c.args.state.now) e)) c.blurred_entry-entry.ensures)

pub returns-in-Waiting : goal.returns-in-Waiting
returns-in-Waiting c = λ h shows. not_turned c.forms_go_on.ensures c.args.script.now c.facts.ensures h c.args.state.now shows c.facts-2.ensures c.args.actor _ (sym c.in_ok-entry.ensures ∙ c.in-Waiting.is) refl

pub returns-in-Idle : goal.returns-in-Idle
returns-in-Idle c = λ h shows. not_turned c.forms_go_on.ensures c.args.script.now c.facts.ensures h c.args.state.now shows c.facts-2.ensures c.args.actor Progress.Idle (sym c.in_ok-entry.ensures ∙ c.in-Idle.is) refl
