use Rattle.std.proofs.Common.{ap, ◌∙◌}
use Rattle.hm_race_laws.specs.Blur.{blurred_entry}
use Rattle.hm_race_top.proofs.Entering.{goes_on_by, has_its_actor, parts_take_it, takes_it}
use Rattle.hm_race_top.proofs.run.turn.after_entry.Goals as goal

pub after-requires-clause-there : goal.after-requires-clause-there
after-requires-clause-there c =
    has_its_actor c.forms_go_on.ensures c.args.script.now c.facts.ensures c.requires.history c.args.state.now c.requires.shows c.facts-2.ensures c.args.entry.now c.requires.due
    c.blurred_entry-entry.result (c.blurred_entry-entry.ensures ∙ ap blurred_entry c.in_ok-copy_entry.ensures)

pub after-requires-clause-actor : goal.after-requires-clause-actor
after-requires-clause-actor c =
    takes_it c.forms_go_on.ensures c.args.script.now c.facts.ensures c.requires.history c.args.state.now c.requires.shows c.facts-2.ensures c.args.entry.now c.requires.due
    c.blurred_entry-entry.result (c.blurred_entry-entry.ensures ∙ ap blurred_entry c.in_ok-copy_entry.ensures) c.requires.few

pub after-requires-clause-parts : goal.after-requires-clause-parts
after-requires-clause-parts c =
    parts_take_it c.forms_go_on.ensures c.args.script.now c.facts.ensures c.requires.history c.args.state.now c.requires.shows c.facts-2.ensures c.args.entry.now c.requires.due
    c.blurred_entry-entry.result (c.blurred_entry-entry.ensures ∙ ap blurred_entry c.in_ok-copy_entry.ensures)

pub returns : goal.returns
returns c = λ h shows due.
    goes_on_by c.forms_go_on.ensures c.args.script.now c.facts.ensures h c.args.state.now shows c.facts-2.ensures c.args.entry.now due
    c.blurred_entry-entry.result (c.blurred_entry-entry.ensures ∙ ap blurred_entry c.in_ok-copy_entry.ensures) c.in_ok-after.field-0 c.in_ok-after.ensures
