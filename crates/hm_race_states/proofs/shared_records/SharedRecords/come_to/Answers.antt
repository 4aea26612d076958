use Rattle.std.proofs.Common.{◌≡◌, List, [], sym, ap, ◌∙◌}
use Rattle.hm_actors.specs.Coming.{come_by}
use Rattle.hm_actors.proofs.Comings.{come_nowhere}
use Rattle.hm_history.specs.Kernel.Going.{steps_from}
use Rattle.hm_history.specs.declared.phases.Migrating.{Migrating}
use Rattle.hm_race_states.specs.SharedRecords.{records_in}
use Rattle.hm_race_states.proofs.shared_records.SharedRecords.come_to.Goals as goal

pub returns-in-None : goal.returns-in-None
returns-in-None g c =
    let f = g.C.Concerns.concerns c.args.concerns.now in
    let steps = steps_from c.args.step in
    let e : c.args.self.now ≡ [] = sym c.self.view_is ∙ ap records_in c.in-None.is in
    sym (ap (λ (xs : List Migrating). come_by f xs steps c.args.next) e ∙ come_nowhere f steps c.args.next)
