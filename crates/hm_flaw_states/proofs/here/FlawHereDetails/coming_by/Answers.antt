use Rattle.std.proofs.Common.{sym, ap, ◌∙◌}
use Rattle.hm_history.specs.Kernel.Going.{steps_from}
use Rattle.hm_actors.specs.Coming.{come_by}
use Rattle.hm_actors.proofs.Comings.{come_nowhere}
use Rattle.hm_race_states.specs.States.{going_at}
use Rattle.hm_flaw_states.proofs.here.FlawHereDetails.coming_by.Goals as goal

pub returns-in-Some : goal.returns-in-Some
returns-in-Some g c =
    c.come_to.ensures ∙ ap (λ o. come_by (g.C.Concerns.concerns c.args.concerns.now) (going_at o).pages (steps_from c.args.step) c.args.next) c.in-Some.ensures

pub returns-in-None : goal.returns-in-None
returns-in-None g c =
    sym (ap (λ o. come_by (g.C.Concerns.concerns c.args.concerns.now) (going_at o).pages (steps_from c.args.step) c.args.next) (sym c.in-None.ensures)
    ∙ come_nowhere (g.C.Concerns.concerns c.args.concerns.now) (steps_from c.args.step) c.args.next)
