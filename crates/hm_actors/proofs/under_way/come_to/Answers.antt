use Rattle.std.proofs.Common.{ℕ, sym, ap, ◌∙◌, Option}
use Rattle.hm_history.specs.Kernel.Going.{steps_from}
use Rattle.hm_actors.specs.Coming.{come_by}
use Rattle.hm_actors.specs.Actors.{RecordsValue}
use Rattle.hm_actors.specs.Migrations.{item_or_none, kept_at}
use Rattle.hm_actors.proofs.Comings.{come_nowhere}
use Rattle.hm_actors.proofs.under_way.come_to.Goals as goal

pub returns-in_default : goal.returns-in_default
returns-in_default g c = sym (ap (λ (k : Option ℕ). come_by (g.C.Concerns.concerns c.args.concerns.now) (kept_at c.args.migrations.now k).items (steps_from c.args.step) c.args.next) c.in_default.is
    ∙ come_nowhere (g.C.Concerns.concerns c.args.concerns.now) (steps_from c.args.step) c.args.next)

pub returns-in-None : goal.returns-in-None
returns-in-None g c = sym (ap (λ (k : Option ℕ). come_by (g.C.Concerns.concerns c.args.concerns.now) (kept_at c.args.migrations.now k).items (steps_from c.args.step) c.args.next) c.in-Some.is
    ∙ ap (λ (o : Option RecordsValue). come_by (g.C.Concerns.concerns c.args.concerns.now) (item_or_none o).items (steps_from c.args.step) c.args.next) (sym c.in-None.ensures)
    ∙ come_nowhere (g.C.Concerns.concerns c.args.concerns.now) (steps_from c.args.step) c.args.next)
