use Rattle.std.proofs.Common.{List, Option, ℕ, ap, ◌∙◌}
use Rattle.hm_history.specs.Kernel.Going.{steps_from}
use Rattle.hm_history.specs.declared.phases.Migrating.{Migrating}
use Rattle.hm_actors.specs.Coming.{come_by}
use Rattle.hm_actors.specs.Migrations.{kept_at, key_of}
use Rattle.hm_actors.specs.declared.tasks.Task.{Task}
use Rattle.hm_actors.proofs.KeysKept.{pages_at}
use Rattle.hm_actors.proofs.actors.Actors.come_to.Goals as goal

pub returns : goal.returns
returns g c = c.come_to.ensures ∙ ap (λ (xs : List Migrating). come_by (g.C.Concerns.concerns c.args.concerns.now) xs (steps_from c.args.step) c.args.next)
    (ap (λ (k : Option ℕ). (kept_at c.self.inside.migrations k).items) (c.key_of.ensures ∙ ap (λ (ts : List Task). key_of ts c.args.actor) c.deref.ensures.value)
    ∙ pages_at c.self.inside.migrations c.self.inside.tasks.items c.args.self.now c.self.view_is c.args.actor)
