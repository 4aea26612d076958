use Rattle.std.proofs.Common.{◌<◌, ◌∙◌, ap, arith, length}
use Rattle.hm_actors.specs.Actors.{TaskValue, task_next}
use Rattle.hm_actors.specs.Migrations.{task_shown}
use Rattle.hm_actors.proofs.TaskKept.{task_fits}
use Rattle.hm_actors.proofs.KeysKept.{shown_is, keys_kept, stepped}
use Rattle.hm_actors.proofs.actors.Actors.step.Goals as goal

pub step-requires-clause-fits : goal.step-requires-clause-fits
step-requires-clause-fits c = task_fits c.args.script.now c.args.actor c.args.kind.now c.args.seen.now (task_shown c.self.inside.migrations c.index_mut-task.result.now) _
    (shown_is c.self.inside.migrations c.self.inside.tasks.items c.args.self.now c.self.view_is c.number-at.result c.args.actor c.number-at.ensures.same _ c.index_mut-task.ensures.value (omega (arith, c.self.inside.tasks.ok.0))) c.requires.fits

pub invariant_of-self : goal.invariant_of-self
invariant_of-self c = keys_kept c.self.inside.tasks.items c.self.inside.migrations c.step.new.migrations c.number-at.result c.index_mut-task.result.now c.step.new.self c.self.invariant c.index_mut-task.ensures.value (omega (arith, c.self.inside.tasks.ok.0)) c.step.ensures.changes

pub returns-then-at-len : goal.returns-then-at-len
returns-then-at-len c = let below : c.number-at.result < length c.self.inside.tasks.items = omega (arith, c.self.inside.tasks.ok.0) in
    stepped c.self.inside.tasks.items c.self.inside.migrations c.step.new.migrations c.number-at.result c.index_mut-task.result.now c.step.new.self c.self.invariant c.index_mut-task.ensures.value below c.step.ensures.changes
    c.args.self.now c.self.view_is c.args.actor c.number-at.ensures.same _
    (c.step.ensures.next ∙ ap (λ (d : TaskValue). task_next c.args.script.now c.args.actor d c.args.kind.now c.args.seen.now)
    (shown_is c.self.inside.migrations c.self.inside.tasks.items c.args.self.now c.self.view_is c.number-at.result c.args.actor c.number-at.ensures.same _ c.index_mut-task.ensures.value below))
