use Rattle.std.proofs.Common.{◌∙◌, ap, refl}
use Rattle.hm_history.specs.Kernel.Going.{Going, come_to, concerns, steps_from}
use Rattle.hm_actors.specs.Actors.{going_of}
use Rattle.hm_actors.proofs.Comings.{come_by_shown}
use Rattle.hm_world.specs.WorldValue.{now}
use Rattle.hm_world.proofs.Shown.{shown, going_now}
use Rattle.hm_world.proofs.World.come_to.Goals as goal

pub returns : goal.returns
returns c = c.come_to.ensures ∙ come_by_shown (now c.args.self.now).after c.args.op.now (concerns (now c.args.self.now).after c.args.op.now) (λ step x. refl) (going_of c.self.inside.actors c.args.actor).pages (steps_from c.args.step) c.args.next ∙ ap (λ xs. come_to (now c.args.self.now).after c.args.op.now xs (steps_from c.args.step) c.args.next) (ap (λ (g : Going). g.pages) (going_now c.args.self.now _ c.args.actor (shown _ _ c.self.view_is _ c.self.invariant).actors))
