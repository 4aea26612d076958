use Rattle.std.proofs.Common.{◌∙◌, ap}
use Rattle.hm_history.specs.Kernel.Going.{Going}
use Rattle.hm_world.proofs.Shown.{shown, going_now}
use Rattle.hm_world.proofs.World.records.Goals as goal

pub returns : goal.returns
returns c = c.records.ensures ∙ ap (λ (g : Going). g.pages) (going_now c.args.self.now _ c.args.actor (shown _ _ c.self.view_is _ c.self.invariant).actors)
