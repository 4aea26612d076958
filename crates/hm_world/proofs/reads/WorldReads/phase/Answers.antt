use Rattle.std.proofs.Common.{◌∙◌, ap}
use Rattle.std.specs.Prelude.{slice_get}
use Rattle.hm_history.specs.Kernel.Going.{Going}
use Rattle.hm_world.proofs.Shown.{shown, going_now}
use Rattle.hm_world.proofs.Ranged.{top_ranged}
use Rattle.hm_world.proofs.reads.WorldReads.phase.Goals as goal

pub returns-clause-same : goal.returns-clause-same
returns-clause-same c = c.top.ensures ∙ ap (λ (g : Going). slice_get g.stack 0) (going_now c.args.self.now _ c.args.actor (shown _ _ c.self.view_is _ c.self.invariant).actors)

pub returns-clause-range : goal.returns-clause-range
returns-clause-range c = top_ranged _ _ c.self.view_is _ c.self.invariant c.args.actor
