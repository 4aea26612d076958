use Rattle.std.proofs.Common.{◌∙◌, ap}
use Rattle.std.specs.Prelude.{count_by}
use Rattle.hm_history.specs.Kernel.Going.{Going}
use Rattle.hm_world.proofs.Shown.{shown, going_now}
use Rattle.hm_world.proofs.reads.WorldReads.moved_pages.Goals as goal

pub returns : goal.returns
returns c = c.moved_pages.ensures ∙ ap (λ (g : Going). count_by (λ x. x.moved) g.pages) (going_now c.args.self.now _ c.args.actor (shown _ _ c.self.view_is _ c.self.invariant).actors)
