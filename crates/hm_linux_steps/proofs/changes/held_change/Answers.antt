use Rattle.std.proofs.Common.{sym, ap, ◌∙◌}
use Rattle.hm_history.specs.declared.phases.Phase.{Phase}
use Rattle.hm_linux.specs.HeldPage.{references_held}
use Rattle.hm_linux_steps.proofs.changes.held_change.Goals as goal

pub returns-in-Guard : goal.returns-in-Guard
returns-in-Guard g c = λ fs.
    c.guarded.ensures c.args.op.now c.in-Guard.proc c.in-Guard.span c.in-Guard.overlapped c.in-Guard.told fs
    ∙ ap (λ (t : Phase). references_held (g.W.Reads.state c.args.world.now).after c.args.op.now fs t c.args.kind.now) (sym c.in-Guard.is)
