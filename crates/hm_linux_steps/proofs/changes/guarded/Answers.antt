use Rattle.std.proofs.Common.{sym, ap, ◌∙◌}
use Rattle.hm_history.specs.declared.phases.Body.{Body}
use Rattle.hm_history.specs.declared.phases.Phase.{Phase}
use Rattle.hm_linux.specs.HeldPage.{references_held}
use Rattle.hm_linux_steps.proofs.changes.guarded.Goals as goal

pub returns-in-Zap : goal.returns-in-Zap
returns-in-Zap g c = λ o p r met told fs.
    c.zapped.ensures o p r met told c.in-Zap.next fs
    ∙ ap (λ (b : Body). references_held (g.W.Reads.state c.args.world.now).after o fs (Phase.Guard p r met told b) c.args.kind.now) (sym c.in-Zap.is)
