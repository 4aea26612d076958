use Rattle.hm_projection.proofs.Erased.{driver_next}
use Rattle.hm_projection.proofs.tables.Driver.step.Goals as goal

pub returns : goal.returns
returns c = λ s e is d. driver_next s e c.args.kind.now c.args.self.now _ is c.in_ok-step.ensures.ok c.step_windows.ensures d
