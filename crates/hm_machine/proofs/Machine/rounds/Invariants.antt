use Rattle.std.proofs.Common.{◌-◌}
use Rattle.hm_history.specs.Kernel.Run.{enough, drained}
use Rattle.hm_machine.proofs.Draining.{Left}
use Rattle.hm_machine.proofs.Machine.rounds.Given as goal

abbrev pub invariant-loop-round : goal.invariant-loop-round
invariant-loop-round g l = Left l.fn.self l.self (λ h. drained l.fn.self.script h (enough - l.round)) (drained l.fn.self.script l.fn.self.history enough)
