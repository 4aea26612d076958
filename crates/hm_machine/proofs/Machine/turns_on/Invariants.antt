use Rattle.std.proofs.Common.{◌-◌}
use Rattle.hm_history.specs.Kernel.Run.{enough, turns_on}
use Rattle.hm_machine.proofs.Draining.{Left}
use Rattle.hm_machine.proofs.Machine.turns_on.Given as goal

abbrev pub invariant-loop-turn : goal.invariant-loop-turn
invariant-loop-turn g l = Left l.fn.self l.self (λ h. turns_on l.fn.self.script h l.actor (enough - l.turn)) (turns_on l.fn.self.script l.fn.self.history l.actor enough)
