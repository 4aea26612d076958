use Rattle.std.proofs.Common.{drop}
use Rattle.std.specs.Prelude.{fold}
use Rattle.hm_history.specs.Kernel.Run.{enough, turns_on, actors_of, round}
use Rattle.hm_machine.proofs.Draining.{Left}
use Rattle.hm_machine.proofs.Machine.round.Given as goal

abbrev pub invariant-loop-number : goal.invariant-loop-number
invariant-loop-number g l =
    let c = l.fn.self.script in
    Left l.fn.self l.self (λ h. fold (λ g a. turns_on c g a enough) h (drop l.number (actors_of c))) (round c l.fn.self.history)
