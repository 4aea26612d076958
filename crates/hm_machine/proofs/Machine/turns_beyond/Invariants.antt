use Rattle.std.proofs.Common.{◌≡◌, drop}
use Rattle.hm_history.specs.Kernel.Run.{actors_of}
use Rattle.hm_history.specs.Kernel.Overrun.{some_overruns}
use Rattle.hm_machine.proofs.Machine.turns_beyond.Given as goal

abbrev pub invariant-loop-number : goal.invariant-loop-number
invariant-loop-number g l =
    let c = l.fn.self.script in
    let h = l.fn.self.history in
    (l.self ≡ l.fn.self) × (some_overruns c h (drop l.number (actors_of c)) ≡ some_overruns c h (actors_of c))
