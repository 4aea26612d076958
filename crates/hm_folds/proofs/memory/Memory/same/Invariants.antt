use Rattle.std.proofs.Common.{◌≡◌, ℕ, ◌<◌}
use Rattle.hm_folds.specs.Memory.{bytes_of}
use Rattle.hm_folds.proofs.memory.Memory.same.Given as goal

abbrev pub invariant-loop-proc : goal.invariant-loop-proc
invariant-loop-proc l = (p a : ℕ) → p < l.proc → bytes_of l.self.processes.items p a ≡ bytes_of l.other.processes.items p a
