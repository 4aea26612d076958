use Rattle.std.proofs.Common.{◌≡◌, ℕ, length}
use Rattle.hm_folds.specs.Memory.{bytes_of}
use Rattle.hm_folds.proofs.memory.Memory.new.Given as goal

abbrev pub invariant-loop : goal.invariant-loop
invariant-loop l = record {
  len : length l.processes.items ≡ l.counter;
  zeros : (p a : ℕ) → bytes_of l.processes.items p a ≡ 0;
}
