use Rattle.std.proofs.Common.{◌≡◌, ℕ, ◌+◌, ◌<◌, slice_index}
use Rattle.hm_folds.specs.Memory.{bytes_of}
use Rattle.hm_folds.proofs.plain.PlainState.has_bytes.Given as goal

abbrev pub invariant-loop-number : goal.invariant-loop-number
invariant-loop-number l =
    (k : ℕ) → k < l.number → slice_index l.bytes k ≡ bytes_of l.self.memory.processes.items l.proc (l.addr + k)
