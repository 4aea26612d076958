use Rattle.std.proofs.Common.{◌≡◌, ℕ, ◌<◌, None, length, slice_index_or}
use Rattle.hm_linux_steps.proofs.notes.copy_locks.Given as goal

abbrev pub invariant-loop-at : goal.invariant-loop-at
invariant-loop-at l = record {
  len : length l.copy ≡ 16;
  copied : (a : ℕ) → a < l.at → slice_index_or l.copy a None ≡ slice_index_or l.locks a None;
}
