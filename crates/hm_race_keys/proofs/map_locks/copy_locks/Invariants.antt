use Rattle.std.proofs.Common.{◌≡◌, ℕ, ◌<◌, length}
use Rattle.hm_race_keys.specs.Arrays.{lock_in}
use Rattle.hm_race_keys.proofs.map_locks.copy_locks.Given as goal

abbrev pub invariant-loop-at : goal.invariant-loop-at
invariant-loop-at l = record {
  len : length l.copy ≡ 16;
  copied : (a : ℕ) → a < l.at → lock_in l.copy a ≡ lock_in l.locks a;
}
