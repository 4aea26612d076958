use Rattle.std.proofs.Common.{◌≡◌, drop}
use Rattle.hm_race_keys.specs.Arrays.{mixed_locks}
use Rattle.hm_race_keys.proofs.map_locks.mixed_locks.Given as goal

abbrev pub invariant-loop-lock : goal.invariant-loop-lock
invariant-loop-lock l = mixed_locks l.total (drop l.lock-index l.locks) ≡ mixed_locks l.sum l.locks
