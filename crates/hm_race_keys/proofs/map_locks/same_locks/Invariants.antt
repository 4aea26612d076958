use Rattle.std.proofs.Common.{◌≡◌, ℕ, ◌<◌}
use Rattle.hm_race_keys.specs.Arrays.{lock_in}
use Rattle.hm_race_keys.proofs.map_locks.same_locks.Given as goal

abbrev pub invariant-loop-at : goal.invariant-loop-at
invariant-loop-at l = (a : ℕ) → a < l.at → lock_in l.one a ≡ lock_in l.other a
