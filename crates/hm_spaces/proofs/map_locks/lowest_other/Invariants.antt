use Rattle.std.proofs.Common.{◌≡◌, ℕ, ◌<◌, false}
use Rattle.hm_spaces.specs.Holders.{is_other}
use Rattle.hm_spaces.proofs.map_locks.lowest_other.Given as goal

abbrev pub invariant-loop-at : goal.invariant-loop-at
invariant-loop-at l = (k : ℕ) → k < l.at → is_other l.locks l.proc l.actor k ≡ false
