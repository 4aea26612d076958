use Rattle.std.proofs.Common.{◌≡◌, ℕ, ◌<◌, false}
use Rattle.hm_spaces.specs.Holders.{is_writer}
use Rattle.hm_spaces.proofs.map_locks.writer.Given as goal

abbrev pub invariant-loop-at : goal.invariant-loop-at
invariant-loop-at l = (k : ℕ) → k < l.at → is_writer l.locks l.proc k ≡ false
