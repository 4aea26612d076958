use Rattle.std.proofs.Common.{◌≡◌, ℕ, ◌<◌, true, false, length, get_or}
use Rattle.frame_pool.proofs.number_set.NumberSet.full.Given as goal

abbrev pub invariant-loop-number : goal.invariant-loop-number
invariant-loop-number l = record {
  len : length l.set ≡ l.size;
  all : (k : ℕ) → k < l.number → get_or l.set k false ≡ true;
}
