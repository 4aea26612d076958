use Rattle.std.proofs.Common.{◌≡◌, ℕ, ◌<◌, length}
use Rattle.hm_folds.specs.Kept.{has_mirror, overlaps_at}
use Rattle.hm_folds.proofs.intervals.overlapping.Given as goal

abbrev pub invariant-loop-number : goal.invariant-loop-number
invariant-loop-number l = record {
  len : length l.set ≡ 32;
  so_far : (k : ℕ) → k < l.number → has_mirror l.set k ≡ overlaps_at l.intervals l.proc l.span k;
}
