use Rattle.std.proofs.Common.{◌≡◌, ℕ, ◌<◌, length, slice_index_or}
use Rattle.hm_race_laws.specs.Numbers.{small_interval}
use Rattle.hm_folds.specs.Kept.{interval_at}
use Rattle.hm_race_states.proofs.small.settled_intervals.Given as goal

abbrev pub invariant-loop-number : goal.invariant-loop-number
invariant-loop-number l = record {
  len : length l.settled ≡ 32;
  so_far : (m : ℕ) → m < l.number → interval_at l.settled m ≡ small_interval (λ p. slice_index_or l.seqs p 2) (interval_at l.intervals m);
}
