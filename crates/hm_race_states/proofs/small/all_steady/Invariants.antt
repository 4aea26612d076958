use Rattle.std.proofs.Common.{◌≡◌, ℕ, ◌<◌, false, slice_index_or}
use Rattle.hm_race_laws.specs.Numbers.{small_interval}
use Rattle.hm_folds.specs.Kept.{interval_at}
use Rattle.hm_race_states.specs.SeqBy.{seq_by}
use Rattle.hm_race_states.proofs.small.all_steady.Given as goal

abbrev pub invariant-loop-number : goal.invariant-loop-number
invariant-loop-number l = (m : ℕ) → m < l.number → small_interval (λ p. seq_by (slice_index_or l.odd p false)) (interval_at l.intervals m) ≡ interval_at l.intervals m
