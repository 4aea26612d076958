use Rattle.std.proofs.Common.{◌≡◌, ℕ, ◌<◌, ◌≤◌, None}
use Rattle.hm_folds.specs.Kept.{interval_at}
use Rattle.hm_race_states.proofs.small.used.Given as goal

abbrev pub invariant-loop-number : goal.invariant-loop-number
invariant-loop-number l = record {
  within : l.count ≤ l.number;
  none : (m : ℕ) → l.count ≤ m → m < l.number → interval_at l.intervals m ≡ None;
}
