use Rattle.std.proofs.Common.{◌≡◌, ℕ, ◌<◌, ◌≤◌, None, length}
use Rattle.hm_folds.specs.Kept.{interval_at}
use Rattle.hm_race_states.proofs.small.copied.Given as goal

abbrev pub invariant-loop-number : goal.invariant-loop-number
invariant-loop-number l = record {
  len : length l.copy ≡ 32;
  so_far : (m : ℕ) → m < l.number → interval_at l.copy m ≡ interval_at l.intervals m;
  rest : (m : ℕ) → l.number ≤ m → interval_at l.copy m ≡ None;
}
