use Rattle.std.proofs.Common.{◌≡◌, ℕ, ◌<◌, ◌≤◌}
use Rattle.hm_history.specs.Memory.Sequences.{applied}
use Rattle.hm_folds.specs.Kept.{interval_at}
use Rattle.hm_folds.proofs.intervals.apply_all.Given as goal

abbrev pub invariant-loop-number : goal.invariant-loop-number
invariant-loop-number l = record {
  before : (k : ℕ) → k < l.number → interval_at l.intervals k ≡ applied l.proc (interval_at l.fn.intervals k);
  rest : (k : ℕ) → l.number ≤ k → interval_at l.intervals k ≡ interval_at l.fn.intervals k;
}
