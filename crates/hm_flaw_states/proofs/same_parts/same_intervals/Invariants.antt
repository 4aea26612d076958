use Rattle.std.proofs.Common.{◌≡◌, ℕ, ◌<◌}
use Rattle.hm_folds.specs.Kept.{interval_at}
use Rattle.hm_flaw_states.proofs.same_parts.same_intervals.Given as goal

abbrev pub invariant-loop-at : goal.invariant-loop-at
invariant-loop-at l = (m : ℕ) → m < l.at → interval_at l.one m ≡ interval_at l.other m
