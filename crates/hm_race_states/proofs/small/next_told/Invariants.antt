use Rattle.std.proofs.Common.{◌≡◌, ℕ, ◌<◌, ◌&&◌, false}
use Rattle.hm_history.specs.Memory.Sequences.{is_above}
use Rattle.hm_folds.specs.Kept.{overlaps_at}
use Rattle.hm_race_states.proofs.small.next_told.Given as goal

abbrev pub invariant-loop-number : goal.invariant-loop-number
invariant-loop-number l =
    (k : ℕ) → k < l.number → (overlaps_at l.intervals l.proc l.span k && is_above l.fn.after k) ≡ false
