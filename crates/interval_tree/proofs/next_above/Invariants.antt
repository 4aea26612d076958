use Rattle.std.proofs.Common.{◌≡◌, ℕ, ◌<◌, false}
use Rattle.interval_tree.specs.Intervals.{overlaps}
use Rattle.interval_tree.proofs.next_above.Given as goal

abbrev pub invariant-loop-id : goal.invariant-loop-id
invariant-loop-id l = (j : ℕ) → l.fn.after < j → j < l.id → overlaps l.spans l.span j ≡ false
