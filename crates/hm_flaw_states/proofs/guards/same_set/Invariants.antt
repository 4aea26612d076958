use Rattle.std.proofs.Common.{◌≡◌, ℕ, ◌<◌}
use Rattle.hm_folds.specs.Kept.{has_mirror}
use Rattle.hm_flaw_states.proofs.guards.same_set.Given as goal

abbrev pub invariant-loop-at : goal.invariant-loop-at
invariant-loop-at l = (k : ℕ) → k < l.at → has_mirror l.one k ≡ has_mirror l.other k
