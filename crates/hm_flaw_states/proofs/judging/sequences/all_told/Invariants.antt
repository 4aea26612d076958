use Rattle.std.proofs.Common.{◌≡◌, ℕ, ◌<◌, ◌==◌, true}
use Rattle.std.specs.List.{list_any}
use Rattle.hm_folds.specs.Kept.{has_mirror}
use Rattle.hm_flaw_states.proofs.judging.sequences.all_told.Given as goal

abbrev pub invariant-loop-number : goal.invariant-loop-number
invariant-loop-number l = (k : ℕ) → k < l.number → has_mirror l.met k ≡ true → list_any (λ t. t == k) l.told ≡ true
