use Rattle.std.proofs.Common.{◌≡◌, ℕ, ◌<◌}
use Rattle.hm_folds.specs.Been.{been_of}
use Rattle.hm_flaw_states.proofs.same_parts.same_been.Given as goal

abbrev pub invariant-loop-at : goal.invariant-loop-at
invariant-loop-at l = (p : ℕ) → p < l.at → been_of l.one p ≡ been_of l.other p
