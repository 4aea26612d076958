use Rattle.std.proofs.Common.{ℕ, ◌<◌}
use Rattle.hm_held_search.specs.Finding.{IsNeeded}
use Rattle.hm_held_search.proofs.finding.leave_one.Given as goal

-- each of the holds so far is needed
abbrev pub invariant-loop-at : goal.invariant-loop-at
invariant-loop-at l = (i : ℕ) → i < l.at → IsNeeded l.race l.holds i
