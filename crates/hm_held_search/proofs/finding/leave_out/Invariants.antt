use Rattle.std.proofs.Common.{length}
use Rattle.hm_held_search.specs.Tried.{IsSure}
use Rattle.hm_held_search.proofs.finding.leave_out.Given as goal

-- every order that keeps those that are left goes wrong
abbrev pub invariant-loop-holds : goal.invariant-loop-holds
invariant-loop-holds l = IsSure l.race l.holds.items l.most l.states

abbrev pub decreases-loop-holds : goal.decreases-loop-holds
decreases-loop-holds l = length l.holds.items
