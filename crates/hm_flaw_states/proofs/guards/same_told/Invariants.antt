use Rattle.std.proofs.Common.{◌≡◌, take}
use Rattle.hm_flaw_states.proofs.guards.same_told.Given as goal

abbrev pub invariant-loop-at : goal.invariant-loop-at
invariant-loop-at l = take l.at l.one ≡ take l.at l.other
