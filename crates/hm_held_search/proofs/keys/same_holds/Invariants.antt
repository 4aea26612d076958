use Rattle.std.proofs.Common.{◌≡◌, take}
use Rattle.hm_held_search.proofs.keys.same_holds.Given as goal

-- the holds so far are the same
abbrev pub invariant-loop-at : goal.invariant-loop-at
invariant-loop-at l = take l.at l.one ≡ take l.at l.other
