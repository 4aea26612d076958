use Rattle.std.proofs.Common.{◌≡◌, take}
use Rattle.hm_race_keys.proofs.sparse.same_items.Given as goal

abbrev pub invariant-loop-at : goal.invariant-loop-at
invariant-loop-at g l = take l.at l.one ≡ take l.at l.other
