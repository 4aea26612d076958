use Rattle.std.proofs.Common.{◌≡◌, take}
use Rattle.hm_advisor.specs.Moves.{moves_for}
use Rattle.hm_advisor.proofs.advice.moves_for.Given as goal

-- the moves of the pages so far
abbrev pub invariant-loop-count : goal.invariant-loop-count
invariant-loop-count g l = l.moves ≡ moves_for (take l.count-index l.counts)
