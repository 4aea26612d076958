use Rattle.std.proofs.Common.{◌≡◌, ◌+◌, length}
use Rattle.hm_trace_top.specs.Together.{kept_in}
use Rattle.hm_trace_top.proofs.together.kept_in.Given as goal

-- the sum so far, and what is left, are all
abbrev pub invariant-loop-left : goal.invariant-loop-left
invariant-loop-left l = l.sum + kept_in l.left l.rule ≡ kept_in l.fn.said l.rule

abbrev pub decreases-loop-left : goal.decreases-loop-left
decreases-loop-left l = length l.left
