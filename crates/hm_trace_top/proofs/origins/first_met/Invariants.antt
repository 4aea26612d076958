use Rattle.std.proofs.Common.{◌≡◌, ◌+◌, length}
use Rattle.hm_trace_top.specs.Origins.{first_met}
use Rattle.hm_trace_top.proofs.origins.first_met.Given as goal

-- what is left comes to what all come to
abbrev pub invariant-loop-left : goal.invariant-loop-left
invariant-loop-left l = record {
  same : first_met l.mirror l.seq l.from l.at l.left ≡ first_met l.fn.mirror l.fn.seq l.fn.from 0 l.fn.events;
  counts : l.at + length l.left ≡ length l.fn.events;
}

abbrev pub decreases-loop-left : goal.decreases-loop-left
decreases-loop-left l = length l.left
