use Rattle.std.proofs.Common.{◌≡◌, ◌+◌, length}
use Rattle.hm_trace_top.specs.Origins.{begun_on, unbegun}
use Rattle.hm_trace_top.proofs.origins.look_up.Given as goal

-- what is left comes to what all come to
abbrev pub invariant-loop-left : goal.invariant-loop-left
invariant-loop-left l = record {
  same : begun_on l.thread l.mirror l.at l.begun l.left ≡ begun_on l.fn.thread l.fn.mirror 0 unbegun l.fn.events;
  counts : l.at + length l.left ≡ length l.fn.events;
}

abbrev pub decreases-loop-left : goal.decreases-loop-left
decreases-loop-left l = length l.left
