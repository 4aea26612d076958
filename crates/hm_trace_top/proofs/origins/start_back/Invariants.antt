use Rattle.std.proofs.Common.{◌≡◌, ◌+◌, ◌≤◌, length}
use Rattle.std.specs.Prelude.{reverse}
use Rattle.hm_trace_top.specs.Origins.{start_back}
use Rattle.hm_trace_top.proofs.origins.start_back.Given as goal

-- what is left comes to what all come to
abbrev pub invariant-loop-left : goal.invariant-loop-left
invariant-loop-left l = record {
  same : start_back l.thread l.closed (reverse l.left) ≡ start_back l.fn.thread 0 (reverse l.fn.events);
  counts : l.closed + length l.left ≤ length l.fn.events;
}

abbrev pub decreases-loop-left : goal.decreases-loop-left
decreases-loop-left l = length l.left
