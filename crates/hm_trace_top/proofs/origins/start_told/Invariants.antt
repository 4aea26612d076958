use Rattle.std.proofs.Common.{◌≡◌, ◌≤◌, length}
use Rattle.std.specs.Prelude.{reverse}
use Rattle.hm_trace_top.specs.Origins.{start_told}
use Rattle.hm_trace_top.proofs.origins.start_told.Given as goal

-- what is left comes to what all come to
abbrev pub invariant-loop-left : goal.invariant-loop-left
invariant-loop-left l = record {
  same : start_told l.mirror l.seq (reverse l.left) ≡ start_told l.fn.mirror l.fn.seq (reverse l.fn.events);
  shorter : length l.left ≤ length l.fn.events;
}

abbrev pub decreases-loop-left : goal.decreases-loop-left
decreases-loop-left l = length l.left
