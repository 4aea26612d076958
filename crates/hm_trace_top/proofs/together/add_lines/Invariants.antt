use Rattle.std.proofs.Common.{◌≡◌, ◌++◌, length}
use Rattle.hm_trace_top.specs.Together.{together_lines}
use Rattle.hm_trace_top.proofs.together.add_lines.Given as goal

-- what was added, and the lines that are left, are all lines
abbrev pub invariant-loop-left : goal.invariant-loop-left
invariant-loop-left l = l.text ++ together_lines l.said l.left ≡ l.fn.text ++ together_lines l.fn.said l.fn.rules

abbrev pub decreases-loop-left : goal.decreases-loop-left
decreases-loop-left l = length l.left
