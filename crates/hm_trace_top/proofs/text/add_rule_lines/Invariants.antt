use Rattle.std.proofs.Common.{◌≡◌, ◌++◌, length}
use Rattle.hm_trace_top.specs.Texts.{rule_lines}
use Rattle.hm_trace_top.proofs.text.add_rule_lines.Given as goal

-- what was added, and the lines that are left, are all lines
abbrev pub invariant-loop-left : goal.invariant-loop-left
invariant-loop-left l =
    l.text ++ rule_lines l.trace.events.items l.trace.numbers.items l.left l.said ≡ l.fn.text ++ rule_lines l.fn.trace.events.items l.fn.trace.numbers.items l.fn.rules l.fn.verdicts

abbrev pub decreases-loop-left : goal.decreases-loop-left
decreases-loop-left l = length l.left
