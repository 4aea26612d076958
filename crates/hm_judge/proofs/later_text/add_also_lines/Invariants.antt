use Rattle.hm_judge.proofs.LaterLines.{SaysOf}
use Rattle.hm_judge.proofs.later_text.add_also_lines.Given as goal

-- what is said of the entries so far was added
abbrev pub invariant-loop-at : goal.invariant-loop-at
invariant-loop-at l = SaysOf l.first l.bad l.entries l.rules l.at l.fn.text l.text
