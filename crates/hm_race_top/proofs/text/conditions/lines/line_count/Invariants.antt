use Rattle.std.proofs.Common.{length}
use Rattle.hm_race_top.proofs.Counted.{CountedTo}
use Rattle.hm_race_top.proofs.text.conditions.lines.line_count.Given as goal

-- those that were passed are counted
abbrev pub invariant-loop-rest : goal.invariant-loop-rest
invariant-loop-rest l = CountedTo l.lines l.text l.rest l.count

abbrev pub decreases-loop-rest : goal.decreases-loop-rest
decreases-loop-rest l = length l.rest
