use Rattle.std.proofs.Common.{length, ◌-◌}
use Rattle.hm_verdicts.specs.Settled.{First, IsOver}
use Rattle.hm_verdicts.proofs.over.settle.Given as goal

abbrev pub invariant-loop-over : goal.invariant-loop-over
invariant-loop-over l = First (IsOver l.over) l.over.count l.calls

abbrev pub decreases-loop-over : goal.decreases-loop-over
decreases-loop-over l = length l.calls - l.over.count
