use Rattle.std.proofs.Common.{length, ◌-◌}
use Rattle.hm_verdicts.specs.Numbers.{positions_in}
use Rattle.hm_verdicts.specs.Settled.{First, IsBelow}
use Rattle.hm_verdicts.proofs.over.learn.Given as goal

abbrev pub invariant-loop-count : goal.invariant-loop-count
invariant-loop-count l = First (IsBelow (positions_in l.highest)) l.count l.calls

abbrev pub decreases-loop-count : goal.decreases-loop-count
decreases-loop-count l = length l.calls - l.count
