use Rattle.std.proofs.Common.{◌≡◌, length, true, ◌-◌}
use Rattle.hm_verdicts.specs.Settled.{First, is_lasting}
use Rattle.hm_verdicts.proofs.over.last_on.Given as goal

abbrev pub invariant-loop-count : goal.invariant-loop-count
invariant-loop-count l = First (λ x. is_lasting x ≡ true) l.count l.calls

abbrev pub decreases-loop-count : goal.decreases-loop-count
decreases-loop-count l = length l.calls - l.count
