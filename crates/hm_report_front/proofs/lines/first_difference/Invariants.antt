use Rattle.std.proofs.Common.{◌+◌, ◌≤◌, length}
use Rattle.hm_report_front.proofs.Loops.{Shared}
use Rattle.hm_report_front.proofs.lines.first_difference.Given as goal

abbrev pub invariant-loop-rest : goal.invariant-loop-rest
invariant-loop-rest l = Shared l.text l.other l.rest l.others l.same × (l.same + length l.rest ≤ length l.text)

abbrev pub decreases-loop-rest : goal.decreases-loop-rest
decreases-loop-rest l = length l.rest
