use Rattle.std.proofs.Common.{◌+◌, ◌≤◌, length}
use Rattle.hm_report_front.proofs.Loops.{Passed}
use Rattle.hm_report_front.proofs.front.cut_front.Given as goal

abbrev pub invariant-loop-rest : goal.invariant-loop-rest
invariant-loop-rest l = Passed l.bytes l.rest l.count × (l.count + length l.rest ≤ length l.bytes)

abbrev pub decreases-loop-rest : goal.decreases-loop-rest
decreases-loop-rest l = length l.rest
