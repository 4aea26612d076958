use Rattle.std.proofs.Common.{◌≡◌, ◌++◌, length}
use Rattle.hm_report_reading.specs.Words as spec
use Rattle.hm_report_reading.proofs.words.bytes.Given as goal

abbrev pub invariant-loop-rest : goal.invariant-loop-rest
invariant-loop-rest l = l.bytes ++ spec.bytes_at l.rest ≡ spec.bytes_at l.word

abbrev pub decreases-loop-rest : goal.decreases-loop-rest
decreases-loop-rest l = length l.rest
