use Rattle.std.proofs.Common.{take}
use Rattle.hm_verdicts.specs.Judging.{Follows}
use Rattle.hm_verdicts.proofs.verdicts.judged.Given as goal

abbrev pub invariant-loop-event : goal.invariant-loop-event
invariant-loop-event l = Follows l.judge (take l.event-index l.events)
