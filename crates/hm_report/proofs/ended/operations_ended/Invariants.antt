use Rattle.std.proofs.Common.{take}
use Rattle.hm_report.specs.Ends.{AreEnds}
use Rattle.hm_report.proofs.ended.operations_ended.Given as goal

-- the arrays have how far each actor is after the entries so far
abbrev pub invariant-loop-entry : goal.invariant-loop-entry
invariant-loop-entry l = AreEnds l.script (take l.entry-index l.entry-items) l.ends
