use Rattle.std.proofs.Common.{length}
use Rattle.hm_check.proofs.Loops.{Taking}
use Rattle.hm_check.proofs.entries.take_entries.Given as goal

abbrev pub invariant-loop-alloc : goal.invariant-loop-alloc
invariant-loop-alloc l = Taking l.initial.world l.world l.bytes l.rest

abbrev pub decreases-loop-alloc : goal.decreases-loop-alloc
decreases-loop-alloc l = length l.rest
