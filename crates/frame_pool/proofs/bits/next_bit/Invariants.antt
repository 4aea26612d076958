use Rattle.std.proofs.Common.{◌*◌}
use Rattle.frame_pool.proofs.Words.{Clear}
use Rattle.frame_pool.proofs.bits.next_bit.Given as goal

abbrev pub invariant-loop-at : goal.invariant-loop-at
invariant-loop-at l = Clear l.words l.from (l.at * 64)
