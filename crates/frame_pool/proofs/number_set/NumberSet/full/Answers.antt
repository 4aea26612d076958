use Rattle.std.proofs.Common.{arith}
use Rattle.frame_pool.proofs.Members.{all_members}
use Rattle.frame_pool.proofs.number_set.NumberSet.full.Goals as goal

pub returns : goal.returns
returns c = all_members c.args.size _ c.loop-number.invariant.len (λ k l. c.loop-number.invariant.all k (omega arith))
