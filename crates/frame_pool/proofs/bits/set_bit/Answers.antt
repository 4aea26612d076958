use Rattle.frame_pool.proofs.Words.{bit_set}
use Rattle.frame_pool.proofs.bits.set_bit.Goals as goal

pub returns-clause-bits : goal.returns-clause-bits
returns-clause-bits c = λ k. bit_set c.args.words.now.items c.args.at k _ c.requires c.index_mut.ensures.value
