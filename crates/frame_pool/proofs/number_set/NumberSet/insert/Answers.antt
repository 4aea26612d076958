use Rattle.std.proofs.Common.{arith, true}
use Rattle.frame_pool.proofs.Members.{list_set, size_is, summed_with, word_inside}
use Rattle.frame_pool.proofs.number_set.NumberSet.insert.Goals as goal

pub set_bit-requires : goal.set_bit-requires
set_bit-requires c = let s = c.self.inside in
    (word_inside s.size s.words.items s.summary.items _ c.self.invariant (omega (arith, c.requires, size_is _ _ _ c.self.view_is))).0

pub set_bit-requires-2 : goal.set_bit-requires-2
set_bit-requires-2 c = let s = c.self.inside in
    (word_inside s.size s.words.items s.summary.items _ c.self.invariant (omega (arith, c.requires, size_is _ _ _ c.self.view_is))).1

pub invariant_of-self : goal.invariant_of-self
invariant_of-self c = let s = c.self.inside in
    summed_with s.size c.args.number s.words.items _ s.summary.items _ (omega (arith, c.requires, size_is _ _ _ c.self.view_is)) c.self.invariant
    c.set_bit.ensures.bits c.set_bit.ensures.others c.set_bit.ensures.len c.set_bit-2.ensures.bits c.set_bit-2.ensures.len

pub returns : goal.returns
returns c = let s = c.self.inside in
    list_set s.words.items _ s.size c.args.number true _ c.self.view_is (omega (arith, c.requires, size_is _ _ _ c.self.view_is)) c.set_bit.ensures.bits
