use Rattle.std.proofs.Common.{arith, sym, ◌∙◌, false}
use Rattle.frame_pool.proofs.Members.{list_set, is_member, read_word, summed_without, summed_without_word, word_inside}
use Rattle.frame_pool.proofs.number_set.NumberSet.remove.Goals as goal

pub clear_bit-requires : goal.clear_bit-requires
clear_bit-requires c = let s = c.self.inside in let m = is_member _ _ _ _ c.self.view_is c.requires in
    (word_inside s.size s.words.items s.summary.items _ c.self.invariant m.0).0

pub index-requires : goal.index-requires
index-requires c = let s = c.self.inside in let m = is_member _ _ _ _ c.self.view_is c.requires in
    omega (arith, c.clear_bit.ensures.len, c.clear_bit.new.words.ok.0, (word_inside s.size s.words.items s.summary.items _ c.self.invariant m.0).0)

pub clear_bit-requires-then-index-eq0 : goal.clear_bit-requires-then-index-eq0
clear_bit-requires-then-index-eq0 c = let s = c.self.inside in let m = is_member _ _ _ _ c.self.view_is c.requires in
    (word_inside s.size s.words.items s.summary.items _ c.self.invariant m.0).1

pub invariant_of-self : goal.invariant_of-self
invariant_of-self c = let s = c.self.inside in let m = is_member _ _ _ _ c.self.view_is c.requires in
    summed_without_word s.size c.args.number s.words.items _ s.summary.items _ m.0 c.self.invariant
    c.clear_bit.ensures.bits c.clear_bit.ensures.others c.clear_bit.ensures.len (sym (read_word _ _ _ _ _ _ c.clear_bit.ensures.len m.0 c.self.invariant c.index.ensures) ∙ c.if-index-eq0.true) c.clear_bit-then-index-eq0.ensures.bits c.clear_bit-then-index-eq0.ensures.len

pub invariant_of-self-else-index-eq0 : goal.invariant_of-self-else-index-eq0
invariant_of-self-else-index-eq0 c = let s = c.self.inside in let m = is_member _ _ _ _ c.self.view_is c.requires in
    summed_without s.size c.args.number s.words.items _ s.summary.items m.0 c.self.invariant m.1
    c.clear_bit.ensures.bits c.clear_bit.ensures.others c.clear_bit.ensures.len (λ e. c.if-index-eq0.false (read_word _ _ _ _ _ _ c.clear_bit.ensures.len m.0 c.self.invariant c.index.ensures ∙ e))

pub returns-then-index-eq0 : goal.returns-then-index-eq0
returns-then-index-eq0 c = let s = c.self.inside in let m = is_member _ _ _ _ c.self.view_is c.requires in
    list_set s.words.items _ s.size c.args.number false _ c.self.view_is m.0 c.clear_bit.ensures.bits

pub returns-else-index-eq0 : goal.returns-else-index-eq0
returns-else-index-eq0 c = let s = c.self.inside in let m = is_member _ _ _ _ c.self.view_is c.requires in
    list_set s.words.items _ s.size c.args.number false _ c.self.view_is m.0 c.clear_bit.ensures.bits
