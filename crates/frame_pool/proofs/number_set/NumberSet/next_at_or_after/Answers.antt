use Rattle.std.proofs.Common.{ap, arith, ◌∙◌}
use Rattle.std.proofs.lemmas.List.{get_or_read}
use Rattle.frame_pool.specs.Bits.{next_true}
use Rattle.frame_pool.proofs.Members.{nothing_past, next_in_first, next_in_none, next_in_later, later_inside, word_there}
use Rattle.frame_pool.proofs.number_set.NumberSet.next_at_or_after.Goals as goal

pub returns-then-first-len : goal.returns-then-first-len
returns-then-first-len c = let s = c.self.inside in
    nothing_past s.size s.words.items s.summary.items c.args.from c.self.invariant (omega arith) ∙ ap (λ xs. next_true xs c.args.from) c.self.view_is

pub returns-in-Some : goal.returns-in-Some
returns-in-Some c = let s = c.self.inside in
    next_in_first s.size s.words.items s.summary.items c.args.from _ c.in-Some.bit c.self.invariant (omega arith) c.index.ensures c.in-Some.ensures.next
    ∙ ap (λ xs. next_true xs c.args.from) c.self.view_is

pub returns-in_err-word : goal.returns-in_err-word
returns-in_err-word c = let s = c.self.inside in
    c.from_residual.ensures ∙ next_in_none s.size s.words.items s.summary.items _ c.args.from _ c.deref.ensures.value c.self.invariant (omega arith) c.index.ensures c.in_default.ensures.next c.in_err-word.ensures
    ∙ ap (λ xs. next_true xs c.args.from) c.self.view_is

pub index-members-requires : goal.index-members-requires
index-members-requires c = let s = c.self.inside in
    let here = c.in_ok-word.ensures {u = tt} in
    let there = word_there s.size s.words.items s.summary.items _ c.in_ok-word.word c.deref.ensures.value c.self.invariant here.1 in omega (arith, there, s.words.ok.0)

pub overflow_mul-result-2 : goal.overflow_mul-result-2
overflow_mul-result-2 c = let s = c.self.inside in
    let here = c.in_ok-word.ensures {u = tt} in
    let there = word_there s.size s.words.items s.summary.items _ c.in_ok-word.word c.deref.ensures.value c.self.invariant here.1 in omega (arith, there, c.self.invariant.few)

pub overflow_cast-result-2 : goal.overflow_cast-result-2
overflow_cast-result-2 c = let s = c.self.inside in
    let here = c.in_ok-word.ensures {u = tt} in
    let there = word_there s.size s.words.items s.summary.items _ c.in_ok-word.word c.deref.ensures.value c.self.invariant here.1 in
    let read = get_or_read s.words.items c.in_ok-word.word _ there c.index-members.ensures 0 in
    omega (arith, later_inside s.size s.words.items s.summary.items _ c.args.from _ c.in_ok-word.word _ c.deref.ensures.value c.self.invariant (omega arith) c.index.ensures c.in_default.ensures.next c.in_ok-word.ensures read (omega arith), c.self.invariant.fits)

pub overflow_add-result-2 : goal.overflow_add-result-2
overflow_add-result-2 c = let s = c.self.inside in
    let here = c.in_ok-word.ensures {u = tt} in
    let there = word_there s.size s.words.items s.summary.items _ c.in_ok-word.word c.deref.ensures.value c.self.invariant here.1 in
    let read = get_or_read s.words.items c.in_ok-word.word _ there c.index-members.ensures 0 in
    omega (arith, later_inside s.size s.words.items s.summary.items _ c.args.from _ c.in_ok-word.word _ c.deref.ensures.value c.self.invariant (omega arith) c.index.ensures c.in_default.ensures.next c.in_ok-word.ensures read (omega arith), c.self.invariant.fits)

pub returns : goal.returns
returns c = let s = c.self.inside in
    let here = c.in_ok-word.ensures {u = tt} in
    let there = word_there s.size s.words.items s.summary.items _ c.in_ok-word.word c.deref.ensures.value c.self.invariant here.1 in
    let read = get_or_read s.words.items c.in_ok-word.word _ there c.index-members.ensures 0 in
    next_in_later s.size s.words.items s.summary.items _ c.args.from _ c.in_ok-word.word _ c.deref.ensures.value c.self.invariant (omega arith) c.index.ensures c.in_default.ensures.next c.in_ok-word.ensures read (omega arith) ∙ ap (λ xs. next_true xs c.args.from) c.self.view_is
