use Rattle.std.proofs.Common.{◌≡◌, ◌+◌, length, ap, sym, ◌∙◌, arith, ◌∷◌, [], ◌++◌, List, length-append}
use Rattle.std.specs.Vec.Iter.{into_iter_items}
use Rattle.hm_turns.specs.Sights.{Sight}
use Rattle.hm_workers.specs.Working.{numbered}
use Rattle.hm_workers.proofs.Numbers.{job, numbered_more, all_more, pushed}
use Rattle.hm_workers.proofs.workers.jobs_of.Goals as goal

pub loop-pass-preserved : goal.loop-pass-preserved
loop-pass-preserved c = let i = c.loop-pass.invariant in let ys : List Sight = c.loop-pass.yielded in let p : Sight = c.in-Some.pass in
    let total = ap length i.all in let step = c.in-Some.ensures.steps.0 in let long = length-append ys (p ∷ []) in
    let counts : length ys + 1 ≡ length (ys ++ p ∷ []) = omega arith in
    let sizes = length-append ys (into_iter_items c.loop-pass.pass-iterator) in
    let front = ap length step in let zero_first : length ys ≡ 0 + length ys = omega arith in
    record {
      all = all_more ys _ _ _ p i.all step;
      next = omega arith;
      jobs = pushed _ _ _ _ _ c.if-is_err.false c.is_err.ensures.negation c.push.ensures.items
          ∙ ((λ j. i.jobs j ++ job ((c.new-actor.ensures ∙ i.next) j) p ∷ []) ∙ ((λ j. numbered 0 ys ++ job (zero_first j) p ∷ []) ∙ sym (numbered_more 0 ys p)));
    }
