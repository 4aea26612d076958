use Rattle.std.proofs.Common.{◌≡◌, ◌+◌, ◌-◌, ◌++◌, List, sym, ap, ◌∙◌, arith}
use Rattle.std.proofs.lemmas.List.{append_assoc}
use Rattle.hm_advisor.specs.Accesses.{count_for}
use Rattle.hm_advisor.specs.Counts.{pages_counted}
use Rattle.hm_advisor.specs.declared.counts.Count.{Count}
use Rattle.hm_advisor.proofs.Pages.{pages_append, pages_until, unused}
use Rattle.hm_advisor.proofs.counts.add_window.Goals as goal

pub loop-from-preserved-then-from-end : goal.loop-from-preserved-then-from-end
loop-from-preserved-then-from-end c =
    let f = count_for c.args.accesses.now in
    let m = c.args.mirror in
    let p = c.args.window.now.proc in
    let first = c.args.window.now.span.first in
    let old = c.args.counts.now in
    let inv = c.loop-from.invariant in
    let next = c.next_page-from.ensures in
    let to = c.next_page-from.result in
    let one : to + 1 - first ≡ (to - first) + 1 = omega (arith, inv.above, next.above) in
    let at : first + (to - first) ≡ to = omega (arith, inv.above, next.above) in
    let until = pages_until f m p first c.loop-from.from to inv.above next.above (λ v above below. unused f m p v (next.none v above below)) in
    let more : pages_counted f m p first (to + 1 - first) ≡ pages_counted f m p first (c.loop-from.from - first) ++ pages_counted f m p to 1 =
    ap (pages_counted f m p first) one ∙ pages_append f m p first (to - first) 1
    ∙ ap (λ k. pages_counted f m p first (to - first) ++ pages_counted f m p k 1) at
    ∙ ap (λ (xs : List Count). xs ++ pages_counted f m p to 1) until in
    record {
      above = omega (arith, inv.above, next.above);
      within = omega (arith, c.if-from-end.true);
      added = c.in_ok-add_page.ensures
          ∙ ap (λ k. c.loop-from.counts ++ pages_counted f m p k 1) c.new.ensures
          ∙ ap (λ (xs : List Count). xs ++ pages_counted f m p to 1) inv.added
          ∙ append_assoc old (pages_counted f m p first (c.loop-from.from - first)) (pages_counted f m p to 1)
          ∙ ap (λ (xs : List Count). old ++ xs) (sym more);
    }

pub loop-from-preserved : goal.loop-from-preserved
loop-from-preserved c =
    let f = count_for c.args.accesses.now in
    let m = c.args.mirror in
    let p = c.args.window.now.proc in
    let first = c.args.window.now.span.first in
    let inv = c.loop-from.invariant in
    let next = c.next_page-from.ensures in
    let until = pages_until f m p first c.loop-from.from c.next_page-from.result inv.above next.above (λ v above below. unused f m p v (next.none v above below)) in
    record {
      above = omega (arith, inv.above, next.above);
      within = next.within;
      added = inv.added ∙ ap (λ (xs : List Count). c.args.counts.now ++ xs) (sym until);
    }
