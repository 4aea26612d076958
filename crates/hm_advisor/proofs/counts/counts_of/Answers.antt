use Rattle.std.proofs.Common.{◌≡◌, List, ◌++◌, ◌<◌, length, get_or, sym, ap, ◌∙◌, arith}
use Rattle.std.specs.Prelude.{Option, None}
use Rattle.std.proofs.Math.Path.{fun_ext}
use Rattle.std.proofs.lemmas.List.{get_or_default}
use Rattle.hm_advisor.specs.Accesses.{accesses, count_for}
use Rattle.hm_advisor.specs.Counts.{window_counts, windows}
use Rattle.hm_advisor.specs.declared.counts.Count.{Count}
use Rattle.hm_advisor.specs.declared.windows.Window.{Window}
use Rattle.hm_advisor.proofs.Pages.{counts_more}
use Rattle.hm_advisor.proofs.counts.counts_of.Goals as goal

pub loop-number-preserved : goal.loop-number-preserved
loop-number-preserved c =
    let h = c.args.history.now.entries in
    let n = c.loop-number.number in
    let seen = c.in_ok-seen.ensures in
    let same = c.as_slice.ensures in
    let counted : count_for c.in_ok-seen.seen.accesses ≡ accesses h = fun_ext (λ x. fun_ext (λ v. seen.counted x v)) ∙ ap accesses same in
    let ws = c.in_ok-seen.seen.windows in
    let none : Option Window = None in
    let within : n < length ws = omega (arith, c.loop-number-test.true, seen.mirrors) in
    let read : Option Window = get_or ws n c.index-seen-number.result in
    let window : read ≡ windows h n =
    get_or_default ws n c.index-seen-number.result none within
    ∙ seen.attached n c.loop-number-test.true ∙ ap (λ es. windows es n) same in
    c.in_ok-add_mirror.ensures
    ∙ ap (λ k. c.loop-number.counts ++ window_counts (count_for c.in_ok-seen.seen.accesses) k read) c.new-mirror.ensures
    ∙ ap (λ f. c.loop-number.counts ++ window_counts f n read) counted
    ∙ ap (λ w. c.loop-number.counts ++ window_counts (accesses h) n w) window
    ∙ ap (λ (xs : List Count). xs ++ window_counts (accesses h) n (windows h n)) c.loop-number.invariant
    ∙ sym (counts_more (accesses h) (windows h) n)
