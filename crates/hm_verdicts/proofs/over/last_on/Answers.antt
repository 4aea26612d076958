use Rattle.std.proofs.Common.{◌≡◌, ◌∙◌, sym, subst, true, arith, ◌+◌, suc}
use Rattle.hm_verdicts.specs.Settled.{First, is_lasting}
use Rattle.hm_verdicts.proofs.Settled.{first_more}
use Rattle.hm_verdicts.proofs.over.last_on.Goals as goal

pub loop-count-preserved : goal.loop-count-preserved
loop-count-preserved c =
    let cs = c.args.calls.now in
    let n = c.loop-count.count in
    let d = c.index-calls-count.result in
    let more : suc n ≡ n + 1 = omega arith in
    subst (λ k. First (λ x. is_lasting x ≡ true) k cs) more
    (first_more (λ x. is_lasting x ≡ true) n cs d c.loop-count.invariant c.loop-count-test.true
    (subst (λ x. is_lasting x ≡ true) c.index-calls-count.is (sym c.is_lasting.ensures ∙ c.if-is_lasting.true)))
