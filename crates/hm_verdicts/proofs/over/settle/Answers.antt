use Rattle.std.proofs.Common.{◌≡◌, ◌∙◌, sym, subst, arith, ◌<◌, ◌+◌, length, suc}
use Rattle.hm_verdicts.specs.Settled.{First, IsOver}
use Rattle.hm_verdicts.proofs.Settled.{first_more, first_weaker}
use Rattle.hm_verdicts.proofs.over.settle.Goals as goal

pub loop-over-preserved : goal.loop-over-preserved
loop-over-preserved c =
    let cs = c.args.calls.now in
    let o = c.loop-over.over in
    let p = c.with-over.result in
    let d = c.index-calls-over-in-loop-over.result in
    let more : o.count + 1 ≡ suc o.count = omega arith in
    let below : o.count < length cs = omega (arith, c.loop-over-test.true) in
    subst (λ n. First (IsOver p) n cs) (sym (c.with-over.ensures.many ∙ more))
    (first_more (IsOver p) o.count cs d
    (first_weaker (IsOver o) (IsOver p) c.with-over.ensures.others o.count cs c.loop-over.invariant)
    below (subst (IsOver p) c.index-calls-over-in-loop-over.is c.with-over.ensures.one))
