use Rattle.std.proofs.Common.{◌≡◌, ◌+◌, subst, arith, suc}
use Rattle.hm_verdicts.specs.Numbers.{positions_in}
use Rattle.hm_verdicts.specs.Settled.{First, IsBelow}
use Rattle.hm_verdicts.proofs.Settled.{first_more, first_weaker}
use Rattle.hm_verdicts.proofs.over.learn.Goals as goal

pub loop-count-preserved : goal.loop-count-preserved
loop-count-preserved c =
    let cs = c.args.calls.now in
    let n = c.loop-count.count in
    let f = positions_in c.loop-count.highest in
    let g = positions_in c.learn_one.new.highest in
    let d = c.index-calls-count-in-loop-count.result in
    let more : suc n ≡ n + 1 = omega arith in
    subst (λ k. First (IsBelow g) k cs) more
    (first_more (IsBelow g) n cs d
    (first_weaker (IsBelow f) (IsBelow g) c.in_ok-learn_one.ensures.kept n cs c.loop-count.invariant)
    c.loop-count-test.true (subst (IsBelow g) c.index-calls-count-in-loop-count.is c.in_ok-learn_one.ensures.one))
