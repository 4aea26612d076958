use Rattle.std.proofs.Common.{◌≤◌, sym, subst, arith}
use Rattle.hm_history.specs.Memory.Words.{with_at}
use Rattle.hm_verdicts.specs.Numbers.{positions_in}
use Rattle.hm_verdicts.specs.Settled.{IsBelow}
use Rattle.hm_verdicts.proofs.Lasting.{below_more, below_one}
use Rattle.hm_verdicts.proofs.over.learn_one.Goals as goal

pub returns-clause-kept : goal.returns-clause-kept
returns-clause-kept c x s =
    let f = positions_in c.args.highest.now in
    let m = c.mirror-mirror.result in
    let q = c.higher-seq.result in
    let l : f m ≤ q = omega (arith, c.at.ensures, c.higher-seq.ensures.first) in
    subst (λ g. IsBelow g x) (sym c.in_ok-set.ensures) (below_more f m q x l s)

pub returns-clause-one : goal.returns-clause-one
returns-clause-one c =
    let f = positions_in c.args.highest.now in
    let x = c.args.call.now in
    let q = c.higher-seq.result in
    let l : x.seq ≤ q = omega (arith, c.seq.ensures, c.higher-seq.ensures.second) in
    subst (λ g. IsBelow g x) (sym c.in_ok-set.ensures)
    (subst (λ m. IsBelow (with_at f m q) x) (sym c.mirror-mirror.ensures) (below_one f q x c.requires l))
