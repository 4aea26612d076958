use Rattle.std.proofs.Common.{ℕ, List, take, subst}
use Rattle.std.specs.List.{flat_map}
use Rattle.hm_judge.specs.Nearest.{IsNearestSo, due_line}
use Rattle.hm_judge.proofs.Near.{due_more}
use Rattle.hm_judge.proofs.nearest.nearest_due.Goals as goal

pub loop-progress-preserved : goal.loop-progress-preserved
loop-progress-preserved c =
    let i = c.loop-progress.progress-index in
    let ps = c.args.standing.now in
    subst (λ (ks : List (List ℕ)). IsNearestSo c.args.line.now ks c.in_ok-best.best) (due_more c.args.at i ps c.progress-item.result c.loop-progress-test.true c.progress-item.is)
    (c.in_ok-best.ensures (flat_map (due_line c.args.at) (take i ps)) c.loop-progress.invariant)
