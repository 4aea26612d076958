use Rattle.std.proofs.Common.{◌<◌, ap, arith}
use Rattle.interval_tree.specs.Intervals.{Intervals}
use Rattle.notifier_seq.proofs.Changed.{read_at, kept_removed}
use Rattle.notifier_seq.proofs.subscriptions.Subscriptions.remove.Goals as goal

pub invariant_of-self : goal.invariant_of-self
invariant_of-self c =
    let below : c.args.id < 32 = omega (arith, c.number-at.ensures.same, c.number-at.ensures.below) in
    let here = read_at c.self.inside.intervals c.args.id c.number-at.result c.index-self-at.result c.self.invariant.len c.number-at.ensures.same below in
    let spans = ap (λ (t : Intervals). t.spans) c.remove.ensures in
    let spare = ap (λ (t : Intervals). t.spare) c.remove.ensures in
    rw (c.with_stage.ensures, here, c.number-at.ensures.same, spans, spare) (kept_removed c.self.inside.intervals c.self.inside.tree.spans c.self.inside.tree.spare c.self.inside.deferred c.self.inside.room c.args.id c.self.invariant below)
