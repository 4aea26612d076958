use Rattle.std.proofs.Common.{◌≡◌, ◌<◌, None, ap, ◌∙◌, arith}
use Rattle.std.specs.Prelude.{slice_index_or}
use Rattle.notifier_seq.specs.Kept.{Listed, listed_at, tree_window}
use Rattle.notifier_seq.proofs.Changed.{read_at, kept_cancelled}
use Rattle.notifier_seq.proofs.subscriptions.Subscriptions.cancel.Goals as goal

pub invariant_of-self : goal.invariant_of-self
invariant_of-self c =
    let below : c.args.id < 32 = omega (arith, c.number-at.ensures.same, c.number-at.ensures.below) in
    let here = read_at c.self.inside.intervals c.args.id c.number-at.result c.index-self-at.result c.self.invariant.len c.number-at.ensures.same below in
    let out : tree_window (slice_index_or c.self.inside.intervals c.args.id None) ≡ None = ap (λ (x : Listed). tree_window (listed_at x c.args.id)) c.self.view_is ∙ c.requires in
    rw (c.with_stage.ensures, here, c.number-at.ensures.same) (kept_cancelled c.self.inside.intervals c.self.inside.tree.spans c.self.inside.tree.spare c.self.inside.deferred c.self.inside.room c.args.id c.self.invariant below out)
