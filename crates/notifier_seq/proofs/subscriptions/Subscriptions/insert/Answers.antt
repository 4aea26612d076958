use Rattle.std.proofs.Common.{◌≡◌, ◌<◌, true, None, ap, ◌∙◌, arith}
use Rattle.std.specs.Prelude.{slice_index_or}
use Rattle.interval_tree.specs.Intervals.{Intervals}
use Rattle.notifier_seq.specs.Kept.{Listed, listed_at}
use Rattle.notifier_seq.proofs.Changed.{kept_inserted}
use Rattle.notifier_seq.proofs.subscriptions.Subscriptions.insert.Goals as goal

pub invariant_of-self : goal.invariant_of-self
invariant_of-self c =
    let below : c.args.id < 32 = omega (arith, c.number-at.ensures.same, c.number-at.ensures.below) in
    let none : slice_index_or c.self.inside.intervals c.args.id None ≡ None = ap (λ (x : Listed). listed_at x c.args.id) c.self.view_is ∙ c.requires.absent in
    let room : c.self.inside.room ≡ true = ap (λ (x : Listed). x.room) c.self.view_is ∙ c.requires.room in
    let spans = ap (λ (t : Intervals). t.spans) c.insert_reserved.ensures in
    let spare = ap (λ (t : Intervals). t.spare) c.insert_reserved.ensures in
    rw (c.number-at.ensures.same, spans, spare) (kept_inserted c.self.inside.intervals c.self.inside.tree.spans c.self.inside.tree.spare c.self.inside.deferred c.self.inside.room c.args.id c.args.window c.args.seq c.self.invariant room below none)
