use Rattle.std.proofs.Common.{◌≡◌, ◌<◌, true, None, ap, ◌∙◌, arith}
use Rattle.std.specs.Prelude.{slice_index_or}
use Rattle.notifier_seq.specs.Kept.{Listed, listed_at}
use Rattle.notifier_seq.proofs.Changed.{kept_deferred}
use Rattle.notifier_seq.proofs.subscriptions.Subscriptions.defer_insert.Goals as goal

pub invariant_of-self : goal.invariant_of-self
invariant_of-self c =
    let below : c.args.id < 32 = omega (arith, c.number-at.ensures.same, c.number-at.ensures.below) in
    let none : slice_index_or c.self.inside.intervals c.args.id None ≡ None = ap (λ (x : Listed). listed_at x c.args.id) c.self.view_is ∙ c.requires.absent in
    let room : c.self.inside.room ≡ true = ap (λ (x : Listed). x.room) c.self.view_is ∙ c.requires.room in
    rw c.number-at.ensures.same (kept_deferred c.self.inside.intervals c.self.inside.tree.spans c.self.inside.tree.spare c.self.inside.deferred c.self.inside.room c.args.id c.args.window c.args.seq c.self.invariant room below none)
