use Rattle.std.proofs.Common.{◌≡◌, ◌<◌, None, sym, ap, ◌∙◌, arith}
use Rattle.std.specs.Prelude.{slice_index_or}
use Rattle.interval_tree.specs.Intervals.{Intervals}
use Rattle.notifier_seq.specs.declared.interval.Settling.TheVariants.{Insert, Remove}
use Rattle.notifier_seq.specs.Kept.{due}
use Rattle.notifier_seq.proofs.Changed.{read_at, settled_insert, settled_remove}
use Rattle.notifier_seq.proofs.subscriptions.Subscriptions.settle_one.Goals as goal

pub invariant_of-self : goal.invariant_of-self
invariant_of-self c =
    let below : c.args.id < 32 = omega (arith, c.number-at.ensures.same, c.number-at.ensures.below) in
    let here = read_at c.self.inside.intervals c.args.id c.number-at.result c.index-self-at.result c.self.invariant.len c.number-at.ensures.same below in
    let again = read_at c.self.inside.intervals c.args.id c.number-at.result c.index-self-at-in-Insert.result c.self.invariant.len c.number-at.ensures.same below in
    let is : due (slice_index_or c.self.inside.intervals c.args.id None) ≡ Insert c.in-Insert.window = ap due (sym here) ∙ sym c.settling_of.ensures ∙ c.in-Insert.is in
    let spans = ap (λ (t : Intervals). t.spans) c.insert_reserved.ensures in
    let spare = ap (λ (t : Intervals). t.spare) c.insert_reserved.ensures in
    rw (c.settled.ensures, again, c.number-at.ensures.same, spans, spare) (settled_insert c.self.inside.intervals c.self.inside.tree.spans c.self.inside.tree.spare c.self.inside.deferred c.self.inside.room c.args.id c.in-Insert.window c.self.invariant below is)

pub invariant_of-self-in-Remove : goal.invariant_of-self-in-Remove
invariant_of-self-in-Remove c =
    let below : c.args.id < 32 = omega (arith, c.number-at.ensures.same, c.number-at.ensures.below) in
    let here = read_at c.self.inside.intervals c.args.id c.number-at.result c.index-self-at.result c.self.invariant.len c.number-at.ensures.same below in
    let again = read_at c.self.inside.intervals c.args.id c.number-at.result c.index-self-at-in-Remove.result c.self.invariant.len c.number-at.ensures.same below in
    let is : due (slice_index_or c.self.inside.intervals c.args.id None) ≡ Remove = ap due (sym here) ∙ sym c.settling_of.ensures ∙ c.in-Remove.is in
    let spans = ap (λ (t : Intervals). t.spans) c.remove.ensures in
    let spare = ap (λ (t : Intervals). t.spare) c.remove.ensures in
    rw (c.settled-in-Remove.ensures, again, c.number-at.ensures.same, spans, spare) (settled_remove c.self.inside.intervals c.self.inside.tree.spans c.self.inside.tree.spare c.self.inside.deferred c.self.inside.room c.args.id c.self.invariant below is)
