use Rattle.std.proofs.Common.{◌<◌, arith}
use Rattle.notifier_seq.proofs.Changed.{read_at, kept_told}
use Rattle.notifier_seq.proofs.subscriptions.Subscriptions.set_seq.Goals as goal

pub invariant_of-self : goal.invariant_of-self
invariant_of-self c =
    let below : c.args.id < 32 = omega (arith, c.number-at.ensures.same, c.number-at.ensures.below) in
    let here = read_at c.self.inside.intervals c.args.id c.number-at.result c.index-self-at.result c.self.invariant.len c.number-at.ensures.same below in
    rw (c.with_seq.ensures, here, c.number-at.ensures.same) (kept_told c.self.inside.intervals c.self.inside.tree.spans c.self.inside.tree.spare c.self.inside.deferred c.self.inside.room c.args.id c.args.seq c.self.invariant below)
