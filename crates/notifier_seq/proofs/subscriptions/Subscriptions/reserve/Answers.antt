use Rattle.std.proofs.Common.{◌≡◌, cond, refl, arith}
use Rattle.notifier_seq.proofs.Changed.{kept_reserved}
use Rattle.notifier_seq.proofs.subscriptions.Subscriptions.reserve.Goals as goal
use Rattle.notifier_seq.proofs.subscriptions.Subscriptions.reserve.Goals.{then-self, else-self}

pub invariant_of-self-2 : goal.invariant_of-self-2
invariant_of-self-2 c =
    let wanted : cond c.self.inside.deferred 33 1 ≡ c.if-self.wanted = elim c.if-self.branch [ then-self w ↦ rw (w.if-self.true, w.wanted-is) refl | else-self w ↦ rw (w.if-self.false, w.wanted-is) refl ] in
    rw c.reserve.ensures.spans (kept_reserved c.self.inside.intervals c.self.inside.tree.spans c.self.inside.tree.spare c.reserve.new.self.spare c.self.inside.deferred c.self.inside.room c.self.invariant (omega (arith, wanted, c.in_ok-reserve.ensures.room)))
