use Rattle.std.proofs.Common.{ap}
use Rattle.notifier_seq.specs.Sequences.{Sequences, interval_at}
use Rattle.notifier_seq.proofs.Unsubscribed.{no_interval_at, no_interval_told}
use Rattle.notifier_seq.proofs.Notifiers.set_seq.Goals as goal

pub unreachable-requires : goal.unreachable-requires
unreachable-requires c =
    let none = no_interval_at c.args.self.now c.self.inside.subscriptions c.args.id (ap (λ (s : Sequences). s.intervals) c.self.view_is) c.in_default.is in
    no_interval_told (interval_at c.args.self.now c.args.id) c.requires none
