use Rattle.std.proofs.Common.{sym, ap}
use Rattle.notifier_seq.specs.Sequences.{Sequences}
use Rattle.notifier_seq.proofs.Unsubscribed.{no_interval_at}
use Rattle.notifier_seq.proofs.Notifiers.interval.Goals as goal

pub returns-in-None : goal.returns-in-None
returns-in-None c = sym (no_interval_at c.args.self.now c.self.inside.subscriptions c.args.id (ap (λ (s : Sequences). s.intervals) c.self.view_is) c.in-None.is)
