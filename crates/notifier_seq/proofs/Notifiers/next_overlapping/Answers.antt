use Rattle.std.proofs.Common.{sym, ap}
use Rattle.notifier_seq.specs.Sequences.{Sequences}
use Rattle.notifier_seq.proofs.Unsubscribed.{nobody_told}
use Rattle.notifier_seq.proofs.Notifiers.next_overlapping.Goals as goal

pub returns-in-None : goal.returns-in-None
returns-in-None c = sym (nobody_told c.args.self.now c.self.inside.subscriptions c.args.span c.args.after (ap (λ (s : Sequences). s.intervals) c.self.view_is) c.in-None.is)
