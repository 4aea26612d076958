use Rattle.std.proofs.Common.{◌≡◌, true, false, ◌||◌, sym, ap, ◌∙◌, rules}
use Rattle.notifier_seq.specs.Sequences.{Sequences, is_present, in_tree_state, deferred_state, interval_passes}
use Rattle.notifier_seq.proofs.Unsubscribed.{no_interval_at}
use Rattle.notifier_seq.proofs.Notifiers.remove.Goals as goal

pub unreachable-requires : goal.unreachable-requires
unreachable-requires c =
    let none = no_interval_at c.args.self.now c.self.inside.subscriptions c.args.id (ap (λ (s : Sequences). s.intervals) c.self.view_is) c.in_default.is in
    let absent : is_present c.args.self.now c.args.id ≡ false = ap (interval_passes (λ x. in_tree_state x.stage || deferred_state x.stage)) none in
    let present : is_present c.args.self.now c.args.id ≡ true = search (rules, c.requires.present) in
    let b : true ≡ false = sym present ∙ absent in
    cc
