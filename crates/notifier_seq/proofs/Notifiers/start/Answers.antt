use Rattle.std.proofs.Common.{◌≡◌, is_some, refl, ap, ◌∙◌}
use Rattle.notifier_seq.specs.Sequences.{Sequences, overlapping, some_overlap, seq_started}
use Rattle.notifier_seq.proofs.Overlapping.{some_found}
use Rattle.notifier_seq.proofs.Notifiers.start.Goals as goal

pub returns-clause-result : goal.returns-clause-result
returns-clause-result c =
    let met : c.is_some-overlapped.result ≡ some_overlap c.args.self.now c.args.span = c.is_some-overlapped.ensures ∙ ap (λ o. is_some o) c.next_overlapping.ensures ∙ some_found (overlapping c.args.self.now c.args.span) in
    let was = ap (λ (s : Sequences). s.seq) c.self.view_is in
    let seq : c.seq_after_start-self-inside.result ≡ seq_started c.args.self.now c.args.span = c.seq_after_start-self-inside.ensures ∙ rw (met, was) refl in
    rw (seq, met) refl

pub returns-clause-state : goal.returns-clause-state
returns-clause-state c =
    let met : c.is_some-overlapped.result ≡ some_overlap c.args.self.now c.args.span = c.is_some-overlapped.ensures ∙ ap (λ o. is_some o) c.next_overlapping.ensures ∙ some_found (overlapping c.args.self.now c.args.span) in
    let was = ap (λ (s : Sequences). s.seq) c.self.view_is in
    let seq : c.seq_after_start-self-inside.result ≡ seq_started c.args.self.now c.args.span = c.seq_after_start-self-inside.ensures ∙ rw (met, was) refl in
    let active = ap (λ (s : Sequences). s.active) c.self.view_is in
    let intervals = ap (λ (s : Sequences). s.intervals) c.self.view_is in
    let room = ap (λ (s : Sequences). s.room) c.self.view_is in
    rw (seq, active, intervals, room) refl
