use Rattle.std.proofs.Common.{is_some, ap, ◌∙◌}
use Rattle.notifier_seq.specs.Sequences as one
use Rattle.notifier_seq.proofs.Overlapping.{some_found}
use Rattle.hm_notifiers.specs.NotifiersValue.{of_proc}
use Rattle.hm_notifiers.proofs.AllNotifiers.some_overlap.Goals as goal

pub returns : goal.returns
returns c = c.is_some.ensures ∙ ap (λ o. is_some o) c.next_told.ensures ∙ some_found (one.overlapping (of_proc c.args.self.now c.args.proc) c.args.span)
