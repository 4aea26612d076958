use Rattle.std.proofs.Common.{ap, ◌∙◌}
use Rattle.notifier_seq.specs.Sequences.{Sequences, interval_at}
use Rattle.notifier_seq.proofs.Overlapping.{no_interval}
use Rattle.leaf_tests.proofs.sequences.insert.Goals as goal

pub insert-requires-clause-absent : goal.insert-requires-clause-absent
insert-requires-clause-absent c = ap (λ (s : Sequences). interval_at s c.args.id) c.in-Ok.ensures.ok ∙ no_interval _ c.in-None.ensures
