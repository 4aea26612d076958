use Rattle.notifier_seq.proofs.Overlapping.{some_interval}
use Rattle.leaf_tests.proofs.sequences.tell.Goals as goal

pub set_seq-requires : goal.set_seq-requires
set_seq-requires c = some_interval _ _ c.in-Some.ensures
