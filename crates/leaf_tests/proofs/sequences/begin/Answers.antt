use Rattle.notifier_seq.proofs.Overlapping.{some_interval}
use Rattle.leaf_tests.proofs.sequences.begin.Goals as goal

pub read_begin-requires : goal.read_begin-requires
read_begin-requires c = some_interval _ _ c.in-Some.ensures
