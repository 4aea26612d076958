use Rattle.std.proofs.Common.{ap}
use Rattle.interval_tree.proofs.Ends.{end_at_first}
use Rattle.interval_tree.proofs.Index.{no_index}
use Rattle.interval_tree.proofs.IntervalTree.new.Goals as goal

pub invariant_of-result : goal.invariant_of-result
invariant_of-result c = (rw (ap (λ s. s.items) c.new.ensures) no_index, end_at_first 32 0)
