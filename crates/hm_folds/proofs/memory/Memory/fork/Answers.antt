use Rattle.std.proofs.Common.{◌∙◌, arith}
use Rattle.hm_folds.proofs.Written.{process_set, read_byte}
use Rattle.hm_folds.proofs.memory.Memory.fork.Goals as goal

pub returns-clause-ok : goal.returns-clause-ok
returns-clause-ok c =
    let xs = c.args.self.now.processes.items in
    process_set xs c.number-2.result c.args.child c.in_ok-of_child.of_child _ c.number-2.ensures.same (omega arith)
    (λ a. c.in_ok-of_child.ensures a ∙ read_byte xs c.number.result c.args.parent c.index.result.now _ a c.index.ensures c.number.ensures.same (omega arith))
