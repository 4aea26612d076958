use Rattle.hm_script.specs.Generator.{drawn_op}
use Rattle.hm_script.proofs.Drawing.{Going}
use Rattle.hm_script.proofs.generator.Draws.add_ops.Given as goal

abbrev pub invariant-loop : goal.invariant-loop
invariant-loop l = Going drawn_op l.fn.ops l.ops l.fn.self.state l.self.state l.count l.counter
