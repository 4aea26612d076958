use Rattle.hm_script.specs.Generator.{drawn_line}
use Rattle.hm_script.proofs.Drawing.{Going}
use Rattle.hm_script.proofs.generator.Draws.add_lines.Given as goal

abbrev pub invariant-loop : goal.invariant-loop
invariant-loop l = Going drawn_line l.fn.schedule l.schedule l.fn.self.state l.self.state l.count l.counter
