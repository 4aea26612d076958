use Rattle.hm_script.specs.Generator.{drawn_actor}
use Rattle.hm_script.proofs.Drawing.{Going}
use Rattle.hm_script.proofs.generator.Draws.add_actors.Given as goal

abbrev pub invariant-loop : goal.invariant-loop
invariant-loop l = Going drawn_actor l.fn.actors l.actors l.fn.self.state l.self.state l.count l.counter
