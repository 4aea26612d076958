use Rattle.std.proofs.Common.{[]}
use Rattle.hm_script.specs.Generator.{drawn_byte}
use Rattle.hm_script.proofs.Drawing.{Going}
use Rattle.hm_script.proofs.generator.Draws.bytes.Given as goal

abbrev pub invariant-loop : goal.invariant-loop
invariant-loop l = Going drawn_byte [] l.bytes l.fn.self.state l.self.state l.len l.counter
