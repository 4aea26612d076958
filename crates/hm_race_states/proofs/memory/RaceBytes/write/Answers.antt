use Rattle.std.proofs.Common.{arith}
use Rattle.std.proofs.lemmas.Bool.Decides.{nat_tests}
use Rattle.std.proofs.Math.Path.{fun_ext}
use Rattle.hm_race_states.proofs.memory.RaceBytes.write.Goals as goal

pub returns : goal.returns
returns c = fun_ext (λ p. fun_ext (λ a. grind (arith, nat_tests, c.loop-number.invariant p a)))
