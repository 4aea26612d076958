use Rattle.std.proofs.Common.{◌≡◌}
use Rattle.std.specs.Prelude.{map}
use Rattle.hm_history.specs.Kernel.Due.{due}
use Rattle.hm_history.specs.Memory.Words.{numbers}
use Rattle.hm_judge.proofs.standing.standings.Given as goal

-- what is due to the actors so far
abbrev pub invariant-loop-actor : goal.invariant-loop-actor
invariant-loop-actor l = l.standing.items ≡ map (due l.world.script l.world.history) (numbers 0 l.actor)
