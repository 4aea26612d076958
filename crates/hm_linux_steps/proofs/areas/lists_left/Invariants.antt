use Rattle.std.proofs.Common.{◌≡◌, map}
use Rattle.hm_history.specs.Memory.Words.{numbers}
use Rattle.hm_linux.specs.UnmapLetsIn.{areas_left}
use Rattle.hm_linux_steps.proofs.areas.lists_left.Given as goal

abbrev pub invariant-loop-at : goal.invariant-loop-at
invariant-loop-at g l = map (λ v. v.items) l.lists.items ≡ map (areas_left (g.W.Reads.program l.world) (g.W.Reads.state l.world)) (numbers 0 l.at)
