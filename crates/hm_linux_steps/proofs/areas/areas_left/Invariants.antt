use Rattle.std.proofs.Common.{◌≡◌}
use Rattle.hm_linux_steps.specs.Left.{left_so_far}
use Rattle.hm_linux_steps.proofs.areas.areas_left.Given as goal

abbrev pub invariant-loop-at : goal.invariant-loop-at
invariant-loop-at g l = l.left.items ≡ left_so_far (g.W.Reads.program l.world) (g.W.Reads.state l.world) l.proc l.at
