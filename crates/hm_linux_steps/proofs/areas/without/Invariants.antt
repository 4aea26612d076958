use Rattle.std.proofs.Common.{◌≡◌, take}
use Rattle.hm_base.specs.Areas.{without}
use Rattle.hm_linux_steps.proofs.areas.without.Given as goal

abbrev pub invariant-loop-area : goal.invariant-loop-area
invariant-loop-area l = l.left.items ≡ without l.span (take l.area-index l.areas)
