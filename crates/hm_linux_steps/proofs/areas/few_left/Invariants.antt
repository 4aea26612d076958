use Rattle.std.proofs.Common.{◌≡◌, ◌≤◌, length, take}
use Rattle.vm_areas.specs.Cuts.{cut}
use Rattle.hm_linux_steps.proofs.areas.few_left.Given as goal

abbrev pub invariant-loop-area : goal.invariant-loop-area
invariant-loop-area l = record {
  count : l.count ≡ length (cut l.span l.inside (take l.area-index l.areas));
  few : l.count ≤ 64;
}
