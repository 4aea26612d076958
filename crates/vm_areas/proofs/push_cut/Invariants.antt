use Rattle.std.proofs.Common.{◌≡◌, ◌≤◌, take}
use Rattle.std.specs.Prelude.{vec_capacity}
use Rattle.vm_areas.specs.Cuts.{cut}
use Rattle.vm_areas.proofs.push_cut.Given as goal

abbrev pub invariant-loop-area : goal.invariant-loop-area
invariant-loop-area l = record {
  cut : l.into.items ≡ cut l.span l.inside (take l.area-index l.areas);
  room : vec_capacity l.initial.into ≤ vec_capacity l.into;
}
