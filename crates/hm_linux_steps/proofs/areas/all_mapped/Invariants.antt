use Rattle.std.proofs.Common.{◌≡◌, ◌^◌, ◌≤◌, take}
use Rattle.std.specs.Prelude.{sum_by}
use Rattle.vm_areas.specs.Cuts.{shared}
use Rattle.hm_linux_steps.proofs.areas.all_mapped.Given as goal

abbrev pub invariant-loop-area : goal.invariant-loop-area
invariant-loop-area l = record {
  pages : l.pages ≡ sum_by (shared l.span) (take l.area-index l.areas);
  few : l.pages ≤ 2 ^ 36;
}
