use Rattle.std.proofs.Common.{◌≡◌, ◌++◌, map, take}
use Rattle.hm_projection.specs.Told.{traced}
use Rattle.hm_projection.proofs.entries.add_traced.Given as goal

abbrev pub invariant-loop-at : goal.invariant-loop-at
invariant-loop-at l = record {
  told : l.events.items ≡ l.fn.events.items ++ map (traced l.fn.actor) (take l.at l.told);
  thread : l.thread ≡ l.fn.actor;
}
