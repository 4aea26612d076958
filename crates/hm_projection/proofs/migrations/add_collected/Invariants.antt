use Rattle.std.proofs.Common.{◌≡◌, ◌++◌, map, take}
use Rattle.hm_protocol.specs.Projection.{collected}
use Rattle.hm_world.specs.WorldValue.{now}
use Rattle.hm_projection.proofs.migrations.add_collected.Given as goal

abbrev pub invariant-loop-at : goal.invariant-loop-at
invariant-loop-at l = l.told.items ≡ l.fn.told.items ++ map (collected (now l.world).after l.proc) (take l.at l.records)
