use Rattle.std.proofs.Common.{◌≡◌, ◌++◌, take, drop}
use Rattle.hm_history.specs.Kernel.Going.{with_record}
use Rattle.hm_actors.proofs.places.put_all.Given as goal

abbrev pub invariant-loop-at : goal.invariant-loop-at
invariant-loop-at l = l.records ≡ with_record l.migrating (take l.at l.initial.records) ++ drop l.at l.initial.records
