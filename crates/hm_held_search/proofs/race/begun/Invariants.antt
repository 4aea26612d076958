use Rattle.std.proofs.Common.{◌≡◌, map, take}
use Rattle.hm_holds.specs.Holds.{hold_start}
use Rattle.hm_held_search.proofs.race.begun.Given as goal

abbrev pub invariant-loop-hold : goal.invariant-loop-hold
invariant-loop-hold l = l.states.items ≡ map hold_start (take l.hold-index l.holds)
