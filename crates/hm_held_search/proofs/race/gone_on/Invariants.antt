use Rattle.std.proofs.Common.{◌≡◌, map, take}
use Rattle.hm_holds.specs.Holds.{hold_next}
use Rattle.hm_held_search.proofs.race.gone_on.Given as goal

abbrev pub invariant-loop-hold : goal.invariant-loop-hold
invariant-loop-hold l = l.states.items ≡ map (λ s. hold_next s l.entry) (take l.hold-index l.holds)
