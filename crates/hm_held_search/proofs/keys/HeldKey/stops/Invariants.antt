use Rattle.std.proofs.Common.{◌≡◌, false, take}
use Rattle.std.specs.List.{list_any}
use Rattle.hm_holds.specs.Holds.{stops_now}
use Rattle.hm_held_search.proofs.keys.HeldKey.stops.Given as goal

-- none of the holds so far stops the actor
abbrev pub invariant-loop-hold : goal.invariant-loop-hold
invariant-loop-hold l = list_any (λ s. stops_now s l.actor) (take l.hold-index l.self.holds.items) ≡ false
