use Rattle.std.proofs.Common.{◌≡◌, take}
use Rattle.hm_held_search.specs.Events.{last_event}
use Rattle.hm_held_search.proofs.events.last_of.Given as goal

-- the last of those so far
abbrev pub invariant-loop-event : goal.invariant-loop-event
invariant-loop-event l = l.last ≡ last_event l.actor (take l.event-index l.events)
