use Rattle.std.proofs.Common.{◌≡◌, map, take}
use Rattle.hm_held_search.specs.Events.{event_of}
use Rattle.hm_held_search.proofs.race_holds.events_of.Given as goal

-- those of the entries so far
abbrev pub invariant-loop-entry : goal.invariant-loop-entry
invariant-loop-entry l = l.events.items ≡ map event_of (take l.entry-index l.entries)
