use Rattle.std.proofs.Common.{◌≡◌, ◌≤◌, take}
use Rattle.hm_held_search.specs.Events.{times}
use Rattle.hm_held_search.proofs.events.nth_of.Given as goal

-- so many of those so far are so
abbrev pub invariant-loop-other : goal.invariant-loop-other
invariant-loop-other l = (l.number ≡ times l.event (take l.other-index l.events)) × (l.number ≤ l.other-index)
