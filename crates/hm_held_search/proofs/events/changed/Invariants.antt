use Rattle.std.proofs.Common.{◌≡◌}
use Rattle.hm_held_search.specs.Events.{changes}
use Rattle.hm_held_search.proofs.events.changed.Given as goal

-- those before the entries so far
abbrev pub invariant-loop-at : goal.invariant-loop-at
invariant-loop-at l = l.holds.items ≡ changes l.events l.at
