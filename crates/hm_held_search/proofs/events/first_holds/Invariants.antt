use Rattle.std.proofs.Common.{◌≡◌, ◌++◌, length}
use Rattle.hm_held_search.specs.Events.{changes, endings}
use Rattle.hm_held_search.proofs.events.first_holds.Given as goal

-- those of the actors so far
abbrev pub invariant-loop-number : goal.invariant-loop-number
invariant-loop-number l = l.holds.items ≡ changes l.events (length l.events) ++ endings l.events l.number
