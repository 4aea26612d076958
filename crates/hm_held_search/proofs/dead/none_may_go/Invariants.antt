use Rattle.std.proofs.Common.{◌≡◌, ℕ, ◌<◌, false}
use Rattle.hm_holds.specs.Held.{held_go}
use Rattle.hm_held_search.specs.Keys.{held_form}
use Rattle.hm_held_search.proofs.dead.none_may_go.Given as goal

-- none of the actors so far may go on
abbrev pub invariant-loop-number : goal.invariant-loop-number
invariant-loop-number l = (a : ℕ) → a < l.number → held_go l.race.flaw l.race.script (held_form l.key) a ≡ false
