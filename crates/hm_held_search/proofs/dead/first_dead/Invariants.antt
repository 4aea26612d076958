use Rattle.std.proofs.Common.{◌≡◌, ℕ, ◌<◌, false, get_or}
use Rattle.hm_holds.specs.Held.{HeldPoint, is_dead}
use Rattle.hm_search.specs.Values.{key_forms}
use Rattle.hm_held_search.specs.Keys.{held_form}
use Rattle.hm_held_search.proofs.dead.first_dead.Given as goal

-- none of the states so far is a dead end
abbrev pub invariant-loop-at : goal.invariant-loop-at
invariant-loop-at l = (i : ℕ) → i < l.at → (x : HeldPoint) → is_dead l.fn.race.flaw l.fn.race.script (get_or (key_forms held_form l.known) i x) ≡ false
