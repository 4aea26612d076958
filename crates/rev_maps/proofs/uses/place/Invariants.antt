use Rattle.std.proofs.Common.{◌≡◌, ℕ, ◌<◌, false, get_or}
use Rattle.rev_maps.specs.declared.uses.Use.{Use}
use Rattle.rev_maps.specs.Uses.{precedes}
use Rattle.rev_maps.proofs.uses.place.Given as goal

abbrev pub invariant-loop-at : goal.invariant-loop-at
invariant-loop-at l = (k : ℕ) (d : Use) → k < l.at → precedes l.used (get_or l.uses k d) ≡ false
