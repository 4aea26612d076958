use Rattle.std.proofs.Common.{◌≢◌, ℕ, ◌<◌, Some}
use Rattle.std.specs.Prelude.{slice_get}
use Rattle.hm_why.proofs.writers.has_user.Given as goal

-- none of those before has its changes there
abbrev pub invariant-loop-slot : goal.invariant-loop-slot
invariant-loop-slot l = (q : ℕ) → q < l.slot-index → slice_get l.slots q ≢ Some l.place
