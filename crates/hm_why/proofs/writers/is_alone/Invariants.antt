use Rattle.std.proofs.Common.{◌≡◌, ℕ, ◌<◌, Some}
use Rattle.std.specs.Prelude.{slice_get}
use Rattle.hm_why.proofs.writers.is_alone.Given as goal

-- none of those before has its changes there but the one that is asked for
abbrev pub invariant-loop-other : goal.invariant-loop-other
invariant-loop-other l = (q : ℕ) → q < l.other → slice_get l.slots q ≡ Some l.place → q ≡ l.index
