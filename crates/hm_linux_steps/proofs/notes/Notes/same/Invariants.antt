use Rattle.std.proofs.Common.{ℕ, ◌<◌}
use Rattle.hm_linux_steps.specs.Notes.{noted_in, SameAt}
use Rattle.hm_linux_steps.proofs.notes.Notes.same.Given as goal

abbrev pub invariant-loop-at : goal.invariant-loop-at
invariant-loop-at l = (k : ℕ) → k < l.at → SameAt (noted_in l.self) (noted_in l.other) k
