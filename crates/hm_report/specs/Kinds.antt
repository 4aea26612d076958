-- Which entries end an operation, or a piece of one.
use Rattle.std.specs.Prelude.{◌≡◌, Bool, true, false}
use Rattle.hm_base.specs.declared.cause.Cause.{Cause}
use Rattle.hm_base.specs.declared.ops.Op.{Op}
use Rattle.hm_history.specs.declared.Kind.{Kind}

-- the answer to a piece of an access
abbrev pub is_answer : Kind → Bool
is_answer (Kind.Loaded x a bs) = true
is_answer (Kind.Stored x a bs) = true
is_answer (Kind.Failed x a n c) = true
is_answer _ = false

-- a snapshot has no answer of its own: the entry that gives the mmap lock back ends it
abbrev pub is_snap : Op → Bool
is_snap (Op.Snap m r) = true
is_snap _ = false

-- the entry that ends the operation; no run has a refusal with the cause `Never`
abbrev pub finishes : Op → Kind → Bool
finishes o (Kind.Mapped p r w) = true
finishes o (Kind.Unmapped p r) = true
finishes o (Kind.Protected p r w) = true
finishes o (Kind.Forked p c) = true
finishes o (Kind.Exited p) = true
finishes o (Kind.Attached m d p r q) = true
finishes o (Kind.Detached m) = true
finishes o (Kind.Migrated n) = true
finishes o (Kind.Evicted n) = true
finishes o (Kind.Removed d) = true
finishes o (Kind.Excluded m v) = true
finishes o (Kind.Added m a was now) = true
finishes o (Kind.Refused Cause.Never) = false
finishes o (Kind.Refused why) = true
finishes o (Kind.Runlock p) = is_snap o
finishes o _ = false

-- the entry answers no piece of an operation, and ends none
abbrev pub TellsNothing : Kind → Type 0
TellsNothing k = (is_answer k ≡ false) × ((o : Op) → finishes o k ≡ false)

-- a step within an operation, which is told to nobody: what is left beside the answers
abbrev pub is_step : Kind → Bool
is_step (Kind.Loaded x a bs) = false
is_step (Kind.Stored x a bs) = false
is_step (Kind.Failed x a n c) = false
is_step (Kind.Mapped p r w) = false
is_step (Kind.Unmapped p r) = false
is_step (Kind.Protected p r w) = false
is_step (Kind.Forked p c) = false
is_step (Kind.Exited p) = false
is_step (Kind.Attached m d p r q) = false
is_step (Kind.Detached m) = false
is_step (Kind.Refused why) = false
is_step (Kind.Migrated n) = false
is_step (Kind.Seen m v c) = false
is_step (Kind.Evicted n) = false
is_step (Kind.Removed d) = false
is_step (Kind.Excluded m v) = false
is_step (Kind.Added m a was now) = false
is_step _ = true
