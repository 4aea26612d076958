-- Entries that have no memory of their own.
use Rattle.std.specs.Prelude.{Bool, true, false}
use Rattle.hm_history.specs.declared.Kind.{Kind}

-- the entry tells no bytes, and is no access that failed
abbrev pub is_plain : Kind → Bool
is_plain (Kind.Loaded x a bs) = false
is_plain (Kind.Stored x a bs) = false
is_plain (Kind.Failed x a n c) = false
is_plain (Kind.Fetched m a bs) = false
is_plain _ = true

-- the entry is a step within an operation that tells no bytes
abbrev pub is_plain_step : Kind → Bool
is_plain_step (Kind.Mapped p r w) = false
is_plain_step (Kind.Unmapped p r) = false
is_plain_step (Kind.Protected p r w) = false
is_plain_step (Kind.Forked p c) = false
is_plain_step (Kind.Exited p) = false
is_plain_step (Kind.Attached m d p r q) = false
is_plain_step (Kind.Detached m) = false
is_plain_step (Kind.Refused why) = false
is_plain_step (Kind.Migrated n) = false
is_plain_step (Kind.Seen m v c) = false
is_plain_step (Kind.Evicted n) = false
is_plain_step (Kind.Removed d) = false
is_plain_step (Kind.Excluded m v) = false
is_plain_step (Kind.Added m a was now) = false
is_plain_step k = is_plain k
