-- Which kinds of entries are compared together.
use Rattle.std.specs.Prelude.{Bool, true, false}
use Rattle.hm_history.specs.declared.Kind.{Kind}

-- the entry is no load, and no store
abbrev pub is_no_load : Kind → Bool
is_no_load (Kind.Loaded x a bs) = false
is_no_load (Kind.Stored x a bs) = false
is_no_load k = true

-- nor is it another access
abbrev pub is_no_access : Kind → Bool
is_no_access (Kind.Failed x a n c) = false
is_no_access (Kind.Fetched m a bs) = false
is_no_access (Kind.Added m a was now) = false
is_no_access k = is_no_load k

-- nor does it end an operation, but for a snapshot
abbrev pub is_no_end : Kind → Bool
is_no_end (Kind.Mapped p r w) = false
is_no_end (Kind.Unmapped p r) = false
is_no_end (Kind.Protected p r w) = false
is_no_end (Kind.Forked p c) = false
is_no_end (Kind.Exited p) = false
is_no_end (Kind.Attached m d p r q) = false
is_no_end (Kind.Detached m) = false
is_no_end (Kind.Refused why) = false
is_no_end (Kind.Migrated n) = false
is_no_end (Kind.Evicted n) = false
is_no_end (Kind.Removed d) = false
is_no_end (Kind.Excluded m v) = false
is_no_end k = is_no_access k

-- the entry tells what becomes of a lock, a mirror, a process, a frame, a page or a device
abbrev pub is_change : Kind → Bool
is_change (Kind.Rlock p) = true
is_change (Kind.Runlock p) = true
is_change (Kind.Wlock p) = true
is_change (Kind.Detaching m q) = true
is_change (Kind.Named p c) = true
is_change (Kind.Take f) = true
is_change (Kind.Drop f) = true
is_change (Kind.Place p v x) = true
is_change (Kind.Fresh p v) = true
is_change (Kind.Copied f g k) = true
is_change (Kind.Committed f g) = true
is_change (Kind.Kept at why) = true
is_change (Kind.Done f) = true
is_change (Kind.Withdrawn d) = true
is_change k = false
