-- What is kept of look-ups, by mirror.
use Rattle.std.specs.Prelude.{ℕ, Bool, Option, None, Some, List, slice_get, slice_index_or}
use Rattle.hm_why.specs.Changes.{entry_for}
use Rattle.hm_why.specs.declared.changes.Changes.{Changes}
use Rattle.hm_parts.specs.Sets.{set_at}
use Rattle.hm_parts.specs.declared.pasts.Begun.{Begun}
use Rattle.hm_parts.specs.declared.sets.Sets.{Sets}

-- where an actor that may be none last began a look-up of a mirror
abbrev pub begun_at : ℕ → Option Begun → Option ℕ
begun_at m None = None
begun_at m (Some x) = slice_index_or x.positions m None

-- by actor and mirror, where the actor last began a look-up
abbrev pub begun_in : List Begun → ℕ → ℕ → Option ℕ
begun_in xs a m = begun_at m (slice_get xs a)

-- the entry that last told a page of a mirror that may be none
abbrev pub told_at : ℕ → Option Changes → Option ℕ
told_at v None = None
told_at v (Some x) = entry_for x v

-- by mirror and page, the entry that last told it
abbrev pub told_in : List Changes → ℕ → ℕ → Option ℕ
told_in xs m v = told_at v (slice_get xs m)

-- what is kept of the last `set` of a page of a mirror that may be none
abbrev pub last_at : ℕ → Option Sets → Option (Bool × ℕ)
last_at v None = None
last_at v (Some x) = set_at x v

-- by mirror and page, what is kept of the last `set`
abbrev pub set_in : List Sets → ℕ → ℕ → Option (Bool × ℕ)
set_in xs m v = last_at v (slice_get xs m)
