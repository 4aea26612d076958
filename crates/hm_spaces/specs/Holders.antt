-- Who has a process's mmap lock, by the list of locks.
use Rattle.std.specs.Prelude.{ℕ, Bool, not, ◌&&◌, ◌==◌, Option, None, List, slice_index_or}
use Rattle.hm_history.specs.Memory.Locks.{lock_passes}
use Rattle.hm_history.specs.declared.locks.MapLock.{MapLock}

-- the actor has the process's lock for writing
abbrev pub is_writer : List (Option MapLock) → ℕ → ℕ → Bool
is_writer xs p a = lock_passes (λ x. (x.proc == p) && x.writes) (slice_index_or xs a None)

-- an actor other than b has the process's lock
abbrev pub is_other : List (Option MapLock) → ℕ → ℕ → ℕ → Bool
is_other xs p b a = not (a == b) && lock_passes (λ x. x.proc == p) (slice_index_or xs a None)
