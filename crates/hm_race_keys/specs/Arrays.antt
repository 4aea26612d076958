-- What arrays by device and by actor stand for.
use Rattle.std.specs.Prelude.{ℕ, ◌+◌, Bool, false, if◌then◌else◌, Option, Some, None, List, [], ◌∷◌, slice_index_or}
use Rattle.hm_history.specs.declared.locks.MapLock.{MapLock}
use Rattle.hm_race_keys.specs.Sparse.{mixed}

-- the flag of a device
abbrev pub flag_in : List Bool → ℕ → Bool
flag_in xs d = slice_index_or xs d false

-- a sum with flags mixed in
abbrev pub mixed_flags : ℕ → List Bool → ℕ
mixed_flags sum [] = sum
mixed_flags sum (x ∷ xs) = mixed_flags (mixed sum (if x then 1 else 0)) xs

-- the mmap lock of an actor
abbrev pub lock_in : List (Option MapLock) → ℕ → Option MapLock
lock_in xs a = slice_index_or xs a None

-- a sum with one lock mixed in
abbrev pub mixed_lock : ℕ → Option MapLock → ℕ
mixed_lock sum None = mixed sum 0
mixed_lock sum (Some x) = mixed (mixed sum (x.proc + 1)) (if x.writes then 1 else 0)

-- a sum with locks mixed in
abbrev pub mixed_locks : ℕ → List (Option MapLock) → ℕ
mixed_locks sum [] = sum
mixed_locks sum (x ∷ xs) = mixed_locks (mixed_lock sum x) xs
