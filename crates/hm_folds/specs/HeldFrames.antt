-- Which frames are held, of all pools.
use Rattle.std.specs.Prelude.{ℕ, Bool, false, Option, Some, None, List, slice_get}
use Rattle.hm_base.specs.declared.Frame.{Frame}
use Rattle.hm_base.specs.declared.PoolId.{PoolId}
use Rattle.hm_base.specs.PlaceWords.{pool_index}
use Rattle.hm_folds.specs.Numbers.{has_number}
use Rattle.hm_folds.specs.declared.held.HeldNumbers.{HeldNumbers}

-- the frame of this number is held in a pool that may not be kept
abbrev pub held_of : ℕ → Option HeldNumbers → Bool
held_of n None = false
held_of n (Some x) = has_number x.held n

-- the frame is held
abbrev pub held_at : List HeldNumbers → Frame → Bool
held_at xs f = held_of f.number (slice_get xs (pool_index f.pool))

-- how many frames a pool has that may not be kept
abbrev pub frames_of : Option HeldNumbers → ℕ
frames_of None = 0
frames_of (Some x) = x.frames

-- how many frames the pool has
abbrev pub frames_in : List HeldNumbers → PoolId → ℕ
frames_in xs pool = frames_of (slice_get xs (pool_index pool))
