-- The pools as contracts see them, and what each kind of entry changes in them.
use Rattle.std.specs.Prelude.{ℕ, ◌+◌, ◌*◌, ◌%◌, Bool, true, false, ◌==◌, if◌then◌else◌, Option, Some, None, is_none}
use Rattle.std.specs.Prelude.{unwrap_or, List, [], ◌∷◌, replicate, slice_set, slice_index_or}
use Rattle.frame_pool.specs.Frames.{Frames, fresh, is_held, locker, lowest_free, taken, dropped, written, locked}
use Rattle.frame_pool.specs.Frames.{unlocked, piece_of, piece_start, part_of}
use Rattle.frame_pool.specs.Bits.{next_true}
use Rattle.frame_pool.specs.declared.pool.Piece.{Piece}
use Rattle.frame_pool.specs.declared.pool.Piece.TheVariants.{All, Part}
pub use Rattle.hm_base.specs.PlaceWords.{pool_index}
use Rattle.hm_base.specs.declared.PoolId.{PoolId}
use Rattle.hm_base.specs.declared.PoolId.TheVariants.{System, Device}
use Rattle.hm_base.specs.declared.Frame.{Frame}
use Rattle.hm_base.specs.declared.Place.{Place}
use Rattle.hm_base.specs.declared.Place.TheVariants.{Empty, Zero, Sys, Own, Moving, Exclusive}
use Rattle.hm_base.specs.Program.{Program}
use Rattle.hm_history.specs.Memory.Words.{sys_frame, dev_frame}
use Rattle.hm_history.specs.Memory.Places.{frame_of}
use Rattle.hm_history.specs.Memory.Locks.{is_locker}
use Rattle.hm_history.specs.declared.Kind.{Kind}

-- the frames of a pool, and where each was committed to since it was last taken
pub record PoolState : Type 0 where
  pub frames : Frames
  pub committed_to : List (Option Frame)

-- the system's pool and then those of the devices, and which devices are removed
pub record PoolsState : Type 0 where
  pub pools : List PoolState
  pub removed : List Bool

-- a pool of n frames, none of which was ever taken
abbrev pub fresh_pool : ℕ → PoolState
fresh_pool n = record { frames = fresh n; committed_to = replicate n None }

-- a device that is not declared has no frames
abbrev pub frames_of_device : List ℕ → ℕ → ℕ
frames_of_device devices d = slice_index_or devices d 0

-- the pools of a script before its first entry. There are four of devices, declared or not
abbrev pub fresh_pools : Program → PoolsState
fresh_pools c = record {
  pools =
      fresh_pool c.frames
      ∷ fresh_pool (frames_of_device c.devices 0)
      ∷ fresh_pool (frames_of_device c.devices 1)
      ∷ fresh_pool (frames_of_device c.devices 2)
      ∷ fresh_pool (frames_of_device c.devices 3)
      ∷ [];
  removed = false ∷ false ∷ false ∷ false ∷ [];
}

-- a pool of the five, by whose frames they are
abbrev pub pool_at : PoolsState → PoolId → PoolState
pool_at x q = slice_index_or x.pools (pool_index q) (fresh_pool 0)

-- the pools with one of them changed
abbrev pub with_pool : PoolsState → PoolId → PoolState → PoolsState
with_pool x q y = record x { pools = slice_set x.pools (pool_index q) y }

-- one pool after a change of one of its frames

-- the frame is held, locked by the actor, and committed nowhere
abbrev pub pool_taken : PoolState → ℕ → ℕ → PoolState
pool_taken y n a = record { frames = locked (taken y.frames n) n a; committed_to = slice_set y.committed_to n None }

-- the frame is free again
abbrev pub pool_dropped : PoolState → ℕ → PoolState
pool_dropped y n = record y { frames = dropped y.frames n }

-- the actor has the frame locked
abbrev pub pool_locked : PoolState → ℕ → ℕ → PoolState
pool_locked y n a = record y { frames = locked y.frames n a }

-- nobody has the frame locked
abbrev pub pool_unlocked : PoolState → ℕ → PoolState
pool_unlocked y n = record y { frames = unlocked y.frames n }

-- bytes of the frame, from an offset on, are these
abbrev pub pool_written : PoolState → ℕ → ℕ → List ℕ → PoolState
pool_written y n offset bs = record y { frames = written y.frames n offset bs }

-- the contents of the frame are another frame's from here on
abbrev pub pool_committed : PoolState → ℕ → Frame → PoolState
pool_committed y n g = record y { committed_to = slice_set y.committed_to n (Some g) }

-- the lock is given up if the actor has it
abbrev pub pool_settled : PoolState → ℕ → ℕ → PoolState
pool_settled y n a = if is_locker (locker y.frames n) a then pool_unlocked y n else y

-- the frame is locked if nobody has it
abbrev pub pool_frozen : PoolState → ℕ → ℕ → PoolState
pool_frozen y n a = if is_none (locker y.frames n) then pool_locked y n a else y

-- reads

-- the frame is held
abbrev pub is_held_in : PoolsState → Frame → Bool
is_held_in x f = is_held (pool_at x f.pool).frames f.number

-- the actor that has the frame locked
abbrev pub locker_in : PoolsState → Frame → Option ℕ
locker_in x f = locker (pool_at x f.pool).frames f.number

-- the actor that has the frame locked, if it is another one than this
abbrev pub other_locker_in : PoolsState → Frame → ℕ → Option ℕ
other_locker_in x f a = elim (locker_in x f) [ None ↦ None | Some b ↦ if a == b then None else Some b ]

-- where the frame was committed to since it was last taken
abbrev pub committed_to_in : PoolsState → Frame → Option Frame
committed_to_in x f = slice_index_or (pool_at x f.pool).committed_to f.number None

-- the frame of a pool by its number, if there is one
abbrev pub frame_in : PoolId → Option ℕ → Option Frame
frame_in q None = None
frame_in q (Some n) = Some (frame_of q n)

-- the frame that a `take` of the pool gives
abbrev pub lowest_free_in : PoolsState → PoolId → Option Frame
lowest_free_in x q = frame_in q (lowest_free (pool_at x q).frames)

-- the first held frame of a device from a number on, for an eviction or a removal
abbrev pub held_from_in : PoolsState → ℕ → ℕ → Option ℕ
held_from_in x d from = next_true (pool_at x (Device d)).frames.held from

-- no frame of the device is taken any more
abbrev pub is_withdrawn_in : PoolsState → ℕ → Bool
is_withdrawn_in x d = (pool_at x (Device d)).frames.withdrawn

-- the device is removed
abbrev pub is_removed_in : PoolsState → ℕ → Bool
is_removed_in x d = slice_index_or x.removed d false

-- n bytes of a frame
abbrev pub bytes_in : PoolsState → Frame → ℕ → ℕ → List ℕ
bytes_in x f offset n = part_of (pool_at x f.pool).frames.bytes (f.number * 4096 + offset) n

-- what a place stands for
abbrev pub stands_for_in : PoolsState → Place → Option (Option Frame)
stands_for_in x Empty = None
stands_for_in x Zero = Some None
stands_for_in x (Sys n w) = Some (Some (sys_frame n))
stands_for_in x (Own d n w) = Some (Some (dev_frame d n))
stands_for_in x (Moving f w) = Some (Some (unwrap_or (committed_to_in x f) f))
stands_for_in x (Exclusive n a) = Some (Some (sys_frame n))

-- the frame whose bytes a place shows; none for the zero page and an empty place
abbrev pub backing_in : PoolsState → Place → Option Frame
backing_in x place = unwrap_or (stands_for_in x place) None

-- n bytes that a page with this place shows
abbrev pub shown_by_in : PoolsState → Option Frame → ℕ → ℕ → List ℕ
shown_by_in x None offset n = replicate n 0
shown_by_in x (Some f) offset n = bytes_in x f offset n

-- bytes that a page with this place shows
abbrev pub shown_in : PoolsState → Place → ℕ → ℕ → List ℕ
shown_in x place offset n = shown_by_in x (backing_in x place) offset n

-- changes, by kind

-- the place is a migration entry
abbrev pub is_moving : Place → Bool
is_moving (Moving f w) = true
is_moving x = false

-- the locks once a page of place `old` has this place
abbrev pub placed_in : PoolsState → Place → ℕ → Place → PoolsState
placed_in x old a (Sys n w) = if is_moving old then x else with_pool x System (pool_settled (pool_at x System) n a)
placed_in x old a (Moving f w) = with_pool x f.pool (pool_frozen (pool_at x f.pool) f.number a)
placed_in x old a y = x

-- the pools after an actor has locked a frame, if there is one
abbrev pub locked_in : PoolsState → Option Frame → ℕ → PoolsState
locked_in x None a = x
locked_in x (Some f) a = with_pool x f.pool (pool_locked (pool_at x f.pool) f.number a)

-- the pools after a store to an address, in the frame that its page stands for
abbrev pub stored_in : PoolsState → Option Frame → ℕ → List ℕ → PoolsState
stored_in x None at bs = x
stored_in x (Some f) at bs = with_pool x f.pool (pool_written (pool_at x f.pool) f.number (at % 4096) bs)

-- the part of a frame that an entry's copy is about
abbrev pub piece_of_part : Option ℕ → Piece
piece_of_part None = All
piece_of_part (Some k) = Part k

-- the pools after a part of the first frame was copied into the second
abbrev pub copied_in : PoolsState → Frame → Frame → Piece → PoolsState
copied_in x f g piece =
    with_pool x g.pool
    (pool_written (pool_at x g.pool) g.number (piece_start piece)
    (piece_of (pool_at x f.pool).frames f.number piece))

-- the pool of a device that is withdrawn
abbrev pub withdrawn_in : PoolState → PoolState
withdrawn_in y = record y { frames = record y.frames { withdrawn = true } }

-- the pools after an entry of an actor: `old` is the place that it is about, and `orphan` the frame that it leaves
-- unnamed and that was not locked
abbrev pub frames_next : ℕ → Kind → Place → Option Frame → PoolsState → PoolsState
frames_next a (Kind.Take f) old orphan x = with_pool x f.pool (pool_taken (pool_at x f.pool) f.number a)
frames_next a (Kind.Drop f) old orphan x = with_pool x f.pool (pool_dropped (pool_at x f.pool) f.number)
frames_next a (Kind.Done f) old orphan x = with_pool x f.pool (pool_unlocked (pool_at x f.pool) f.number)
frames_next a (Kind.Place p v y) old orphan x = locked_in (placed_in x old a y) orphan a
frames_next a (Kind.Stored who at bs) old orphan x = stored_in x (backing_in x old) at bs
frames_next a (Kind.Added m at was now) old orphan x = stored_in x (backing_in x old) at (now ∷ [])
frames_next a (Kind.Copied f g part) old orphan x = copied_in x f g (piece_of_part part)
frames_next a (Kind.Committed f g) old orphan x = with_pool x f.pool (pool_committed (pool_at x f.pool) f.number g)
frames_next a (Kind.Withdrawn d) old orphan x = with_pool x (Device d) (withdrawn_in (pool_at x (Device d)))
frames_next a (Kind.Removed d) old orphan x = record x { removed = slice_set x.removed d true }
frames_next a k old orphan x = x
