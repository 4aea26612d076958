-- When the pools show the frames of a state, and what a step asks of that state.
use Rattle.std.specs.Prelude.{◌≡◌, ◌≢◌, ℕ, ◌+◌, ◌*◌, ◌%◌, ◌<◌, ◌≤◌, Bool, true, false, Option, Some, None, is_some}
use Rattle.std.specs.Prelude.{length, slice_index, slice_index_or}
use Rattle.frame_pool.specs.Frames.{IsFrames, IsPiece, is_held, locker}
use Rattle.hm_base.specs.declared.PoolId.{PoolId}
use Rattle.hm_base.specs.declared.PoolId.TheVariants.{System}
use Rattle.hm_base.specs.declared.Frame.{Frame}
use Rattle.hm_base.specs.declared.Place.{Place}
use Rattle.hm_base.specs.declared.Place.TheVariants.{Empty}
use Rattle.hm_base.specs.Program.{Program}
use Rattle.hm_history.specs.Memory.Words.{names, page_of}
use Rattle.hm_history.specs.Memory.Plain.{Plain, owner, mirror_owner}
use Rattle.hm_history.specs.Memory.Places.{Places, frame_of, pool_size, lowest_free}
use Rattle.hm_history.specs.Memory.Contents.{backing, place_for}
use Rattle.hm_history.specs.Memory.After.{After}
use Rattle.hm_history.specs.declared.Kind.{Kind}
use Rattle.hm_frames.specs.Pools.{PoolState, PoolsState, pool_at, is_held_in, locker_in, lowest_free_in, backing_in}
use Rattle.hm_frames.specs.Pools.{piece_of_part, is_removed_in, is_withdrawn_in}

-- the lists of a pool fit each other
pub record IsPoolState (y : PoolState) : Type 0 where
  pub frames : IsFrames y.frames
  pub moved_len : length y.committed_to ≡ length y.frames.held

-- a pool shows the frames of that pool, by their numbers; those beyond its size are held and locked by nobody
pub record PoolShown (holds : ℕ → Bool) (to : ℕ → Option Frame) (lock : ℕ → Option ℕ) (contents : ℕ → ℕ → ℕ)
    (y : PoolState) : Type 0 where
  pub fits : IsPoolState y
  pub held : (n : ℕ) → is_held y.frames n ≡ holds n
  pub committed_to : (n : ℕ) → slice_index_or y.committed_to n None ≡ to n
  pub locked : (n : ℕ) → locker y.frames n ≡ lock n
  pub byte : (n o : ℕ) → o < 4096 → slice_index y.frames.bytes (n * 4096 + o) ≡ contents n o

-- the pools show the frames of a state of the script
pub record PoolsShown (c : Program) (holds : Frame → Bool) (to : Frame → Option Frame) (closed gone : ℕ → Bool)
    (lock : Frame → Option ℕ) (contents : Frame → ℕ → ℕ) (x : PoolsState) : Type 0 where
  pub count : length x.pools ≡ 5
  pub removed_len : length x.removed ≡ 4
  pub size : (q : PoolId) → length (pool_at x q).frames.held ≡ pool_size c q
  pub pool : (q : PoolId)
      → PoolShown (λ n. holds (frame_of q n)) (λ n. to (frame_of q n)) (λ n. lock (frame_of q n))
      (λ n. contents (frame_of q n)) (pool_at x q)
  pub system : (pool_at x System).frames.withdrawn ≡ false
  pub withdrawn : (d : ℕ) → d < 4 → is_withdrawn_in x d ≡ closed d
  pub removed : (d : ℕ) → d < 4 → is_removed_in x d ≡ gone d

-- the pools show all that the state after a history says of frames
abbrev pub FramesShown : Program → After → PoolsState → Type 0
FramesShown c s x =
    PoolsShown c s.places.held s.places.committed_to s.places.withdrawn s.places.removed s.locks.frame s.contents x

-- the place that an entry is about, before it
abbrev pub entry_place : Plain → Places → Kind → Place
entry_place s t (Kind.Place p v x) = t.place p v
entry_place s t (Kind.Stored who at bs) = place_for t (owner s who) (page_of at)
entry_place s t (Kind.Added m at was now) = place_for t (mirror_owner s m) (page_of at)
entry_place s t k = Empty

-- a copy is made between two held frames, whole or by one of eight parts
pub record CopyFits (holds : Frame → Bool) (f g : Frame) (part : Option ℕ) : Type 0 where
  pub source : holds f ≡ true
  pub target : holds g ≡ true
  pub differ : f ≢ g
  pub piece : IsPiece (piece_of_part part)

-- what a step asks of the state before the entry
abbrev pub FramesFit : Program → After → Kind → Type 0
FramesFit c s (Kind.Take f) = lowest_free c s.places f.pool ≡ Some f
FramesFit c s (Kind.Drop f) = s.places.held f ≡ true
FramesFit c s (Kind.Done f) = is_some (s.locks.frame f) ≡ true
FramesFit c s (Kind.Place p v x) =
    ((f : Frame) → names x ≡ Some f → s.places.held f ≡ true)
    × ((f : Frame) → names (s.places.place p v) ≡ Some f → s.places.held f ≡ true)
FramesFit c s (Kind.Stored who at bs) =
    ((f : Frame) → backing s.places (entry_place s.plain s.places (Kind.Stored who at bs)) ≡ Some f → s.places.held f
    ≡ true)
    × (at % 4096 + length bs ≤ 4096)
FramesFit c s (Kind.Added m at was now) =
    (f : Frame) → backing s.places (entry_place s.plain s.places (Kind.Added m at was now)) ≡ Some f
    → s.places.held f ≡ true
FramesFit c s (Kind.Copied f g part) = CopyFits s.places.held f g part
FramesFit c s (Kind.Committed f g) = s.places.held f ≡ true
FramesFit c s k = Unit {0}

-- the same, of the pools that show that state
abbrev pub StepFits : Kind → Place → Option Frame → PoolsState → Type 0
StepFits (Kind.Take f) old orphan x = lowest_free_in x f.pool ≡ Some f
StepFits (Kind.Drop f) old orphan x = is_held_in x f ≡ true
StepFits (Kind.Done f) old orphan x = is_some (locker_in x f) ≡ true
StepFits (Kind.Place p v y) old orphan x =
    ((f : Frame) → names y ≡ Some f → is_held_in x f ≡ true) × ((f : Frame) → orphan ≡ Some f → is_held_in x f ≡ true)
StepFits (Kind.Stored who at bs) old orphan x =
    ((f : Frame) → backing_in x old ≡ Some f → is_held_in x f ≡ true) × (at % 4096 + length bs ≤ 4096)
StepFits (Kind.Added m at was now) old orphan x = (f : Frame) → backing_in x old ≡ Some f → is_held_in x f ≡ true
StepFits (Kind.Copied f g part) old orphan x = CopyFits (is_held_in x) f g part
StepFits (Kind.Committed f g) old orphan x = is_held_in x f ≡ true
StepFits k old orphan x = Unit {0}
