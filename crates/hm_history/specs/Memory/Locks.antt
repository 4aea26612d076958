-- The mmap locks (`mmap_lock` of `struct mm_struct`) and the locks of frames (`PG_locked`), by the entries of their
-- actors. Their order: an actor takes the mmap lock first, then begins a guard, then locks frames. Nobody waits inside
-- a guard, with an mmap lock for writing, or with a frame locked; so somebody always goes on (hm_laws, `never_stuck`).
use Rattle.std.specs.Prelude.{ℕ, Bool, true, false, not, ◌&&◌, ◌==◌, if◌then◌else◌, Option, Some, None, is_none}
use Rattle.hm_base.specs.declared.Frame.{Frame}
use Rattle.hm_base.specs.declared.Place.{Place}
use Rattle.hm_base.specs.declared.Place.TheVariants.{Sys, Moving}
use Rattle.hm_history.specs.Memory.Words.{with_at, with_frame, least, sys_frame, names}
use Rattle.hm_history.specs.Memory.Places.{Places, places_next, lowest_named}
use Rattle.hm_history.specs.declared.locks.MapLock.{MapLock}
use Rattle.hm_history.specs.declared.Kind.{Kind}

-- which mmap lock each actor holds, and who has each frame locked
pub record Locks : Type 0 where
  pub map : ℕ → Option MapLock
  pub frame : Frame → Option ℕ

-- at the start nothing is locked
abbrev pub locks_start : Locks
locks_start = record { map = λ a. None; frame = λ f. None }

-- an actor holds a lock that passes a test
abbrev pub lock_passes : (MapLock → Bool) → Option MapLock → Bool
lock_passes test None = false
lock_passes test (Some x) = test x

-- who has the process's lock for writing
abbrev pub writer : Locks → ℕ → Option ℕ
writer s p = least (λ a. lock_passes (λ x. (x.proc == p) && x.writes) (s.map a)) 0 16

-- the lowest-numbered other actor that holds the process's lock, in either mode
abbrev pub lowest_other : Locks → ℕ → ℕ → Option ℕ
lowest_other s p b = least (λ a. not (a == b) && lock_passes (λ x. x.proc == p) (s.map a)) 0 16

-- the other actor that has the frame locked
abbrev pub other_locker : Locks → Frame → ℕ → Option ℕ
other_locker s f a = elim (s.frame f) [ None ↦ None | Some b ↦ if a == b then None else Some b ]

-- the entries that release what their actor holds
abbrev pub releases : Kind → Bool
releases (Kind.Loaded x at bs) = true
releases (Kind.Stored x at bs) = true
releases (Kind.Failed x at n c) = true
releases (Kind.Refused n) = true
releases (Kind.Mapped p r w) = true
releases (Kind.Unmapped p r) = true
releases (Kind.Protected p r w) = true
releases (Kind.Forked p child) = true
releases (Kind.Exited p) = true
releases (Kind.Migrated n) = true
releases (Kind.Retry m) = true
releases (Kind.Excluded m v) = true
releases (Kind.Runlock p) = true
releases _ = false

-- the mmap locks after an entry of an actor
abbrev pub map_next : Locks → ℕ → Kind → ℕ → Option MapLock
map_next s a (Kind.Rlock p) = with_at s.map a (Some (record { proc = p; writes = false }))
map_next s a (Kind.Wlock p) = with_at s.map a (Some (record { proc = p; writes = true }))
map_next s a k = if releases k then with_at s.map a None else s.map

-- the frame that no place names any more after the `place`, and that was not locked: its actor drops it next
abbrev pub left_behind : Locks → Places → Option Frame → Option Frame
left_behind s after None = None
left_behind s after (Some f) = if is_none (s.frame f) && is_none (lowest_named after f) then Some f else None

-- the frame that a `place` leaves without a name and unlocked
abbrev pub orphan : Locks → Places → Kind → Option Frame
orphan s t (Kind.Place p v x) = left_behind s (places_next t (Kind.Place p v x)) (names (t.place p v))
orphan s t _ = None

-- the locks of frames, with one more for an orphan
abbrev pub with_lock : (Frame → Option ℕ) → Option Frame → Option ℕ → Frame → Option ℕ
with_lock f None a = f
with_lock f (Some k) a = with_frame f k a

-- that actor has it locked
abbrev pub is_locker : Option ℕ → ℕ → Bool
is_locker None a = false
is_locker (Some b) a = a == b

-- a frame is locked by its taker, until that actor places it as Sys over a place that is not Moving; by the actor that
-- freezes it while it is unlocked; by the actor that leaves it unnamed. In each case at the latest until it is done or
-- dropped
abbrev pub frame_placed : Locks → Place → ℕ → Place → Frame → Option ℕ
frame_placed s (Moving g x) a (Sys n w) = s.frame
frame_placed s old a (Sys n w) =
    if is_locker (s.frame (sys_frame n)) a then with_frame s.frame (sys_frame n) None else s.frame
frame_placed s old a (Moving f w) = if is_none (s.frame f) then with_frame s.frame f (Some a) else s.frame
frame_placed s old a _ = s.frame

-- the locks of frames after an entry of an actor
abbrev pub frame_next : Locks → Places → ℕ → Kind → Frame → Option ℕ
frame_next s t a (Kind.Take f) = with_frame s.frame f (Some a)
frame_next s t a (Kind.Done f) = with_frame s.frame f None
frame_next s t a (Kind.Drop f) = with_frame s.frame f None
frame_next s t a (Kind.Place p v x) =
    with_lock (frame_placed s (t.place p v) a x) (orphan s t (Kind.Place p v x)) (Some a)
frame_next s t a _ = s.frame

-- the locks after an entry of an actor; t is the places before it
abbrev pub locks_next : Locks → Places → ℕ → Kind → Locks
locks_next s t a k = record { map = map_next s a k; frame = frame_next s t a k }
