-- What a page shows of a state, and the changes that lead from what holds before an entry to what holds after it.
use Rattle.std.specs.Prelude.{ℕ, zero, suc, Bool, true, false, if◌then◌else◌, Option, Some, None, List, [], ◌∷◌}
use Rattle.std.specs.Prelude.{◌++◌, fold, slice_get, take}
use Rattle.hm_base.specs.Areas.{without, with_rights, with_area}
use Rattle.hm_base.specs.Pages.{Pages, covers}
use Rattle.hm_base.specs.Program.{Program}
use Rattle.hm_base.specs.declared.Frame.{Frame}
use Rattle.hm_base.specs.declared.Place.{Place}
use Rattle.hm_base.specs.declared.area.Area.{Area}
use Rattle.hm_base.specs.declared.ops.Rights.{Rights}
use Rattle.hm_history.specs.Memory.Words.{with_at, with_frame, names}
use Rattle.hm_history.specs.Memory.Plain.{Attachment, MirrorState, owner, mirror_owner, with_attachment}
use Rattle.hm_history.specs.Memory.Plain.{with_bytes, with_zeros}
use Rattle.hm_history.specs.Memory.Places.{TableEntry, with_place, with_entry, erased_table}
use Rattle.hm_history.specs.Memory.Sequences.{Guarded, interval_seq}
use Rattle.hm_history.specs.Memory.Locks.{Locks, releases}
use Rattle.hm_history.specs.Memory.After.{After}
use Rattle.hm_history.specs.Kernel.Going.{state_of}
use Rattle.hm_history.specs.declared.locks.MapLock.{MapLock}
use Rattle.hm_history.specs.declared.Kind.{Kind}
use Rattle.hm_history.specs.declared.Entry.{Entry}

-- the parts of a state that a page shows
pub record Shown : Type 0 where
  pub lock : ℕ → Option MapLock  -- the mmap lock that an actor holds
  pub held : Frame → Bool
  pub locker : Frame → Option ℕ
  pub there : ℕ → Bool
  pub areas : ℕ → List Area
  pub bytes : ℕ → ℕ → ℕ
  pub place : ℕ → ℕ → Place
  pub seq : ℕ → ℕ
  pub guard : ℕ → Option (ℕ × Pages)  -- the process and the span of an actor's invalidation
  pub mirror : ℕ → Option MirrorState
  pub interval : ℕ → ℕ  -- the sequence of a mirror's interval
  pub table : ℕ → ℕ → Option TableEntry
  pub withdrawn : ℕ → Bool
  pub removed : ℕ → Bool

-- what a page shows of a guard
abbrev pub guard_span : Option Guarded → Option (ℕ × Pages)
guard_span None = None
guard_span (Some g) = Some (g.proc, g.span)

-- what it shows of a state
abbrev pub shown : After → Shown
shown s = record {
  lock = s.locks.map;
  held = s.places.held;
  locker = s.locks.frame;
  there = s.plain.there;
  areas = s.plain.areas;
  bytes = s.plain.bytes;
  place = s.places.place;
  seq = s.sequences.seq;
  guard = λ a. guard_span (s.sequences.guard a);
  mirror = s.plain.mirrors;
  interval = λ m. interval_seq s.sequences m;
  table = s.places.table;
  withdrawn = s.places.withdrawn;
  removed = s.places.removed;
}

-- with nothing there; a process that comes has its sequence told
abbrev pub blank : Shown
blank = record {
  lock = λ a. None;
  held = λ f. false;
  locker = λ f. None;
  there = λ p. false;
  areas = λ p. [];
  bytes = λ p at. 0;
  place = λ p v. Place.Empty;
  seq = λ p. 2;
  guard = λ a. None;
  mirror = λ m. None;
  interval = λ m. 0;
  table = λ m v. None;
  withdrawn = λ d. false;
  removed = λ d. false;
}

-- what is so from now on
pub data Change : Type 0 where
  Lock : ℕ → Option MapLock → Change  -- of an actor
  Held : Frame → Bool → Change
  Locker : Frame → Option ℕ → Change
  There : ℕ → Bool → Change
  NewArea : ℕ → Pages → Rights → Change  -- one area more
  Cut : ℕ → Pages → Change  -- the areas have none of these pages
  Right : ℕ → Pages → Rights → Change  -- what the areas have of these pages has this right
  Bare : ℕ → Change  -- there is no area
  Copy : ℕ → ℕ → Change  -- areas and bytes of the second process are those of the first
  Bytes : ℕ → ℕ → List ℕ → Change  -- from an address on
  Zeros : ℕ → Pages → Change
  Placed : ℕ → ℕ → Place → Change
  Seq : ℕ → ℕ → Change
  Guard : ℕ → Option (ℕ × Pages) → Change
  Mirror : ℕ → ℕ → ℕ → Pages → Change  -- a mirror is attached: its device, its process, its window
  Stage : ℕ → Attachment → Change
  Interval : ℕ → ℕ → Change
  Set : ℕ → ℕ → TableEntry → Change
  Erase : ℕ → Pages → Change
  Clear : ℕ → Change  -- the table has no entry
  Withdrawn : ℕ → Change
  Removed : ℕ → Change

-- what is shown after a change
abbrev pub applied : Change → Shown → Shown
applied (Change.Lock a x) s = record s { lock = with_at s.lock a x }
applied (Change.Held f x) s = record s { held = with_frame s.held f x }
applied (Change.Locker f x) s = record s { locker = with_frame s.locker f x }
applied (Change.There p x) s = record s { there = with_at s.there p x }
applied (Change.NewArea p r w) s =
    record s { areas = with_at s.areas p (with_area (record { span = r; rights = w }) (s.areas p)) }
applied (Change.Cut p r) s = record s { areas = with_at s.areas p (without r (s.areas p)) }
applied (Change.Right p r w) s = record s { areas = with_at s.areas p (with_rights r w (s.areas p)) }
applied (Change.Bare p) s = record s { areas = with_at s.areas p [] }
applied (Change.Copy p c) s =
    record s { areas = with_at s.areas c (s.areas p); bytes = with_at s.bytes c (s.bytes p) }
applied (Change.Bytes p at bs) s = record s { bytes = with_at s.bytes p (with_bytes (s.bytes p) at bs) }
applied (Change.Zeros p r) s = record s { bytes = with_at s.bytes p (with_zeros (s.bytes p) r) }
applied (Change.Placed p v x) s = record s { place = with_place s.place p v x }
applied (Change.Seq p n) s = record s { seq = with_at s.seq p n }
applied (Change.Guard a x) s = record s { guard = with_at s.guard a x }
applied (Change.Mirror m d p r) s = record s {
  mirror = with_at s.mirror m (Some (record { dev = d; proc = p; window = r; stage = Attachment.Attached }));
}
applied (Change.Stage m t) s = record s { mirror = with_at s.mirror m (with_attachment t (s.mirror m)) }
applied (Change.Interval m n) s = record s { interval = with_at s.interval m n }
applied (Change.Set m v x) s = record s { table = with_entry s.table m v x }
applied (Change.Erase m r) s = record s { table = erased_table s.table m (covers r) }
applied (Change.Clear m) s = record s { table = erased_table s.table m (λ v. true) }
applied (Change.Withdrawn d) s = record s { withdrawn = with_at s.withdrawn d true }
applied (Change.Removed d) s = record s { removed = with_at s.removed d true }

-- what is shown after changes, one after the other
abbrev pub applied_all : List Change → Shown → Shown
applied_all xs s = fold (λ t x. applied x t) s xs

-- what holds before the first entry, beside what is blank
abbrev pub first_changes : List Change
first_changes = Change.There 0 true ∷ Change.Seq 0 2 ∷ []

-- ---- the changes of an entry

-- the mmap lock that the actor has after its entry, if the entry takes one or lets go of what it has
abbrev pub lock_changes : ℕ → Kind → List Change
lock_changes a (Kind.Rlock p) = Change.Lock a (Some (record { proc = p; writes = false })) ∷ []
lock_changes a (Kind.Wlock p) = Change.Lock a (Some (record { proc = p; writes = true })) ∷ []
lock_changes a k = if releases k then Change.Lock a None ∷ [] else []

-- the place of the page that a `place` is about
abbrev pub place_before : After → Kind → Place
place_before s (Kind.Place p v x) = s.places.place p v
place_before s k = Place.Empty

-- who has the frame locked now, if there is one
abbrev pub locker_changes : Locks → Option Frame → List Change
locker_changes s None = []
locker_changes s (Some f) = Change.Locker f (s.frame f) ∷ []

-- the bytes that a process has from an address on, if there is a process
abbrev pub byte_changes : Option ℕ → ℕ → List ℕ → List Change
byte_changes None at bs = []
byte_changes (Some p) at bs = Change.Bytes p at bs ∷ []

-- the bytes that an entry stores
abbrev pub stored_changes : After → Kind → List Change
stored_changes t (Kind.Stored x at bs) = byte_changes (owner t.plain x) at bs
stored_changes t k = []

-- what an actor's entry changes of processes and invalidations, to the state after it
abbrev pub process_changes : After → ℕ → Kind → List Change
process_changes t a (Kind.Mapped p r w) = Change.NewArea p r w ∷ Change.Zeros p r ∷ []
process_changes t a (Kind.Unmapped p r) = Change.Cut p r ∷ []
process_changes t a (Kind.Protected p r w) = Change.Right p r w ∷ []
process_changes t a (Kind.Named p c) = Change.Seq c (t.sequences.seq c) ∷ []
process_changes t a (Kind.Forked p c) = Change.There c true ∷ Change.Copy p c ∷ []
process_changes t a (Kind.Exited p) = Change.There p false ∷ Change.Bare p ∷ []
process_changes t a (Kind.Start p r q) = Change.Seq p (t.sequences.seq p) ∷ Change.Guard a (Some (p, r)) ∷ []
process_changes t a (Kind.End p r q) = Change.Seq p (t.sequences.seq p) ∷ Change.Guard a None ∷ []
process_changes t a k = []

-- what an entry changes of mirrors
abbrev pub mirror_changes : After → Kind → List Change
mirror_changes t (Kind.Attached m d p r q) =
    Change.Seq p (t.sequences.seq p)
    ∷ Change.Mirror m d p r
    ∷ Change.Interval m (interval_seq t.sequences m)
    ∷ []
mirror_changes t (Kind.Detaching m q) = Change.Stage m Attachment.Detaching ∷ Change.Clear m ∷ []
mirror_changes t (Kind.Detached m) = Change.Stage m Attachment.Gone ∷ Change.Clear m ∷ []
mirror_changes t (Kind.Told m r q) = Change.Erase m r ∷ Change.Interval m (interval_seq t.sequences m) ∷ []
mirror_changes t (Kind.Set m v f w from) = Change.Set m v (record { target = f; right = w; from = from }) ∷ []
mirror_changes t (Kind.Added m at was now) = byte_changes (mirror_owner t.plain m) at (now ∷ [])
mirror_changes t k = []

-- what an actor's entry changes of frames, devices and page tables, if its page had this place
abbrev pub frame_changes : Place → After → ℕ → Kind → List Change
frame_changes old t a (Kind.Take f) = Change.Held f true ∷ Change.Locker f (Some a) ∷ []
frame_changes old t a (Kind.Drop f) = Change.Held f false ∷ Change.Locker f None ∷ []
frame_changes old t a (Kind.Done f) = Change.Locker f None ∷ []
frame_changes old t a (Kind.Place p v x) =
    locker_changes t.locks (names old) ++ (locker_changes t.locks (names x) ++ Change.Placed p v x ∷ [])
frame_changes old t a (Kind.Withdrawn d) = Change.Withdrawn d ∷ []
frame_changes old t a (Kind.Removed d) = Change.Removed d ∷ []
frame_changes old t a k = []

-- what an entry changes of all but mmap locks and the bytes that it stores
abbrev pub other_changes : Place → After → Entry → List Change
other_changes old t e = process_changes t e.actor e.kind
    ++ (mirror_changes t e.kind ++ frame_changes old t e.actor e.kind)

-- the changes of an entry, if its page had this place, to the state after it
abbrev pub changes_to : Place → After → Entry → List Change
changes_to old t e = lock_changes e.actor e.kind ++ (stored_changes t e.kind ++ other_changes old t e)

-- the changes of an entry, from the state before it to the state after it
abbrev pub changes : After → After → Entry → List Change
changes s t e = changes_to (place_before s e.kind) t e

-- the changes of an entry after a history
abbrev pub entry_changes : Program → List Entry → Entry → List Change
entry_changes c h e = changes (state_of c h).after (state_of c (h ++ e ∷ [])).after e

-- the changes of the entry at a position, if there is one
abbrev pub changes_at : Program → List Entry → ℕ → List Change
changes_at c h i = elim (slice_get h i) [ None ↦ [] | Some e ↦ entry_changes c (take i h) e ]

-- what is put together, from blank, of the changes of the entries before a position
abbrev pub put_together : Program → List Entry → ℕ → Shown
put_together c h zero = applied_all first_changes blank
put_together c h (suc i) = applied_all (changes_at c h i) (put_together c h i)
