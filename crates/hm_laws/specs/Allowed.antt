-- When an entry may be added: by the state and the past alone, whoever is where.
use Rattle.std.specs.Prelude.{◌≡◌, ℕ, ◌<◌, ◌≤◌, ◌⊎◌, ◌^◌, ◌%◌, ◌+◌, Bool, true, false, ◌||◌, ◌==◌, Option, Some, None}
use Rattle.std.specs.Prelude.{is_some, length, ⊤}
use Rattle.hm_base.specs.Pages.{Pages, covers}
use Rattle.hm_base.specs.Areas.{last_of}
use Rattle.hm_base.specs.Program.{Program}
use Rattle.hm_base.specs.declared.Frame.{Frame}
use Rattle.hm_base.specs.declared.Place.{Place}
use Rattle.hm_base.specs.declared.Place.TheVariants.{Sys, Own}
use Rattle.hm_base.specs.declared.ops.Rights.TheVariants.{Read}
use Rattle.hm_history.specs.Memory.Words.{page_of, sys_frame, dev_frame, names, names_directly, moving_frame, writable}
use Rattle.hm_history.specs.Memory.Words.{is_empty_place}
use Rattle.hm_history.specs.Memory.Plain.{MirrorState, rights_of, is_read_write, is_attached_state, is_attached}
use Rattle.hm_history.specs.Memory.Plain.{plain_accepts, mirror_owner}
use Rattle.hm_history.specs.Memory.Places.{is_exclusive, lowest_free, places_accept}
use Rattle.hm_history.specs.Memory.Sequences.{interval_seq, sequences_accept}
use Rattle.hm_history.specs.Memory.Lookups.{loses, is_guarded}
use Rattle.hm_history.specs.Memory.Contents.{shown_by}
use Rattle.hm_history.specs.Memory.After.{After, after_entry}
use Rattle.hm_history.specs.Kernel.Due.{has_no_frame}
use Rattle.hm_history.specs.declared.TableRight.{TableRight}
use Rattle.hm_history.specs.declared.Kind.{Kind}
use Rattle.hm_laws.specs.Stood.{lock_on, stood, is_moving, IsNamed, Unnamed, Unstood}
use Rattle.hm_laws.specs.Past.{Past, is_position}
use Rattle.hm_laws.specs.Sound.{Entered}

-- the state after an actor's entry of this kind
abbrev pub next : After → ℕ → Kind → After
next s a k = after_entry s (record { actor = a; kind = k })

-- what a page shows
abbrev pub shows : After → Place → ℕ → ℕ
shows s x = shown_by s.contents (stood s.places.committed_to x)

-- what an actor knows of a process that it has locked

-- each page outside the span that has an area and no place reads zeros
abbrev pub CleanBut : After → ℕ → Pages → Type 0
CleanBut s p r =
    (x : ℕ) → covers r (page_of x) ≡ false → is_empty_place (s.places.place p (page_of x)) ≡ true
    → is_some (rights_of s.plain p (page_of x)) ≡ true → s.plain.bytes p x ≡ 0

-- each page that has an area and no place reads zeros, so the first touch may give it a frame of zeros
abbrev pub Clean : After → ℕ → Type 0
Clean s p =
    (x : ℕ) → is_empty_place (s.places.place p (page_of x)) ≡ true → is_some (rights_of s.plain p (page_of x)) ≡ true
    → s.plain.bytes p x ≡ 0

-- an actor leaves no process that it emptied in between
abbrev pub MayRelease : After → ℕ → Type 0
MayRelease s a = (p : ℕ) → s.locks.map a ≡ lock_on p true → s.plain.there p ≡ true → Clean s p

-- the actor has the lock of a process that is there, for reading
abbrev pub ReadsThere : After → ℕ → ℕ → Type 0
ReadsThere s a p = (s.locks.map a ≡ lock_on p false) × (s.plain.there p ≡ true)

-- the actor has the lock of a process that is there, for writing
abbrev pub WritesThere : After → ℕ → ℕ → Type 0
WritesThere s a p = (s.locks.map a ≡ lock_on p true) × (s.plain.there p ≡ true)

-- the child of a fork under way, and one of its pages: it reads as the parent's, and neither has the write right
abbrev pub HasChild : After → Past → ℕ → ℕ → Type 0
HasChild s t a c = (t.namer c ≡ Some a) × (s.plain.been c ≡ false)

-- what a fork promises of a page that it has come past: parent and child show the same, and neither may write
pub record Alike (s : After) (p c v : ℕ) : Type 0 where
  pub emptiness : is_empty_place (s.places.place c v) ≡ is_empty_place (s.places.place p v)
  pub contents : (x : ℕ) → page_of x ≡ v → is_empty_place (s.places.place c v) ≡ false
      → shows s (s.places.place c v) (x % 4096) ≡ s.plain.bytes p x
  pub child_right : writable (s.places.place c v) ≡ false
  pub parent_right : writable (s.places.place p v) ≡ false

-- what an actor knows of a frame that it has locked

-- nobody uses it
pub record Unused (place : ℕ → ℕ → Place) (to : Frame → Option Frame) (lock : Frame → Option ℕ) (a : ℕ)
    (f : Frame) : Type 0 where
  pub mine : lock f ≡ Some a
  pub unnamed : Unnamed place f
  pub unstood : Unstood place to f

-- the actor may drop the frame, or give it to a page: it is its own and nobody uses it
abbrev pub IsUnused : After → ℕ → Frame → Type 0
IsUnused s a f = Unused s.places.place s.places.committed_to s.locks.frame a f

-- the frame is unused, and was not committed since it was taken
abbrev pub OwnsFrame : After → ℕ → Frame → Type 0
OwnsFrame s a f = IsUnused s a f × (s.places.committed_to f ≡ None)

-- its contents are to go elsewhere, and are still there
pub record Source (place : ℕ → ℕ → Place) (to : Frame → Option Frame) (lock : Frame → Option ℕ) (a : ℕ)
    (f : Frame) : Type 0 where
  pub mine : lock f ≡ Some a
  pub fresh : to f ≡ None
  pub stood_by : (q u : ℕ) → stood to (place q u) ≡ Some f → names (place q u) ≡ Some f

-- the same of a state's parts
abbrev pub IsSource : After → ℕ → Frame → Type 0
IsSource s a f = Source s.places.place s.places.committed_to s.locks.frame a f

-- each page that names the frame is under way, so no access goes to its contents
abbrev pub AllMoving : (ℕ → ℕ → Place) → Frame → Type 0
AllMoving place f = (q u : ℕ) → names (place q u) ≡ Some f → is_moving (place q u) ≡ true

-- the frame may be copied: its contents are to go elsewhere, and cannot change
abbrev pub IsFrozen : After → ℕ → Frame → Type 0
IsFrozen s a f = IsSource s a f × AllMoving s.places.place f

-- no page of it is under way
pub record Settled (place : ℕ → ℕ → Place) (to : Frame → Option Frame) (lock : Frame → Option ℕ) (a : ℕ)
    (f : Frame) : Type 0 where
  pub mine : lock f ≡ Some a
  pub lands : (q u : ℕ) → names (place q u) ≡ Some f → is_moving (place q u) ≡ false
  pub stood_by : (q u : ℕ) → stood to (place q u) ≡ Some f → is_moving (place q u) ≡ false

-- the same of a state's parts
abbrev pub IsSettled : After → ℕ → Frame → Type 0
IsSettled s a f = Settled s.places.place s.places.committed_to s.locks.frame a f

-- the place is that device frame
abbrev pub Owned : ℕ → ℕ → Place → Type 0
Owned d n (Own e k w) = (d ≡ e) × (n ≡ k)
Owned d n x = ⊥

-- two places show the same page
abbrev pub Same : After → Place → Place → Type 0
Same s x y = (o : ℕ) → o < 4096 → shows s x o ≡ shows s y o

-- who may give a page this place: a reader of its process keeps what it shows and its write right, a writer does as it
-- likes, a parent fills an empty page of its child, and who moves a frame changes nothing that can be seen
pub data MayPlace (s : After) (t : Past) (a p v : ℕ) (x : Place) : Type 0 where
  Reader : (reads : ReadsThere s a p) → (stays : is_empty_place x ≡ false) → (same : Same s x (s.places.place p v))
      → (right : writable (s.places.place p v) ≡ true → writable x ≡ true) → MayPlace s t a p v x
  Writer : (writes : WritesThere s a p) → MayPlace s t a p v x
  Parent : (child : HasChild s t a p) → (empty : is_empty_place (s.places.place p v) ≡ true) → MayPlace s t a p v x
  Mover : (was : is_empty_place (s.places.place p v) ≡ false) → (stays : is_empty_place x ≡ false)
      → (same : Same s x (s.places.place p v)) → (right : writable x ≡ writable (s.places.place p v))
      → MayPlace s t a p v x

-- a frame that comes to a page is the actor's, or a place names it so already
abbrev pub IsMineOrNamedSo : After → ℕ → Place → Frame → Type 0
IsMineOrNamedSo s a x f =
    (s.locks.frame f ≡ Some a)
    ⊎ ((q : ℕ) × (u : ℕ) × (names (s.places.place q u) ≡ Some f)
    × (is_moving x ≡ false → is_moving (s.places.place q u) ≡ false))

-- a frame that a page comes to stand for is the actor's, or a place stands for it so already
abbrev pub IsMineOrStandsSo : After → ℕ → Place → Frame → Type 0
IsMineOrStandsSo s a x f =
    (s.locks.frame f ≡ Some a)
    ⊎ ((q : ℕ) × (u : ℕ) × (stood s.places.committed_to (s.places.place q u) ≡ Some f)
    × (names x ≡ names (s.places.place q u)))

-- a frame whose page is frozen was not locked, or is the actor's, or has a page under way already
abbrev pub MayFreeze : After → ℕ → Frame → Type 0
MayFreeze s a f =
    (s.locks.frame f ≡ None)
    ⊎ ((s.locks.frame f ≡ Some a) ⊎ ((q : ℕ) × (u : ℕ) × (moving_frame (s.places.place q u) ≡ Some f)))

-- a migrating page loses its frame only to the actor that has the frame locked, or by being emptied
abbrev pub LeavesByItsLocker : After → ℕ → Place → Frame → Type 0
LeavesByItsLocker s a x f =
    (moving_frame x ≡ Some f) ⊎ ((s.locks.frame f ≡ Some a) ⊎ (is_empty_place x ≡ true))

-- a page in a device's memory leaves its frame if nobody else has that locked, or is emptied
abbrev pub LeavesItsDevice : After → ℕ → Place → ℕ → ℕ → Type 0
LeavesItsDevice s a x d n =
    (Owned d n x)
    ⊎ ((s.locks.frame (dev_frame d n) ≡ None)
    ⊎ ((s.locks.frame (dev_frame d n) ≡ Some a) ⊎ (is_empty_place x ≡ true)))

-- the place's frame is held, is no other page's, and is nobody else's if one of them is writable
pub record FramesOk (s : After) (p v : ℕ) (x : Place) : Type 0 where
  pub names_held : (f : Frame) → names x ≡ Some f → s.places.held f ≡ true
  pub stands_held : (f : Frame) → stood s.places.committed_to x ≡ Some f → s.places.held f ≡ true
  pub one_page : (q u : ℕ) (f : Frame) → names x ≡ Some f → names (s.places.place q u) ≡ Some f → u ≡ v
  pub stood_page : (q u : ℕ) (f : Frame) → stood s.places.committed_to x ≡ Some f
      → stood s.places.committed_to (s.places.place q u) ≡ Some f → u ≡ v
  pub alone : (q u : ℕ) (f : Frame) → writable x ≡ true → stood s.places.committed_to x ≡ Some f
      → stood s.places.committed_to (s.places.place q u) ≡ Some f → (q ≡ p) × (u ≡ v)
  pub others : (q u : ℕ) (f : Frame) → writable (s.places.place q u) ≡ true → stood s.places.committed_to x ≡ Some f
      → stood s.places.committed_to (s.places.place q u) ≡ Some f → (q ≡ p) × (u ≡ v)
  pub direct_fresh : (f : Frame) → names_directly x ≡ Some f → s.places.committed_to f ≡ None

-- frames come to the page, and leave it, by who has them locked
pub record HandOverOk (s : After) (a p v : ℕ) (x : Place) : Type 0 where
  pub fresh_names : (f : Frame) → names x ≡ Some f → IsMineOrNamedSo s a x f
  pub fresh_stands : (f : Frame) → stood s.places.committed_to x ≡ Some f → IsMineOrStandsSo s a x f
  pub freezes : (f : Frame) → moving_frame x ≡ Some f → MayFreeze s a f
  pub finishes : (f : Frame) → moving_frame (s.places.place p v) ≡ Some f → LeavesByItsLocker s a x f
  pub owned : (d n : ℕ) (w : Bool) → s.places.place p v ≡ Own d n w → LeavesItsDevice s a x d n
  -- a page that was touched stays so, or is emptied
  pub touched : has_no_frame x ≡ true → (has_no_frame (s.places.place p v) ≡ true) ⊎ (is_empty_place x ≡ true)
  -- its lock is given up only if nobody used it
  pub settles : (n : ℕ) (w : Bool) → x ≡ Sys n w → is_moving (s.places.place p v) ≡ false
      → s.locks.frame (sys_frame n) ≡ Some a
      → Unnamed s.places.place (sys_frame n) × Unstood s.places.place s.places.committed_to (sys_frame n)
  pub stays_locked : (f : Frame) → is_moving x ≡ true → stood s.places.committed_to x ≡ Some f
      → (moving_frame x ≡ Some f) ⊎ (is_some (s.locks.frame f) ≡ true)

-- the process has an area with the right there, and its page shows what it showed
pub record ProcessOk (s : After) (a p v : ℕ) (x : Place) : Type 0 where
  pub in_area : s.plain.there p ≡ true → is_empty_place x ≡ false → is_some (rights_of s.plain p v) ≡ true
  pub may_write : writable x ≡ true → (s.plain.there p ≡ true) × (is_read_write (rights_of s.plain p v) ≡ true)
  pub contents : (y : ℕ) → page_of y ≡ v → s.plain.there p ≡ true → is_empty_place x ≡ false
      → shows s x (y % 4096) ≡ s.plain.bytes p y
  pub empties : is_empty_place x ≡ true → s.locks.map a ≡ lock_on p true

-- what mirrors may show of the page is lost only in a guard
pub record MirrorsOk (s : After) (a p v : ℕ) (x : Place) : Type 0 where
  pub guarded : loses (s.places.place p v) x ≡ true → is_guarded s.sequences a p v ≡ true
  pub lands : is_moving (s.places.place p v) ≡ true → loses (s.places.place p v) x ≡ false
      → (stood s.places.committed_to x ≡ stood s.places.committed_to (s.places.place p v)) × (is_moving x ≡ false)
      × (is_exclusive x ≡ false)

-- a place that may be put in
pub record PlaceOk (s : After) (t : Past) (a p v : ℕ) (x : Place) : Type 0 where
  pub who : MayPlace s t a p v x
  pub ranged : is_empty_place x ≡ false → v < 2 ^ 36
  pub frames : FramesOk s p v x
  pub hand_over : HandOverOk s a p v x
  pub process : ProcessOk s a p v x
  pub mirrors : MirrorsOk s a p v x

-- when a mirror's table may get an entry: it fits the place, and nobody told the mirror since its look-up began
pub record SetOk (s : After) (t : Past) (a m v : ℕ) (target : Option Frame) (right : TableRight)
    (from : ℕ) : Type 0 where
  pub mirror : MirrorState
  pub is : s.plain.mirrors m ≡ Some mirror
  pub attached : is_attached_state mirror ≡ true
  pub fits :
      Entered s.places.committed_to mirror (record { target = target; right = right; from = from }) v
      (s.places.place mirror.proc v)
  pub below : interval_seq s.sequences m < s.sequences.seq mirror.proc
  pub untold : t.told m v ≤ from
  pub rightly : ((from == s.length) || is_position (t.begun a m) from) ≡ true

-- the entry passes the test of the plain state
abbrev pub PlainOk : After → Kind → Type 0
PlainOk s k = plain_accepts s.plain k ≡ true

-- the entry passes the test of places and tables
abbrev pub PlacesOk : Program → After → ℕ → Kind → Type 0
PlacesOk c s a k = places_accept c (mirror_owner s.plain) s.places a k ≡ true

-- the entry passes the test of sequences
abbrev pub SequencesOk : After → ℕ → Kind → Type 0
SequencesOk s a k = sequences_accept s.sequences a k ≡ true

-- the bytes lie in one page
abbrev pub InPage : ℕ → ℕ → Type 0
InPage at n = at % 4096 + n ≤ 4096

-- when an actor may add an entry of this kind. It asks nothing of where anybody is in an operation, so every way to
-- come to an entry may use the laws about it
abbrev pub Allowed : Program → After → Past → ℕ → Kind → Type 0
Allowed c s t a (Kind.Loaded x at bs) =
    MayRelease s a × PlainOk s (Kind.Loaded x at bs) × PlacesOk c s a (Kind.Loaded x at bs)
Allowed c s t a (Kind.Stored x at bs) =
    MayRelease s a × PlainOk s (Kind.Stored x at bs) × PlacesOk c s a (Kind.Stored x at bs) × InPage at (length bs)
Allowed c s t a (Kind.Failed x at n k) = MayRelease s a × PlainOk s (Kind.Failed x at n k)
Allowed c s t a (Kind.Mapped p r w) =
    WritesThere s a p × Clean s p × PlainOk s (Kind.Mapped p r w) × (last_of r ≤ 2 ^ 36)
Allowed c s t a (Kind.Unmapped p r) =
    WritesThere s a p × CleanBut s p r × ((v : ℕ) → covers r v ≡ true → is_empty_place (s.places.place p v) ≡ true)
    × PlainOk s (Kind.Unmapped p r)
Allowed c s t a (Kind.Protected p r w) =
    WritesThere s a p × Clean s p × (w ≡ Read → (v : ℕ) → covers r v ≡ true → writable (s.places.place p v) ≡ false)
    × PlainOk s (Kind.Protected p r w)
Allowed c s t a (Kind.Forked p d) =
    WritesThere s a p × Clean s p × HasChild s t a d × ((v : ℕ) → Alike s p d v) × PlainOk s (Kind.Forked p d)
Allowed c s t a (Kind.Exited p) =
    WritesThere s a p × ((v : ℕ) → is_empty_place (s.places.place p v) ≡ true) × PlainOk s (Kind.Exited p)
Allowed c s t a (Kind.Attached m d p r q) =
    (m < 32) × PlainOk s (Kind.Attached m d p r q) × SequencesOk s a (Kind.Attached m d p r q)
Allowed c s t a (Kind.Detaching m q) = PlainOk s (Kind.Detaching m q) × SequencesOk s a (Kind.Detaching m q)
Allowed c s t a (Kind.Detached m) =
    PlainOk s (Kind.Detached m) × SequencesOk s a (Kind.Detached m)
    × ((is_attached s.plain m ≡ true) ⊎ (t.leaver m ≡ Some a))
Allowed c s t a (Kind.Refused n) = MayRelease s a
Allowed c s t a (Kind.Migrated n) = MayRelease s a
Allowed c s t a (Kind.Seen m v k) = ⊤
Allowed c s t a (Kind.Evicted n) = ⊤
Allowed c s t a (Kind.Removed d) = (s.places.withdrawn d ≡ true) × PlacesOk c s a (Kind.Removed d)
Allowed c s t a (Kind.Rlock p) = (a < 16) × (s.locks.map a ≡ None) × ((b : ℕ) → s.locks.map b ≡ lock_on p true → ⊥)
Allowed c s t a (Kind.Runlock p) = MayRelease s a
Allowed c s t a (Kind.Wlock p) =
    (a < 16) × (s.locks.map a ≡ None) × ((b : ℕ) (w : Bool) → s.locks.map b ≡ lock_on p w → ⊥)
Allowed c s t a (Kind.Named p d) = PlainOk s (Kind.Named p d)
Allowed c s t a (Kind.Take f) = lowest_free c s.places f.pool ≡ Some f
Allowed c s t a (Kind.Drop f) = IsUnused s a f
Allowed c s t a (Kind.Place p v x) = PlaceOk s t a p v x
Allowed c s t a (Kind.Start p r q) = (a < 16) × SequencesOk s a (Kind.Start p r q)
Allowed c s t a (Kind.Told m r q) = SequencesOk s a (Kind.Told m r q)
Allowed c s t a (Kind.End p r q) = SequencesOk s a (Kind.End p r q)
Allowed c s t a (Kind.Begin m q) = SequencesOk s a (Kind.Begin m q)
Allowed c s t a (Kind.Retry m) = MayRelease s a
Allowed c s t a (Kind.Set m v f w from) = SetOk s t a m v f w from
Allowed c s t a (Kind.Fresh p v) = ⊤
Allowed c s t a (Kind.Copied f g part) = IsUnused s a g
Allowed c s t a (Kind.Committed f g) =
    IsFrozen s a f × OwnsFrame s a g × ((o : ℕ) → o < 4096 → s.contents g o ≡ s.contents f o)
Allowed c s t a (Kind.Kept at why) = ⊤
Allowed c s t a (Kind.Done f) = IsSettled s a f × IsNamed s.places.place f
Allowed c s t a (Kind.Withdrawn d) = ⊤
Allowed c s t a (Kind.Excluded m v) = MayRelease s a
Allowed c s t a (Kind.Fetched m at bs) = PlainOk s (Kind.Fetched m at bs) × PlacesOk c s a (Kind.Fetched m at bs)
Allowed c s t a (Kind.Added m at was now) =
    PlainOk s (Kind.Added m at was now) × PlacesOk c s a (Kind.Added m at was now)
