-- What holds of every state, whoever is where: by component, each rule over the parts that it reads.
use Rattle.std.specs.Prelude.{◌≡◌, ℕ, ◌<◌, ◌≤◌, ◌⊎◌, ◌^◌, ◌%◌, ◌+◌, Bool, true, false, ◌==◌, nat_lt, Option, Some, None}
use Rattle.std.specs.Prelude.{is_some, List, [], length, if◌then◌else◌, zero, suc}
use Rattle.std.specs.List.{list_any}
use Rattle.hm_base.specs.Pages.{Pages, covers, overlap}
use Rattle.hm_base.specs.Areas.{rights_at}
use Rattle.hm_base.specs.Program.{Program}
use Rattle.hm_base.specs.declared.area.Area.{Area}
use Rattle.hm_base.specs.declared.Frame.{Frame}
use Rattle.hm_base.specs.declared.Place.{Place}
use Rattle.hm_history.specs.Memory.Words.{page_of, names, names_directly, moving_frame, writable, is_empty_place}
use Rattle.hm_history.specs.Memory.Words.{dev_frame}
use Rattle.hm_history.specs.Memory.Plain.{MirrorState, Attachment, Attached, Detaching, Gone, is_read_write}
use Rattle.hm_history.specs.Memory.Plain.{mirror_passes, is_attached_state}
use Rattle.hm_history.specs.Memory.Places.{TableEntry, is_page, pool_size, is_for_device}
use Rattle.hm_history.specs.Memory.Sequences.{Sequences, Interval, Guarded, Stage, InTree, InsertDeferred}
use Rattle.hm_history.specs.Memory.Sequences.{RemoveDeferred, Removed, Out, is_odd, deferred_state, overlapping}
use Rattle.hm_history.specs.Memory.Contents.{shown_by}
use Rattle.hm_history.specs.Memory.After.{After}
use Rattle.hm_history.specs.declared.locks.MapLock.{MapLock}
use Rattle.hm_laws.specs.Stood.{lock_on, stood, is_moving, IsNamed, Matches}
use Rattle.hm_laws.specs.Past.{Past}

-- who has a process's lock for writing is alone, and only actors below 16 hold locks
pub record LockRules (map : ℕ → Option MapLock) : Type 0 where
  pub one_writer : (p b d : ℕ) (w : Bool) → map b ≡ lock_on p true → map d ≡ lock_on p w → b ≡ d
  pub free_above : (b : ℕ) → 16 ≤ b → map b ≡ None

-- pages that have a place are listed, and lie in the address space
pub record PlaceRules (place : ℕ → ℕ → Place) (placed : List (ℕ × ℕ)) : Type 0 where
  pub listed : (p v : ℕ) → is_empty_place (place p v) ≡ false → list_any (is_page p v) placed ≡ true
  pub ranged : (p v : ℕ) → is_empty_place (place p v) ≡ false → v < 2 ^ 36

-- a place names and stands for held frames, each on one page number; what a writable place stands for no other stands
-- for; a held frame is named or locked; a frame of a migration entry, and what that stands for, is locked; a frame that
-- is named directly was not committed
pub record FrameRules (place : ℕ → ℕ → Place) (held : Frame → Bool) (to : Frame → Option Frame)
    (lock : Frame → Option ℕ) : Type 0 where
  pub names_held : (p v : ℕ) (f : Frame) → names (place p v) ≡ Some f → held f ≡ true
  pub stands_held : (p v : ℕ) (f : Frame) → stood to (place p v) ≡ Some f → held f ≡ true
  pub one_page : (p v q u : ℕ) (f : Frame) → names (place p v) ≡ Some f → names (place q u) ≡ Some f → u ≡ v
  pub stood_page : (p v q u : ℕ) (f : Frame) → stood to (place p v) ≡ Some f → stood to (place q u) ≡ Some f → u ≡ v
  pub alone : (p v q u : ℕ) (f : Frame) → writable (place p v) ≡ true → stood to (place p v) ≡ Some f
      → stood to (place q u) ≡ Some f → (q ≡ p) × (u ≡ v)
  pub locked_held : (f : Frame) (b : ℕ) → lock f ≡ Some b → held f ≡ true
  pub held_used : (f : Frame) → held f ≡ true → lock f ≡ None → IsNamed place f
  pub moving_locked : (p v : ℕ) (f : Frame) → moving_frame (place p v) ≡ Some f → is_some (lock f) ≡ true
  pub stands_locked : (p v : ℕ) (f : Frame) → is_moving (place p v) ≡ true → stood to (place p v) ≡ Some f
      → is_some (lock f) ≡ true
  pub direct_fresh : (p v : ℕ) (f : Frame) → names_directly (place p v) ≡ Some f → to f ≡ None

-- held frames are the pools', and a removed device has none
pub record PoolRules (c : Program) (held : Frame → Bool) (withdrawn removed : ℕ → Bool) : Type 0 where
  pub below : (f : Frame) → held f ≡ true → f.number < pool_size c f.pool
  pub closed : (d : ℕ) → removed d ≡ true → withdrawn d ≡ true
  pub emptied : (d n : ℕ) → removed d ≡ true → held (dev_frame d n) ≡ false

-- processes come and go: areas only of those that are there, numbers only as given
pub record ProcessRules (there been named : ℕ → Bool) (areas : ℕ → List Area) (namer : ℕ → Option ℕ) : Type 0 where
  pub no_area : (p : ℕ) → there p ≡ false → areas p ≡ []
  pub area_below : (p v : ℕ) → is_some (rights_at (areas p) v) ≡ true → v < 2 ^ 36
  pub there_been : (p : ℕ) → there p ≡ true → been p ≡ true
  pub been_named : (p : ℕ) → been p ≡ true → (p ≡ 0) ⊎ (named p ≡ true)
  pub namer_named : (p : ℕ) → named p ≡ false → namer p ≡ None

-- a page with a place has an area, but in the child of a fork under way; a writable place has a writable area
pub record AreaRules (there been : ℕ → Bool) (areas : ℕ → List Area) (namer : ℕ → Option ℕ)
    (place : ℕ → ℕ → Place) : Type 0 where
  pub in_area : (p v : ℕ) → there p ≡ true → is_empty_place (place p v) ≡ false
      → is_some (rights_at (areas p) v) ≡ true
  pub may_write : (p v : ℕ) → writable (place p v) ≡ true
      → (there p ≡ true) × (is_read_write (rights_at (areas p) v) ≡ true)
  pub absent : (p v : ℕ) → there p ≡ false → been p ≡ true → is_empty_place (place p v) ≡ true
  pub unborn : (p v : ℕ) → namer p ≡ None → been p ≡ false → is_empty_place (place p v) ≡ true

-- a page with a place reads as its process does
pub record ContentsRules (there : ℕ → Bool) (bytes : ℕ → ℕ → ℕ) (place : ℕ → ℕ → Place)
    (to : Frame → Option Frame) (contents : Frame → ℕ → ℕ) : Type 0 where
  pub reads : (p a : ℕ) → there p ≡ true → is_empty_place (place p (page_of a)) ≡ false
      → shown_by contents (stood to (place p (page_of a))) (a % 4096) ≡ bytes p a

-- a page with an area and no place reads zeros, unless somebody empties the process
pub record UntouchedRules (there : ℕ → Bool) (areas : ℕ → List Area) (bytes : ℕ → ℕ → ℕ)
    (place : ℕ → ℕ → Place) (map : ℕ → Option MapLock) : Type 0 where
  pub untouched : (p a : ℕ) → there p ≡ true → is_empty_place (place p (page_of a)) ≡ true
      → is_some (rights_at (areas p) (page_of a)) ≡ true → (bytes p a ≡ 0) ⊎ ((b : ℕ) × (map b ≡ lock_on p true))

-- ---- a mirror and its interval

-- a mirror and its interval may be at these stages together
abbrev pub stands_so : Attachment → Stage → Bool
stands_so Attached InTree = true
stands_so Attached InsertDeferred = true
stands_so Detaching RemoveDeferred = true
stands_so Detaching Removed = true
stands_so Gone Out = true
stands_so x y = false

-- a mirror and its interval are of one process and window, and stand at stages that go together
pub record Pairing (x : MirrorState) (y : Interval) (d : Option ℕ) : Type 0 where
  pub proc : y.proc ≡ x.proc
  pub window : y.window ≡ x.window
  pub stage : stands_so x.stage y.stage ≡ true
  pub device : d ≡ Some x.dev

-- a mirror has an interval, and an interval its mirror
abbrev pub Paired : Option MirrorState → Option Interval → Option ℕ → Type 0
Paired None None d = Unit {0}
Paired (Some x) (Some y) d = Pairing x y d
Paired x y d = ⊥

-- each mirror is paired, by its number
pub record MirrorRules (mirrors : ℕ → Option MirrorState) (interval : ℕ → Option Interval)
    (device : ℕ → Option ℕ) : Type 0 where
  pub paired : (m : ℕ) → Paired (mirrors m) (interval m) (device m)

-- a mirror's process was there when it came
pub record ArrivalRules (been : ℕ → Bool) (mirrors : ℕ → Option MirrorState) : Type 0 where
  pub of_been : (m : ℕ) (x : MirrorState) → mirrors m ≡ Some x → been x.proc ≡ true

-- ---- intervals and their sequences, and the guards under way

-- the interval's removal is deferred
abbrev pub is_leaving : Stage → Bool
is_leaving RemoveDeferred = true
is_leaving x = false

-- the guard is one of this process
abbrev pub guards : Option Guarded → ℕ → Bool
guards None p = false
guards (Some g) p = g.proc == p

-- how many of the first n actors have a guard of the process under way
abbrev pub count_guards : (ℕ → Option Guarded) → ℕ → ℕ → ℕ
count_guards guard p zero = 0
count_guards guard p (suc n) = count_guards guard p n + (if guards (guard n) p then 1 else 0)

-- the invalidation met an interval, so it made the sequence odd
abbrev pub has_met : Guarded → Bool
has_met g = nat_lt 0 (length g.met)

-- what the sequences of processes and intervals have to do with the guards under way. No interval is ahead of its
-- process, and a process's sequence is odd only while a guard is under way
pub record SequenceRules (s : Sequences) : Type 0 where
  pub few : (m : ℕ) (y : Interval) → s.interval m ≡ Some y → m < 32
  pub not_above : (m : ℕ) (y : Interval) → s.interval m ≡ Some y → y.seq ≤ s.seq y.proc
  pub odd_seq : (m : ℕ) (y : Interval) → s.interval m ≡ Some y → is_odd y.seq ≡ true
  pub deferred : (m : ℕ) (y : Interval) → s.interval m ≡ Some y → deferred_state y.stage ≡ true
      → (y.seq ≡ s.seq y.proc) × (is_odd (s.seq y.proc) ≡ true)
  pub leaving : (m : ℕ) (y : Interval) → s.interval m ≡ Some y → is_leaving y.stage ≡ true
      → is_odd (s.seq y.proc) ≡ true
  pub met_odd : (a : ℕ) (g : Guarded) → s.guard a ≡ Some g → has_met g ≡ true → is_odd (s.seq g.proc) ≡ true
  pub met_now : (a : ℕ) (g : Guarded) → s.guard a ≡ Some g → has_met g ≡ true → overlapping s g.proc g.span ≡ g.met
  pub counted : (p : ℕ) → s.active p ≡ count_guards s.guard p 16
  pub odd_active : (p : ℕ) → is_odd (s.seq p) ≡ true → 0 < s.active p
  pub positive : (p : ℕ) → 2 ≤ s.seq p
  pub guard_below : (a : ℕ) (g : Guarded) → s.guard a ≡ Some g → a < 16

-- a mirror of a guard under way, that overlaps it, is still to be told, or told, or has come since
abbrev pub Pending : Guarded → ℕ → Type 0
Pending g m = (list_any (λ k. k == m) g.met ≡ true) × (list_any (λ k. k == m) g.told ≡ false)

-- the mirror cannot look the span up now: its interval has the process's odd sequence, and its table nothing there
abbrev pub Blocked : (ℕ → ℕ) → (ℕ → ℕ → Option TableEntry) → ℕ → Interval → Pages → Type 0
Blocked seq table m y r =
    (y.seq ≡ seq y.proc) × (is_odd (seq y.proc) ≡ true) × ((v : ℕ) → covers r v ≡ true → table m v ≡ None)

-- an interval at this stage is told of invalidations, or will be as soon as its insert is made
abbrev pub listens : Stage → Bool
listens InTree = true
listens InsertDeferred = true
listens RemoveDeferred = false
listens Removed = false
listens Out = false

-- an invalidation under way misses nobody: each mirror that it overlaps is still to be told, or is blocked
pub record GuardRules (s : Sequences) (table : ℕ → ℕ → Option TableEntry) : Type 0 where
  pub waits : (m v : ℕ) (y : Interval) → s.interval m ≡ Some y → deferred_state y.stage ≡ true → table m v ≡ None
  pub guarded : (a m : ℕ) (g : Guarded) (y : Interval) → s.guard a ≡ Some g → s.interval m ≡ Some y
      → listens y.stage ≡ true → y.proc ≡ g.proc → overlap y.window g.span ≡ true
      → Pending g m ⊎ Blocked s.seq table m y g.span

-- the tables of mirrors: only attached ones have entries, each in the window, of what the place stands for, and of the
-- system's frames and the mirror's device
pub record Entered (to : Frame → Option Frame) (x : MirrorState) (e : TableEntry) (v : ℕ)
    (place : Place) : Type 0 where
  pub in_window : covers x.window v ≡ true
  pub matches : Matches to e.target e.right place
  pub own_device : is_for_device e.target x.dev ≡ true

-- tables have entries only of attached mirrors, and each entry fits the place of its page
pub record TableRules (mirrors : ℕ → Option MirrorState) (table : ℕ → ℕ → Option TableEntry)
    (place : ℕ → ℕ → Place) (to : Frame → Option Frame) : Type 0 where
  pub unattached : (m v : ℕ) → mirror_passes is_attached_state (mirrors m) ≡ false → table m v ≡ None
  pub entered : (m v : ℕ) (e : TableEntry) (x : MirrorState) → table m v ≡ Some e → mirrors m ≡ Some x
      → Entered to x e v (place x.proc v)

-- a table entry stands from its look-up, since which nobody was told
pub record PastRules (n : ℕ) (past : Past) : Type 0 where
  pub told_below : (m v : ℕ) → past.told m v ≤ n
  pub begun_below : (a m i : ℕ) → past.begun a m ≡ Some i → i < n

-- nobody told the mirror of an entry's page since the look-up that made the entry
pub record UntoldRules (table : ℕ → ℕ → Option TableEntry) (told : ℕ → ℕ → ℕ) (rightly : ℕ → ℕ → Bool) : Type 0 where
  pub untold : (m v : ℕ) (e : TableEntry) → table m v ≡ Some e → told m v ≤ e.from
  pub set_rightly : (m v : ℕ) (e : TableEntry) → table m v ≡ Some e → rightly m v ≡ true

-- what holds of the state after every history of allowed entries. Each rule reads the parts that it is about, so an
-- entry that leaves these alone keeps it
pub record Sound (c : Program) (s : After) (t : Past) : Type 0 where
  pub locks : LockRules s.locks.map
  pub places : PlaceRules s.places.place s.places.placed
  pub frames : FrameRules s.places.place s.places.held s.places.committed_to s.locks.frame
  pub pools : PoolRules c s.places.held s.places.withdrawn s.places.removed
  pub processes : ProcessRules s.plain.there s.plain.been s.plain.named s.plain.areas t.namer
  pub areas : AreaRules s.plain.there s.plain.been s.plain.areas t.namer s.places.place
  pub reads : ContentsRules s.plain.there s.plain.bytes s.places.place s.places.committed_to s.contents
  pub untouched : UntouchedRules s.plain.there s.plain.areas s.plain.bytes s.places.place s.locks.map
  pub mirrors : MirrorRules s.plain.mirrors s.sequences.interval s.places.device
  pub arrivals : ArrivalRules s.plain.been s.plain.mirrors
  pub sequences : SequenceRules s.sequences
  pub guards : GuardRules s.sequences s.places.table
  pub tables : TableRules s.plain.mirrors s.places.table s.places.place s.places.committed_to
  pub past : PastRules s.length t
  pub untold : UntoldRules s.places.table t.told t.rightly
