-- What each actor knows at its stack of phases, whatever the others do.
use Rattle.std.specs.Prelude.{◌≡◌, ℕ, ◌<◌, ◌≤◌, Bool, true, false, not, ◌&&◌, ◌||◌, ◌==◌, is_some, Option, Some, None}
use Rattle.std.specs.Prelude.{List, [], ◌∷◌, nat_lt, nat_le, if◌then◌else◌, ◌++◌, ⊤, ◌⊎◌}
use Rattle.std.specs.List.{list_any, list_all}
use Rattle.hm_base.specs.Pages.{Pages, one_page, all_pages, covers}
use Rattle.hm_base.specs.Areas.{last_of}
use Rattle.hm_base.specs.Program.{Program}
use Rattle.hm_base.specs.declared.Frame.{Frame}
use Rattle.hm_base.specs.declared.Place.{Place}
use Rattle.hm_base.specs.declared.ops.Op.{Op}
use Rattle.hm_base.specs.declared.ops.Rights.{Rights}
use Rattle.hm_history.specs.Memory.Words.{writable, is_empty_place, same_frame, names, names_directly, moving_frame}
use Rattle.hm_history.specs.Memory.Words.{dev_frame, page_of}
use Rattle.hm_history.specs.Memory.Plain.{Plain, rights_of, is_read_write, area_refusal, mirror_passes, is_attached}
use Rattle.hm_history.specs.Memory.Plain.{is_detaching_state, mirror_proc, mirror_dev, proc_of}
use Rattle.hm_history.specs.Memory.Places.{is_for_device, is_exclusive_by}
use Rattle.hm_history.specs.Memory.Sequences.{Guarded, is_above, interval_seq}
use Rattle.hm_history.specs.Kernel.Legal.{was_fresh}
use Rattle.hm_history.specs.Memory.Contents.{zeros}
use Rattle.hm_history.specs.Memory.After.{After}
use Rattle.hm_history.specs.Kernel.Operation.{op_piece, op_mirror, op_who, is_evicting, is_remove, is_migration}
use Rattle.hm_history.specs.Kernel.Going.{Going, op_at, touch_page}
use Rattle.hm_history.specs.declared.Who.{Who}
use Rattle.hm_laws.specs.Stood.{lock_on, is_moving, Matches}
use Rattle.hm_history.specs.Kernel.Due.{proc_of_op, child_of, process_seq, right_of, pool_of, has_no_frame}
use Rattle.hm_history.specs.declared.phases.Migrating.{Migrating}
use Rattle.hm_history.specs.declared.phases.MoveStep.{MoveStep}
use Rattle.hm_history.specs.declared.phases.Touch.{Touch}
use Rattle.hm_history.specs.declared.phases.Body.{Body}
use Rattle.hm_history.specs.declared.phases.Phase.{Phase}
use Rattle.hm_laws.specs.Past.{Past}
pub use Rattle.hm_laws.specs.Shapes.{is_cpu, is_device_access, has_piece, takes_lock, is_detach, is_snap, is_attach}
pub use Rattle.hm_laws.specs.Shapes.{begins, is_fork, takes_exclusive, is_add, zaps, narrows, widens, op_span, at_page}
pub use Rattle.hm_laws.specs.Shapes.{is_core, of_system, is_zero_place}
use Rattle.hm_laws.specs.Sound.{has_met}
use Rattle.hm_laws.specs.Allowed.{shows, CleanBut, Clean, ReadsThere, WritesThere, HasChild, Alike, OwnsFrame, IsSource}
use Rattle.hm_laws.specs.Allowed.{IsFrozen}
use Rattle.hm_laws.specs.Records.{same_step, is_past, is_nil, starts_empty, op_range, pages_below, WellListed, staged}
use Rattle.hm_laws.specs.Records.{parts_of, has_source, has_pair, has_fresh, apart_from}
use Rattle.hm_laws.specs.Moves.{Parts, IsReturning, IsReturned}

-- one thing that an actor may know. Facts are data, so that what is known at a phase is a list that a test can go
-- through
pub data Fact : Type 0 where
  Is : (test : Bool) → Fact
  No_map_lock : Fact
  Read_locked : (who : Who) → Fact
  May_store : (who : Who) → (page : ℕ) → Fact
  Writes : (proc : ℕ) → Fact
  Not_refused : (op : Op) → Fact
  Emptying : (proc : ℕ) → (span : Pages) → (upto : ℕ) → Fact
  Narrowing : (proc : ℕ) → (span : Pages) → (upto : ℕ) → Fact
  Forking : (proc child upto : ℕ) → Fact
  Halfway : (half : Bool) → (proc page : ℕ) → Fact
  No_guard : Fact
  In_guard : (proc : ℕ) → (span : Pages) → (overlapped : Bool) → (told : Option ℕ) → Fact
  Over : (proc : ℕ) → (span : Pages) → (of : ℕ) → (whole : Pages) → Fact
  Over_page : (proc : ℕ) → (span : Pages) → (who : Who) → (page : ℕ) → Fact
  Locks_only : (frames : List Frame) → Fact
  Owns : (frame : Frame) → Fact
  Zeroed : (frame : Frame) → Fact
  Copy_of : (frame : Frame) → (who : Who) → (page : ℕ) → Fact
  Sourced : (frame : Frame) → Fact
  Copying : (from to : Frame) → (parts : ℕ) → Fact
  Coming_back : (from to : Frame) → Fact
  Back : (frame : Frame) → Fact
  May_read : (who : Who) → (page : ℕ) → Fact
  Clearing : (op : Op) → (upto : ℕ) → Fact
  Gone : (op : Op) → Fact
  Emptied : (count : ℕ) → Fact
  Leaving : (mirror : ℕ) → Fact
  Touching : (op : Op) → (touch : Touch) → Fact
  Noted : (mirror page seq : ℕ) → (place : Place) → Fact
  Fetched_at : (mirror at was : ℕ) → Fact
  -- of a migration, which has many frames and pages under way at once
  Frozen : (frame : Frame) → Fact
  Frozen_at : (who : Who) → (page : ℕ) → (frame : Frame) → Fact
  Own_at : (who : Who) → (page : ℕ) → (frame : Frame) → Fact
  Lands_on : (op : Op) → (frame : Frame) → Fact
  Windowed : (mirror page : ℕ) → Fact
  Framed : (who : Who) → (page : ℕ) → Fact
  Windowed_all : (mirror : ℕ) → (span : Pages) → Fact
  Over_span : (proc : ℕ) → (span : Pages) → (who : Who) → (whole : Pages) → Fact
  Listed : (records : List Migrating) → Fact
  Never : Fact

-- the guard that an actor has under way, whose mirrors are told up to this one
pub record Guarding (guard : ℕ → Option Guarded) (a p : ℕ) (r : Pages) (overlapped : Bool)
    (last : Option ℕ) : Type 0 where
  pub given : Guarded
  pub is : guard a ≡ Some given
  pub proc : given.proc ≡ p
  pub span : given.span ≡ r
  pub met_some : has_met given ≡ overlapped
  pub upto : (m : ℕ) → list_any (λ k. k == m) given.met ≡ true → is_above last m ≡ false
      → list_any (λ k. k == m) given.told ≡ true
  pub below : list_all (λ k. not (is_above last k)) given.told ≡ true

-- the span's pages below this one have no place any more
abbrev pub EmptyBelow : After → ℕ → Pages → ℕ → Type 0
EmptyBelow s p r n = (u : ℕ) → covers r u ≡ true → u < n → is_empty_place (s.places.place p u) ≡ true

-- the span's pages below this one have no write right any more
abbrev pub NarrowBelow : After → ℕ → Pages → ℕ → Type 0
NarrowBelow s p r n = (u : ℕ) → covers r u ≡ true → u < n → writable (s.places.place p u) ≡ false

-- what a page shows is in the frame
abbrev pub ShownIn : After → Frame → Place → Type 0
ShownIn s f x = (o : ℕ) → o < 4096 → s.contents f o ≡ shows s x o

-- a mirror that was attached at some time has its process for good
abbrev pub HasProc : Plain → Who → Type 0
HasProc s (Who.Cpu p) = ⊤
HasProc s (Who.Mirror m) = is_some (s.mirrors m) ≡ true

-- the page lies in the mirror's window, which it keeps
abbrev pub Within : Plain → ℕ → ℕ → Type 0
Within s m v = mirror_passes (λ x. covers x.window v) (s.mirrors m) ≡ true

-- a look-up under way, begun at this position with this sequence: that is below its process's, and as long as it is
-- the interval's nobody was told since
abbrev pub Looks : After → Past → ℕ → ℕ → ℕ → ℕ → Type 0
Looks s t a m at q =
    (t.begun a m ≡ Some at) × (q < process_seq s m) × (interval_seq s.sequences m ≡ q → (v : ℕ) → t.told m v ≤ at)

-- an access by the CPU, or through a mirror after a look-up began
abbrev pub Touches : After → Past → ℕ → Op → Touch → Type 0
Touches s t a o (Touch.Cpu k) = (is_cpu o && has_piece o k) ≡ true
Touches s t a o (Touch.Walk k at q) =
    ((is_device_access o && has_piece o k) ≡ true) × Within s.plain (op_mirror o) (touch_page o (Touch.Walk k at q))
    × Looks s t a (op_mirror o) at q
Touches s t a o Touch.Sole = (takes_exclusive o ≡ true) × Within s.plain (op_mirror o) (touch_page o Touch.Sole)

-- what was noted is what the page's place stands for, which is no migration entry, and allows no more
abbrev pub StandsStill : After → ℕ → ℕ → Place → Type 0
StandsStill s m v x =
    Matches s.places.committed_to (names x) (right_of (writable x)) (s.places.place (mirror_proc s.plain m) v)
    × (is_moving (s.places.place (mirror_proc s.plain m) v) ≡ false)

-- a frame is free, or the actor is emptying it; a removal has come to this frame of a device that is withdrawn
abbrev pub Clear : After → ℕ → Frame → Type 0
Clear s a f = (s.places.held f ≡ false) ⊎ (s.locks.frame f ≡ Some a)

-- a removal's device is withdrawn; other operations ask nothing here
abbrev pub GoneFor : After → Op → Type 0
GoneFor s (Op.Remove d) = s.places.withdrawn d ≡ true
GoneFor s o = ⊤

-- a removal has left each frame of its device below this one clear
abbrev pub ClearTo : After → ℕ → Op → ℕ → Type 0
ClearTo s a (Op.Remove d) v = (k : ℕ) → k < v → (s.places.withdrawn d ≡ true) × Clear s a (dev_frame d k)
ClearTo s a o v = ⊤

-- what a fact says of a state, its past and an actor
abbrev pub Holds : After → Past → ℕ → Fact → Type 0
Holds s t a (Is b) = b ≡ true
Holds s t a No_map_lock = s.locks.map a ≡ None
Holds s t a (Read_locked x) = HasProc s.plain x × (s.locks.map a ≡ lock_on (proc_of s.plain x) false)
Holds s t a (May_store x v) =
    HasProc s.plain x × ReadsThere s a (proc_of s.plain x)
    × (is_read_write (rights_of s.plain (proc_of s.plain x) v) ≡ true)
Holds s t a (Writes p) = WritesThere s a p × Clean s p
Holds s t a (Not_refused o) = WritesThere s a (proc_of_op o) × (area_refusal s.plain o ≡ None)
Holds s t a (Emptying p r n) = WritesThere s a p × CleanBut s p r × EmptyBelow s p r n
Holds s t a (Narrowing p r n) = WritesThere s a p × Clean s p × NarrowBelow s p r n
Holds s t a (Forking p d n) =
    WritesThere s a p × Clean s p × HasChild s t a d × ((u : ℕ) → u < n → Alike s p d u)
    × ((u : ℕ) → n ≤ u → is_empty_place (s.places.place d u) ≡ true)
Holds s t a (Halfway half p v) =
    WritesThere s a p
    × (half ≡ true → (writable (s.places.place p v) ≡ false) × (is_empty_place (s.places.place p v) ≡ false))
Holds s t a No_guard = s.sequences.guard a ≡ None
Holds s t a (In_guard p r met told) = Guarding s.sequences.guard a p r met told
Holds s t a (Over p r q whole) = (p ≡ q) × (r ≡ whole)
Holds s t a (Over_page p r x v) = HasProc s.plain x × (p ≡ proc_of s.plain x) × (r ≡ one_page v)
Holds s t a (Locks_only l) = (f : Frame) → s.locks.frame f ≡ Some a → list_any (same_frame f) l ≡ true
Holds s t a (Owns f) = OwnsFrame s a f
Holds s t a (Zeroed f) = OwnsFrame s a f × (s.contents f ≡ zeros)
Holds s t a (Copy_of f x v) =
    HasProc s.plain x × ReadsThere s a (proc_of s.plain x) × OwnsFrame s a f
    × (writable (s.places.place (proc_of s.plain x) v) ≡ false → ShownIn s f (s.places.place (proc_of s.plain x) v))
Holds s t a (Sourced f) = IsSource s a f
Holds s t a (Copying f g k) = IsFrozen s a f × OwnsFrame s a g × Parts s f g k × (f ≡ g → ⊥)
Holds s t a (Coming_back f g) = IsReturning s a f g
Holds s t a (Back g) = IsReturned s a g
Holds s t a (Clearing o v) = ClearTo s a o v
Holds s t a (Gone o) = GoneFor s o
Holds s t a (Emptied n) = n ≤ s.length
Holds s t a (May_read x v) =
    HasProc s.plain x × ReadsThere s a (proc_of s.plain x)
    × (is_some (rights_of s.plain (proc_of s.plain x) v) ≡ true)
Holds s t a (Leaving m) = (t.leaver m ≡ Some a) × (mirror_passes is_detaching_state (s.plain.mirrors m) ≡ true)
Holds s t a (Touching o touch) = Touches s t a o touch
Holds s t a (Noted m v q x) =
    Within s.plain m v × (q < process_seq s m) × (is_for_device (names x) (mirror_dev s.plain m) ≡ true)
    × (is_attached s.plain m ≡ true → interval_seq s.sequences m ≡ q → StandsStill s m v x)
Holds s t a (Frozen f) = IsFrozen s a f
Holds s t a (Frozen_at x v f) =
    HasProc s.plain x × ReadsThere s a (proc_of s.plain x) × (s.locks.frame f ≡ Some a)
    × (moving_frame (s.places.place (proc_of s.plain x) v) ≡ Some f)
Holds s t a (Own_at x v g) =
    HasProc s.plain x × ReadsThere s a (proc_of s.plain x) × (s.locks.frame g ≡ Some a) × (of_system g ≡ false)
    × (names_directly (s.places.place (proc_of s.plain x) v) ≡ Some g)
Holds s t a (Lands_on o g) = HasProc s.plain (Who.Mirror (op_mirror o)) × (g.pool ≡ pool_of s o)
Holds s t a (Windowed m v) = Within s.plain m v
Holds s t a (Framed x v) =
    HasProc s.plain x × ReadsThere s a (proc_of s.plain x)
    × (has_no_frame (s.places.place (proc_of s.plain x) v) ≡ false)
Holds s t a (Windowed_all m r) = (v : ℕ) → covers r v ≡ true → Within s.plain m v
Holds s t a (Over_span p r x whole) = HasProc s.plain x × (p ≡ proc_of s.plain x) × (r ≡ whole)
Holds s t a (Listed xs) = WellListed xs
Holds s t a (Fetched_at m at was) =
    HasProc s.plain (Who.Mirror m)
    × (is_exclusive_by (s.places.place (mirror_proc s.plain m) (page_of at)) a ≡ true
    → s.plain.bytes (mirror_proc s.plain m) at ≡ was)
Holds s t a Never = ⊥

-- between operations and pieces an actor holds nothing
abbrev pub nothing_held : List Fact
nothing_held = No_map_lock ∷ No_guard ∷ Locks_only [] ∷ []

-- what an actor knows when a fault decides what to do
abbrev pub deciding : Op → Touch → List Fact
deciding o touch = Touching o touch ∷ Read_locked (op_who o) ∷ No_guard ∷ Locks_only [] ∷ []

-- an operation under the write lock, before and in its guard
abbrev pub zapping : Op → ℕ → List Fact
zapping o n =
    Is (zaps o) ∷ Is (nat_le (op_span o).first n) ∷ Not_refused o ∷ Emptying (proc_of_op o) (op_span o) n ∷ []

-- a protection that takes the write right, with the page that it has come to
abbrev pub narrowing : Op → ℕ → List Fact
narrowing o n =
    Is (narrows o) ∷ Is (nat_le (op_span o).first n) ∷ Not_refused o ∷ Narrowing (proc_of_op o) (op_span o) n ∷ []

-- a protection that gives the write right
abbrev pub widening : Op → List Fact
widening o = Is (widens o) ∷ Not_refused o ∷ Writes (proc_of_op o) ∷ []

-- a fork, with the page that it has come to, and whether that page has the parent's half done
abbrev pub forking : Op → ℕ → Bool → List Fact
forking o n half = Is (is_fork o) ∷ Halfway half (proc_of_op o) n ∷ Forking (proc_of_op o) (child_of o) n ∷ []

-- and when its answer is next
abbrev pub answering : Op → List Fact
answering (Op.Unmap p r) = zapping (Op.Unmap p r) (last_of r)
answering (Op.Exit p) = zapping (Op.Exit p) (last_of all_pages)
answering (Op.Protect p r Rights.Read) = narrowing (Op.Protect p r Rights.Read) (last_of r)
answering (Op.Protect p r Rights.ReadWrite) = widening (Op.Protect p r Rights.ReadWrite)
answering (Op.Fork p c) = forking (Op.Fork p c) (last_of all_pages) false
answering (Op.Exclusive m v) = Read_locked (Who.Mirror m) ∷ []
answering (Op.Add m at n) = Read_locked (Who.Mirror m) ∷ []
answering o = Never ∷ []

-- a removal catches the frame that it has come to, and does not go on if one is kept
abbrev pub catches_at : Op → Frame → ℕ → Bool
catches_at (Op.Remove d) f v = same_frame f (dev_frame d v)
catches_at o f v = true

-- an emptying's frame is the one that its removal has come to; another operation may empty any frame
abbrev pub catches : Op → Frame → List Phase → Bool
catches o f (Phase.Frames v n ∷ []) = catches_at o f v
catches o f below = true

-- a removal does not go on past a frame that it could not empty; an eviction does
abbrev pub keeps_on : Op → List Phase → Bool
keeps_on o (Phase.Frames v n ∷ []) = not (is_remove o)
keeps_on o below = true

-- what stands below while a frame is emptied: a fault, an eviction or a removal, or the giving up of one of them
abbrev pub under : Op → List Phase → List Fact
under o (Phase.Decide touch ∷ []) = Touching o touch ∷ May_read (op_who o) (touch_page o touch) ∷ []
under o (Phase.GiveUp (Some touch) ∷ []) = Touching o touch ∷ May_read (op_who o) (touch_page o touch) ∷ []
under o (Phase.Frames v n ∷ []) = Is (is_evicting o) ∷ Clearing o v ∷ Gone o ∷ No_map_lock ∷ Emptied n ∷ []
under o (Phase.GiveUp None ∷ []) = Is (is_remove o) ∷ No_map_lock ∷ []
under o _ = Never ∷ []

-- pages return to a system frame, but in a migration
abbrev pub returns_to : Op → Frame → Bool
returns_to o g = of_system g || is_migration o

-- what a record says of its page: whose place it has, and which frames are the migration's
abbrev pub known_of : Op → ℕ → Option Frame → Option Frame → Bool → Bool → Bool → Bool → Option (Frame × ℕ)
    → List Fact
known_of o v None None _ _ _ _ _ = May_read (Who.Mirror (op_mirror o)) v ∷ []
known_of o v None (Some g) false _ past_commit _ _ =
    if past_commit then [] else Zeroed g ∷ May_read (Who.Mirror (op_mirror o)) v ∷ Lands_on o g ∷ []
known_of o v None (Some g) true _ _ past_finish _ =
    if past_finish then [] else Back g ∷ Own_at (Who.Mirror (op_mirror o)) v g ∷ Lands_on o g ∷ []
known_of o v (Some f) None _ past_freezing _ past_finish _ =
    if past_finish then []
    else (if past_freezing then Frozen f else Sourced f) ∷ Frozen_at (Who.Mirror (op_mirror o)) v f ∷ []
known_of o v (Some f) (Some g) false _ _ past_finish hand =
    if past_finish then [] else Copying f g (parts_of hand g)
    ∷ Frozen_at (Who.Mirror (op_mirror o)) v f
    ∷ Lands_on o g
    ∷ []
known_of o v (Some f) (Some g) true _ _ past_finish _ =
    if past_finish then [] else Coming_back f g ∷ Frozen_at (Who.Mirror (op_mirror o)) v f ∷ Lands_on o g ∷ []

-- what is known of a record, by which steps are past for its page
abbrev pub facts_past : Op → Bool → Bool → Bool → Bool → Option (Frame × ℕ) → Migrating → List Fact
facts_past o past_freezing past_taking past_commit past_finish hand x =
    Is (staged o past_taking past_commit x) ∷ Windowed (op_mirror o) x.page
    ∷ known_of o x.page x.source x.dest x.moved past_freezing past_commit past_finish hand

-- what a migration knows of one record, by the step and the page to which it has come
abbrev pub record_facts : Op → MoveStep → ℕ → Option (Frame × ℕ) → Migrating → List Fact
record_facts o step next hand x =
    facts_past o (is_past step next MoveStep.FreezeOthers x.page) (is_past step next MoveStep.TakeAndCopy x.page)
    (is_past step next MoveStep.Commit x.page) (is_past step next MoveStep.Finish x.page) hand x

-- the same of all its records
abbrev pub records : Op → MoveStep → ℕ → Option (Frame × ℕ) → List Migrating → List Fact
records o step next hand [] = []
records o step next hand (x ∷ xs) = record_facts o step next hand x ++ records o step next hand xs

-- the frames of which facts say that the actor has them locked
abbrev pub fact_frames : Fact → List Frame
fact_frames (Owns f) = f ∷ []
fact_frames (Zeroed f) = f ∷ []
fact_frames (Sourced f) = f ∷ []
fact_frames (Frozen f) = f ∷ []
fact_frames (Back f) = f ∷ []
fact_frames (Copying f g n) = f ∷ g ∷ []
fact_frames (Coming_back f g) = f ∷ g ∷ []
fact_frames x = []

-- the frames that a list of facts says the actor has locked
abbrev pub frames_of : List Fact → List Frame
frames_of [] = []
frames_of (x ∷ l) = fact_frames x ++ frames_of l

-- a migration that has come to a page in a step: the process is locked for reading, and of each page's record what the
-- steps so far made of it
abbrev pub migrating : Op → List Migrating → MoveStep → ℕ → Option (Frame × ℕ) → List Fact
migrating o xs step next hand =
    Is (is_migration o) ∷ Listed xs ∷ Read_locked (Who.Mirror (op_mirror o)) ∷ records o step next hand xs

-- the frames of its records that it has locked
abbrev pub held : Op → List Migrating → MoveStep → ℕ → Option (Frame × ℕ) → List Frame
held o xs step next hand = frames_of (records o step next hand xs)

-- what stands below while the pages of a frame return, beside frames in hand: one of those, or a migration
abbrev pub held_under : Op → List Migrating → List Phase → List Frame
held_under o xs (Phase.Moves step v ∷ []) = held o xs step v None
held_under o xs below = []

-- what is known below while a frame's pages return: the same as under an emptying, or a migration's last step
abbrev pub beneath : Op → List Migrating → List Frame → List Phase → List Fact
beneath o xs l (Phase.Moves step v ∷ []) =
    Is (same_step step MoveStep.Finish) ∷ Is (apart_from l (held o xs step v None)) ∷ migrating o xs step v None
beneath o xs l below = under o below

-- before the first guard of a migration
abbrev pub readying : Op → List Migrating → List Fact
readying (Op.ToDevice m r) xs = Is (is_nil xs) ∷ Read_locked (Who.Mirror m) ∷ Windowed_all m r ∷ []
readying (Op.ToSystem m r) xs = Is (is_nil xs) ∷ Read_locked (Who.Mirror m) ∷ Windowed_all m r ∷ []
readying o xs = forking o 0 false

-- what an actor knows at each stack of phases that there is; no phases are the end of an operation
abbrev pub facts : Op → List Migrating → List Phase → List Fact
facts o xs [] = nothing_held
facts o xs (Phase.Begin ∷ []) = Is (begins o && starts_empty o xs) ∷ nothing_held
facts o xs (Phase.Detaching q ∷ []) = Is (is_detach o) ∷ Leaving (op_mirror o) ∷ nothing_held
facts o xs (Phase.Pages v ∷ []) =
    Is (is_snap o) ∷ Read_locked (Who.Mirror (op_mirror o)) ∷ No_guard ∷ Locks_only [] ∷ []
facts o xs (Phase.Locked ∷ []) = No_guard ∷ Locks_only [] ∷ Is (takes_lock o) ∷ Writes (proc_of_op o) ∷ []
facts o xs (Phase.Ready ∷ []) = No_guard ∷ Locks_only [] ∷ readying o xs
facts o xs (Phase.Answer ∷ []) = No_guard ∷ Locks_only [] ∷ answering o
facts o xs (Phase.Guard q r met told (Body.Zap n) ∷ Phase.Answer ∷ []) =
    In_guard q r met told ∷ Locks_only [] ∷ Over q r (proc_of_op o) (op_span o) ∷ zapping o n
facts o xs (Phase.Drop f ∷ Phase.Guard q r met told (Body.Zap n) ∷ Phase.Answer ∷ []) =
    Owns f ∷ In_guard q r met told ∷ Locks_only (f ∷ []) ∷ Over q r (proc_of_op o) (op_span o) ∷ zapping o n
facts o xs (Phase.Guard q r met told (Body.Narrow n) ∷ Phase.Answer ∷ []) =
    In_guard q r met told ∷ Locks_only [] ∷ Over q r (proc_of_op o) (op_span o) ∷ narrowing o n
facts o xs (Phase.Guard q r met told (Body.Fork n half) ∷ Phase.Answer ∷ []) =
    In_guard q r met told ∷ Locks_only [] ∷ Over q r (proc_of_op o) (op_span o) ∷ forking o n half
facts o xs (Phase.Guard q r met told Body.Nothing ∷ Phase.Answer ∷ []) =
    In_guard q r met told ∷ Locks_only [] ∷ Over q r (proc_of_op o) (op_span o) ∷ widening o
facts o xs (Phase.Piece k ∷ []) = Is (has_piece o k) ∷ nothing_held
facts o xs (Phase.Fetched was ∷ []) = Is (is_add o) ∷ Fetched_at (op_mirror o) (op_piece o 0).0 was ∷ nothing_held
facts o xs (Phase.Begun k at q ∷ []) = Touching o (Touch.Walk k at q) ∷ nothing_held
facts o xs (Phase.Noted k at q x ∷ []) =
    Touching o (Touch.Walk k at q) ∷ Noted (op_mirror o) (at_page o k) q x ∷ nothing_held
facts o xs (Phase.Decide touch ∷ []) = deciding o touch
facts o xs (Phase.Taken touch g Place.Zero ∷ []) = Never ∷ []
facts o xs (Phase.Taken touch g over ∷ []) =
    Touching o touch
    ∷ May_store (op_who o) (touch_page o touch)
    ∷ No_guard
    ∷ Locks_only (g ∷ [])
    ∷ Zeroed g
    ∷ Is (is_core over)
    ∷ Is (not (writable over))
    ∷ Is (of_system g)
    ∷ []
facts o xs (Phase.Armed touch g over ∷ []) =
    Touching o touch
    ∷ May_store (op_who o) (touch_page o touch)
    ∷ No_guard
    ∷ Locks_only (g ∷ [])
    ∷ Copy_of g (op_who o) (touch_page o touch)
    ∷ Is (is_core over)
    ∷ Is (not (writable over))
    ∷ Is (of_system g)
    ∷ []
facts o xs (Phase.Guard q r met told (Body.Replace over g) ∷ Phase.Decide touch ∷ []) =
    In_guard q r met told
    ∷ Locks_only (g ∷ [])
    ∷ Over_page q r (op_who o) (touch_page o touch)
    ∷ Touching o touch
    ∷ May_store (op_who o) (touch_page o touch)
    ∷ Copy_of g (op_who o) (touch_page o touch)
    ∷ Is (is_core over)
    ∷ Is (not (writable over))
    ∷ Is (of_system g)
    ∷ []
facts o xs (Phase.Guard q r met told Body.Nothing ∷ Phase.Decide touch ∷ []) =
    In_guard q r met told
    ∷ Locks_only []
    ∷ Over_page q r (op_who o) (touch_page o touch)
    ∷ Touching o touch
    ∷ Read_locked (op_who o)
    ∷ []
facts o xs (Phase.Guard q r met told Body.Restore ∷ Phase.Decide touch ∷ []) =
    In_guard q r met told
    ∷ Locks_only []
    ∷ Over_page q r (op_who o) (touch_page o touch)
    ∷ Touching o touch
    ∷ Read_locked (op_who o)
    ∷ []
facts o xs (Phase.Guard q r met told (Body.Seize f) ∷ Phase.Decide touch ∷ []) =
    In_guard q r met told
    ∷ Locks_only []
    ∷ Over_page q r (op_who o) (touch_page o touch)
    ∷ Touching o touch
    ∷ Read_locked (op_who o)
    ∷ []
facts o xs (Phase.Drop f ∷ Phase.Guard q r met told Body.Nothing ∷ Phase.Decide touch ∷ []) =
    Owns f
    ∷ In_guard q r met told
    ∷ Locks_only (f ∷ [])
    ∷ Over_page q r (op_who o) (touch_page o touch)
    ∷ Touching o touch
    ∷ Read_locked (op_who o)
    ∷ []
facts o xs (Phase.Drop f ∷ Phase.Decide touch ∷ []) =
    Owns f ∷ No_guard ∷ Locks_only (f ∷ []) ∷ Touching o touch ∷ Read_locked (op_who o) ∷ []
facts o xs (Phase.Frames v n ∷ []) = Is (is_evicting o) ∷ Clearing o v ∷ Emptied n ∷ nothing_held
facts o xs (Phase.GiveUp touch ∷ []) = No_guard ∷ Locks_only [] ∷ under o (Phase.GiveUp touch ∷ [])
facts o xs (Phase.Guard q r met told (Body.Catch f) ∷ below) =
    In_guard q r met told ∷ Locks_only [] ∷ Is (nat_lt 0 r.count) ∷ Is (catches o f below) ∷ under o below
facts o xs (Phase.Guard q r met told (Body.Freeze f) ∷ Phase.Emptying g at ∷ below) =
    In_guard q r met told
    ∷ Locks_only (g ∷ [])
    ∷ Is (nat_lt 0 r.count)
    ∷ Is (same_frame f g)
    ∷ Sourced g
    ∷ under o below
facts o xs (Phase.Guard q r met told Body.Nothing ∷ Phase.Emptying f at ∷ below) =
    In_guard q r met told ∷ Locks_only (f ∷ []) ∷ Sourced f ∷ under o below
facts o xs (Phase.Emptying f at ∷ below) = No_guard ∷ Locks_only (f ∷ []) ∷ Sourced f ∷ under o below
facts o xs (Phase.Copy f g k ∷ Phase.Copied i j ∷ below) =
    Is (same_frame f i)
    ∷ Is (same_frame g j)
    ∷ Is (nat_le k 7)
    ∷ No_guard
    ∷ Locks_only (i ∷ j ∷ [])
    ∷ Copying i j k
    ∷ Is (of_system j)
    ∷ under o below
facts o xs (Phase.Copied f g ∷ below) =
    No_guard ∷ Locks_only (f ∷ g ∷ []) ∷ Copying f g 8 ∷ Is (of_system g) ∷ under o below
facts o xs (Phase.Finish f None ∷ below) =
    No_guard
    ∷ Locks_only (f ∷ held_under o xs below)
    ∷ Sourced f
    ∷ Is (keeps_on o below)
    ∷ beneath o xs (f ∷ []) below
facts o xs (Phase.Finish f (Some g) ∷ below) =
    No_guard
    ∷ Locks_only (f ∷ g ∷ held_under o xs below)
    ∷ Coming_back f g
    ∷ Is (returns_to o g)
    ∷ beneath o xs (f ∷ g ∷ []) below
facts o xs (Phase.Settle g ∷ below) =
    No_guard ∷ Locks_only (g ∷ held_under o xs below) ∷ Back g ∷ Is (returns_to o g) ∷ beneath o xs (g ∷ []) below
facts o xs (Phase.Moves step v ∷ []) = No_guard ∷ Locks_only (held o xs step v None) ∷ migrating o xs step v None
facts o xs (Phase.Guard q r met told (Body.Select n) ∷ Phase.Moves step v ∷ []) =
    In_guard q r met told
    ∷ Locks_only (held o xs step v None)
    ∷ Over_span q r (Who.Mirror (op_mirror o)) (op_range o)
    ∷ Is (same_step step MoveStep.FreezeOthers)
    ∷ Is (v == r.first)
    ∷ Is (nat_le v n)
    ∷ Is (pages_below n xs)
    ∷ Windowed_all (op_mirror o) r
    ∷ migrating o xs step v None
facts o xs (Phase.Guard q r met told (Body.Freeze f) ∷ Phase.Moves step v ∷ []) =
    In_guard q r met told
    ∷ Locks_only (held o xs step v None)
    ∷ Is (nat_lt 0 r.count)
    ∷ Is (same_step step MoveStep.FreezeOthers)
    ∷ Is (has_source f v xs)
    ∷ migrating o xs step v None
facts o xs (Phase.Guard q r met told Body.Nothing ∷ Phase.Moves step v ∷ []) =
    In_guard q r met told ∷ Locks_only (held o xs step v None) ∷ migrating o xs step v None
facts o xs (Phase.Copy f g k ∷ Phase.Moves step v ∷ []) =
    No_guard
    ∷ Locks_only (held o xs step v (Some (g, k)))
    ∷ Is (same_step step MoveStep.TakeAndCopy)
    ∷ Is (nat_le k 7)
    ∷ Is (has_pair f g xs)
    ∷ migrating o xs step v (Some (g, k))
facts o xs (Phase.Guard q r met told (Body.Fresh g) ∷ Phase.Moves step v ∷ []) =
    In_guard q r met told
    ∷ Locks_only (g ∷ held o xs step v None)
    ∷ Is (apart_from (g ∷ []) (held o xs step v None))
    ∷ Is (same_step step MoveStep.Commit)
    ∷ Is (nat_lt r.first v)
    ∷ Is (has_fresh r.first g xs)
    ∷ Over_page q r (Who.Mirror (op_mirror o)) r.first
    ∷ Zeroed g
    ∷ May_read (Who.Mirror (op_mirror o)) r.first
    ∷ Lands_on o g
    ∷ migrating o xs step v None
facts o xs (Phase.Lost u g ∷ Phase.Moves step v ∷ []) =
    No_guard
    ∷ Locks_only (g ∷ held o xs step v None)
    ∷ Is (apart_from (g ∷ []) (held o xs step v None))
    ∷ Is (was_fresh u xs)
    ∷ Framed (Who.Mirror (op_mirror o)) u
    ∷ Owns g
    ∷ migrating o xs step v None
facts o xs (Phase.Drop g ∷ Phase.Moves step v ∷ []) =
    No_guard
    ∷ Locks_only (g ∷ held o xs step v None)
    ∷ Is (apart_from (g ∷ []) (held o xs step v None))
    ∷ Owns g
    ∷ migrating o xs step v None
facts o xs _ = Never ∷ []

-- what an actor knows in its operation, and between two operations
abbrev pub facts_of : Option Op → List Migrating → List Phase → List Fact
facts_of None xs st = nothing_held
facts_of (Some o) xs st = facts o xs st

-- each fact of a list holds
abbrev pub HoldsAll : After → Past → ℕ → List Fact → Type 0
HoldsAll s t a [] = ⊤
HoldsAll s t a (x ∷ l) = Holds s t a x × HoldsAll s t a l

-- an actor's stack is one of those, and it knows what stands there
abbrev pub Knows : Program → After → Past → ℕ → Going → Type 0
Knows c s t a g = HoldsAll s t a (facts_of (op_at c a g.index) g.pages g.stack)
