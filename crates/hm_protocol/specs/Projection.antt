-- The events of a history: what its entries tell of the driver. A legal history is that of a right driver.
use Rattle.std.specs.Prelude.{ℕ, Bool, true, false, not, ◌&&◌, ◌||◌, if◌then◌else◌, Option, Some, None, is_some}
use Rattle.std.specs.Prelude.{is_none, List, [], ◌∷◌, ◌++◌, fold, map, filter, flat_map}
use Rattle.hm_base.specs.Pages.{Pages, one_page}
use Rattle.hm_base.specs.Program.{Program}
use Rattle.hm_base.specs.declared.Frame.{Frame}
use Rattle.hm_base.specs.declared.PoolId.{PoolId}
use Rattle.hm_base.specs.declared.Place.{Place}
use Rattle.hm_base.specs.declared.ops.Op.{Op}
use Rattle.hm_history.specs.Memory.Words.{numbers, page_of, names, writable}
use Rattle.hm_history.specs.Memory.Plain.{rights_of, is_read_write, mirror_proc, mirror_dev}
use Rattle.hm_history.specs.Memory.Sequences.{interval_seq}
use Rattle.hm_history.specs.Memory.After.{After}
use Rattle.hm_history.specs.Kernel.Operation.{op_piece, op_mirror, is_to_device, is_migration, is_evicting}
use Rattle.hm_history.specs.Kernel.Going.{State, op_at, state_start, state_next, state_of, coming, touch_page}
use Rattle.hm_history.specs.Kernel.Going.{touch_proc}
use Rattle.hm_history.specs.declared.Who.{Who}
use Rattle.hm_history.specs.declared.KeptAt.{KeptAt}
use Rattle.hm_history.specs.declared.KeptWhy.{KeptWhy}
use Rattle.hm_history.specs.declared.Kind.{Kind}
use Rattle.hm_history.specs.declared.Entry.{Entry}
use Rattle.hm_history.specs.declared.phases.Body.{Body}
use Rattle.hm_history.specs.declared.phases.Migrating.{Migrating}
use Rattle.hm_history.specs.declared.phases.MoveStep.{MoveStep}
use Rattle.hm_history.specs.declared.phases.Touch.{Touch}
use Rattle.hm_history.specs.declared.phases.Phase.{Phase}
use Rattle.hm_flaws.specs.declared.flaws.Flaw.{Flaw}
use Rattle.hm_flaws.specs.Flawed.{Flawed, flawed_from, flawed_next, found}
use Rattle.hm_protocol.specs.declared.events.TraceFrame.{TraceFrame}
use Rattle.hm_protocol.specs.declared.events.Reason.{Reason}
use Rattle.hm_protocol.specs.declared.events.Event.{Event}
use Rattle.hm_protocol.specs.declared.events.Traced.{Traced}

-- ---- what the driver erases: what its table had before the entry, and has not after it

-- the pages of a mirror's window
abbrev pub window_of : After → ℕ → List ℕ
window_of s m = elim (s.plain.mirrors m) [ None ↦ [] | Some x ↦ numbers x.window.first x.window.count ]

-- the erased entries of a mirror
abbrev pub erased : After → After → ℕ → List Event
erased s u m = map (λ v. Event.Erase m v)
    (filter (λ v. is_some (s.places.table m v) && is_none (u.places.table m v)) (window_of s m))

-- the erased entries of all mirrors
abbrev pub all_erased : After → After → List Event
all_erased s u = flat_map (erased s u) (numbers 0 32)

-- ---- invalidations

-- the model's frames in a trace: those of a device are its private memory
abbrev pub in_trace : Frame → TraceFrame
in_trace f = elim f.pool [
  | PoolId.System ↦ TraceFrame.System f.number
  | PoolId.Device d ↦ TraceFrame.Private d f.number
]

-- a frame, or none
abbrev pub frame_in_trace : Option Frame → TraceFrame
frame_in_trace None = TraceFrame.Nothing
frame_in_trace (Some f) = in_trace f

-- what a place shows
abbrev pub shown : Place → TraceFrame
shown Place.Zero = TraceFrame.ZeroPage
shown x = frame_in_trace (names x)

-- what a table entry names: no frame is the zero page
abbrev pub entry_frame : Option Frame → TraceFrame
entry_frame None = TraceFrame.ZeroPage
entry_frame (Some f) = in_trace f

-- the owner of a frame of a device
abbrev pub owner_of : Frame → Option ℕ
owner_of f = elim f.pool [ PoolId.System ↦ None | PoolId.Device d ↦ Some d ]

-- why a guard with this body begins, and the device whose driver asked for it
abbrev pub reason_of : After → Op → Body → Reason × Option ℕ
reason_of s (Op.Unmap p r) body = (Reason.Unmap, None)
reason_of s (Op.Protect p r w) body = (Reason.ProtectArea, None)
reason_of s (Op.Fork p child) body = (Reason.ProtectPage, None)
reason_of s (Op.Exit p) body = (Reason.Release, None)
reason_of s o (Body.Select v) = (Reason.Migrate, Some (mirror_dev s.plain (op_mirror o)))
reason_of s o (Body.Fresh g) = (Reason.Migrate, Some (mirror_dev s.plain (op_mirror o)))
reason_of s o (Body.Catch f) = if is_evicting o then (Reason.Clear, None) else (Reason.Migrate, owner_of f)
reason_of s o (Body.Seize f) = (Reason.Exclusive, Some (mirror_dev s.plain (op_mirror o)))
reason_of s o body = (Reason.Clear, None)

-- the body of the guard that has just begun
abbrev pub body_at : Phase → Body
body_at (Phase.Guard p r met told body) = body
body_at top = Body.Nothing

-- ---- look-ups

-- the piece of an access, and the sequence that its look-up has read; 0 if it has read none
abbrev pub piece_and_seq : Phase → ℕ × ℕ
piece_and_seq (Phase.Begun k since q) = (k, q)
piece_and_seq (Phase.Piece k) = (k, 0)
piece_and_seq top = (0, 0)

-- a walk begins with the mmap lock, if the operation is an access through a mirror
abbrev pub walk : After → Bool → Op → ℕ → ℕ × ℕ → List Event
walk s locked o m x =
    Event.Walk m (one_page (page_of (op_piece o x.0).0)) x.1 locked (Some (mirror_dev s.plain m)) ∷ []

-- so it does for these operations alone
abbrev pub walk_of : After → Bool → Op → Phase → List Event
walk_of s locked (Op.DeviceLoad m at n) top = walk s locked (Op.DeviceLoad m at n) m (piece_and_seq top)
walk_of s locked (Op.DeviceStore m at bs) top = walk s locked (Op.DeviceStore m at bs) m (piece_and_seq top)
walk_of s locked o top = []

-- what a walk finds at a place
abbrev pub found_at : ℕ → ℕ → Place → List Event
found_at m v Place.Zero = Event.Found m v (shown Place.Zero) false ∷ []
found_at m v (Place.Sys n w) = Event.Found m v (shown (Place.Sys n w)) w ∷ []
found_at m v (Place.Own d n w) = Event.Found m v (shown (Place.Own d n w)) w ∷ []
found_at m v x = []

-- a walk ends, having found a page
abbrev pub walked : After → Op → Phase → List Event
walked s o (Phase.Decide (Touch.Walk k since q)) =
    let v = touch_page o (Touch.Walk k since q) in
    found_at (op_mirror o) v (s.places.place (touch_proc s o) v) ++ Event.Walked (op_mirror o) true ∷ []
walked s o top = []

-- a walk ends without a page
abbrev pub not_walked : Op → Phase → List Event
not_walked o (Phase.Decide (Touch.Walk k since q)) = Event.Walked (op_mirror o) false ∷ []
not_walked o (Phase.GiveUp (Some (Touch.Walk k since q))) = Event.Walked (op_mirror o) false ∷ []
not_walked o top = []

-- ---- migrations that an operation asks for: migrate_vma_setup, migrate_vma_pages, migrate_vma_finalize

-- a page that was collected, with its right: a migration entry's, or that of the area
abbrev pub collected : After → ℕ → Migrating → Event
collected s p x = Event.From x.page (frame_in_trace x.source) (elim x.source [
  | None ↦ is_read_write (rights_of s.plain p x.page)
  | Some f ↦ writable (s.places.place p x.page)
])

-- the entry begins an invalidation
abbrev pub is_start : Kind → Bool
is_start (Kind.Start p r q) = true
is_start k = false

-- the pages of the operation
abbrev pub pages_of : Op → Pages
pages_of (Op.ToDevice m r) = r
pages_of (Op.ToSystem m r) = r
pages_of o = one_page 0

-- all pages are collected, once no other mapping has to be frozen
abbrev pub set_up : After → Op → List Migrating → Phase → Kind → List Event
set_up s o xs (Phase.Moves MoveStep.FreezeOthers v) k = let p = mirror_proc s.plain (op_mirror o) in
    if is_start k then []
    else Event.Setup p (pages_of o) (is_to_device o) (Some (mirror_dev s.plain (op_mirror o)))
    ∷ map (collected s p) xs ++ Event.Ready p ∷ []
set_up s o xs top k = []

-- the step comes after the commits
abbrev pub is_past_commits : Option (MoveStep × Migrating) → Bool
is_past_commits None = true
is_past_commits (Some at) = elim at.0 [ MoveStep.SetOwnTable ↦ true | MoveStep.Finish ↦ true | _ ↦ false ]

-- the step comes no later than they
abbrev pub is_up_to_commits : Phase → Bool
is_up_to_commits (Phase.Moves MoveStep.SetOwnTable v) = false
is_up_to_commits (Phase.Moves MoveStep.Finish v) = false
is_up_to_commits (Phase.Moves step v) = true
is_up_to_commits top = false

-- all pages that moved were committed
abbrev pub paged : After → Op → List Migrating → Phase → List Event
paged s o xs top = if is_up_to_commits top && is_past_commits (coming s o xs top)
    then Event.Paged (mirror_proc s.plain (op_mirror o)) ∷ [] else []

-- what a migration has come to before this entry
abbrev pub comes_to : After → Op → List Migrating → Phase → Kind → List Event
comes_to s o xs top k = if is_migration o then set_up s o xs top k ++ paged s o xs top else []

-- ---- a fault that brings a page of device memory home: the same three steps, of one page

-- an operation that brings pages home if it has to
abbrev pub is_home : Op → Bool
is_home o = not (is_migration o) && not (is_evicting o)

-- the page that the fault is about
abbrev pub page_in : Op → List Phase → ℕ
page_in o [] = 0
page_in o (Phase.Decide touch ∷ below) = touch_page o touch
page_in o (top ∷ below) = page_in o below

-- the page is collected, once no other mapping has to be frozen
abbrev pub home_set_up : After → Op → List Phase → Frame → Kind → List Event
home_set_up s o stack f k = let p = touch_proc s o in let v = page_in o stack in
    if is_start k || not (is_home o) then []
    else Event.Setup p (one_page v) false (owner_of f)
    ∷ Event.From v (in_trace f) (writable (s.places.place p v)) ∷ Event.Ready p ∷ []

-- a page has moved: of a migration, or brought home, which is all that the latter has
abbrev pub moved : After → Op → List Phase → Option Migrating → Frame → List Event
moved s o stack None g =
    if is_home o then Event.Moved (page_in o stack) (in_trace g) ∷ Event.Paged (touch_proc s o) ∷ [] else []
moved s o stack (Some x) g = Event.Moved x.page (in_trace g) ∷ []

-- bringing a page home is over
abbrev pub home_over : After → Op → Phase → List Event
home_over s o (Phase.Settle g) = if is_home o then Event.Finalize (touch_proc s o) ∷ [] else []
home_over s o (Phase.Finish f None) = if is_home o then Event.Finalize (touch_proc s o) ∷ [] else []
home_over s o top = []

-- ---- the events of an entry

-- a frame of the device that is taken or free
abbrev pub if_device : Frame → Event → List Event
if_device f x = elim (owner_of f) [ None ↦ [] | Some d ↦ x ∷ [] ]

-- the page of a record
abbrev pub record_at : Option (MoveStep × Migrating) → Option Migrating
record_at None = None
record_at (Some at) = Some at.1

-- what is kept: a frame that a removal or an eviction passes over, a lost page, or a page for which no frame is free
abbrev pub kept : After → Op → Option Migrating → List Phase → KeptAt → KeptWhy → List Event
kept s o x stack (KeptAt.Frame f) (KeptWhy.LockedBy b) = if is_evicting o then Event.Pass (in_trace f) ∷ [] else []
kept s o x (Phase.Lost v g ∷ below) what KeptWhy.Lost = Event.Stayed v (in_trace g) ∷ []
kept s o (Some x) stack what KeptWhy.Lost = Event.Stayed x.page (frame_in_trace x.dest) ∷ []
kept s o x (Phase.Emptying f at ∷ below) what KeptWhy.NoFrame =
    home_set_up s o (Phase.Emptying f at ∷ below) f (Kind.Kept what KeptWhy.NoFrame)
    ++ (if is_home o then Event.Paged (touch_proc s o) ∷ [] else [])
kept s o x stack what why = []

-- a frame is taken; for a page that is brought home all is set up then
abbrev pub taken : After → Op → List Phase → Frame → List Event
taken s o (Phase.Emptying f at ∷ below) g = home_set_up s o (Phase.Emptying f at ∷ below) f (Kind.Take g)
taken s o stack g = if_device g (Event.Take (in_trace g))

-- a fresh page gets its frame
abbrev pub placed : Phase → ℕ → Place → List Event
placed (Phase.Guard p r met told (Body.Fresh g)) v x = Event.Moved v (shown x) ∷ []
placed top v x = []

-- a removal begins with this entry, and not before
abbrev pub begins_removal : Phase → ℕ → List Event
begins_removal (Phase.Detaching q) m = []
begins_removal top m = Event.Remove m ∷ []

-- the top of a stack
abbrev pub top_of : List Phase → Phase
top_of [] = Phase.Begin
top_of (top ∷ below) = top

-- what an entry of actor a tells; s and u are the states before and after it, as actors find them, and `stack` and
-- `after` the tops of the actor's stack
abbrev pub events_by : After → After → ℕ → Op → List Migrating → List Phase → Phase → Kind → List Event
events_by s u a o xs stack after (Kind.Attached m d p r q) = Event.Insert m p r (Some d) ∷ Event.Inserted m q true ∷ []
events_by s u a o xs stack after (Kind.Detaching m q) = Event.Remove m ∷ erased s u m
events_by s u a o xs stack after (Kind.Detached m) =
    begins_removal (top_of stack) m ++ erased s u m ++ Event.Removed m ∷ []
events_by s u a o xs stack after (Kind.Start p r q) =
    let x = reason_of s o (body_at after) in Event.Start p r x.0 x.1 ∷ []
events_by s u a o xs stack after (Kind.Told m r q) =
    Event.Tell m r q ∷ erased s u m ++ Event.Told m (interval_seq u.sequences m) true ∷ []
events_by s u a o xs stack after (Kind.End p r q) = Event.End p r ∷ all_erased s u
events_by s u a o xs stack after (Kind.Begin m q) = Event.Begin m q ∷ []
events_by s u a o xs stack after (Kind.Rlock p) = walk_of s (is_some (u.locks.map a)) o (top_of stack)
events_by s u a o xs stack after (Kind.Runlock p) = walked s o (top_of stack)
events_by s u a o xs stack after (Kind.Retry m) = not_walked o (top_of stack)
events_by s u a o xs stack after (Kind.Failed x at n why) = not_walked o (top_of stack)
events_by s u a o xs stack after (Kind.Set m v f w from) = Event.Set m v (entry_frame f) w ∷ []
events_by s u a o xs stack after (Kind.Loaded (Who.Mirror m) at bs) = Event.Use m (one_page (page_of at)) false ∷ []
events_by s u a o xs stack after (Kind.Stored (Who.Mirror m) at bs) = Event.Use m (one_page (page_of at)) true ∷ []
events_by s u a o xs stack after (Kind.Fetched m at bs) = Event.Fetch m (page_of at) ∷ []
events_by s u a o xs stack after (Kind.Added m at was now) = Event.Add m (page_of at) ∷ []
events_by s u a o xs stack after (Kind.Take g) = taken s o stack g
events_by s u a o xs stack after (Kind.Drop f) = if_device f (Event.Free (in_trace f)) ++ home_over s o (top_of stack)
events_by s u a o xs stack after (Kind.Done f) = home_over s o (top_of stack)
events_by s u a o xs stack after (Kind.Copied f g part) = all_erased s u
events_by s u a o xs stack after (Kind.Committed f g) = moved s o stack (record_at (coming s o xs (top_of stack))) g
events_by s u a o xs stack after (Kind.Place p v x) = placed (top_of stack) v x
events_by s u a o xs stack after (Kind.Kept what why) =
    kept s o (record_at (coming s o xs (top_of stack))) stack what why
events_by s u a o xs stack after (Kind.Withdrawn d) = Event.Withdraw d ∷ []
events_by s u a o xs stack after (Kind.Removed d) = Event.Gone d ∷ []
events_by s u a o xs stack after (Kind.Migrated n) = Event.Finalize (mirror_proc s.plain (op_mirror o)) ∷ []
events_by s u a o xs stack after k = []

-- what an entry tells, with what a migration has come to before it
abbrev pub events_in : State → State → ℕ → Kind → Option Op → List Event
events_in t u a k None = []
events_in t u a k (Some o) = let g = t.going a in comes_to t.after o g.pages (top_of g.stack) k
    ++ events_by t.after u.after a o g.pages g.stack (top_of (u.going a).stack) k

-- the events of an entry between two states
abbrev pub events_of : Program → State → State → Entry → List Traced
events_of c t u e = map (λ x. record { thread = e.actor; event = x })
    (events_in t u e.actor e.kind (op_at c e.actor (t.going e.actor).index))

-- ---- the events of a history

-- a state, and the events up to it
abbrev pub traced_next : Program → State × List Traced → Entry → State × List Traced
traced_next c x e = let u = state_next c x.0 e in (u, x.1 ++ events_of c x.0 u e)

-- the events of a legal history
abbrev pub project : Program → List Entry → List Traced
project c h = (fold (traced_next c) (state_start c, []) h).1

-- the state with the table, the sequences and the locks that the driver has
abbrev pub as_found : Flaw → Program → Flawed → State
as_found l c t = record t.state { after = found l c t }

-- a state of a driver with a flaw, and the events up to it
abbrev pub flawed_traced : Flaw → Program → Flawed × List Traced → Entry → Flawed × List Traced
flawed_traced l c x e = let u = flawed_next l c x.0 e in
    (u, x.1 ++ events_of c (as_found l c x.0) (as_found l c u) e)

-- the events of a set-up by a right driver, and then of these entries by a driver with a flaw
abbrev pub project_by : Flaw → Program → List Entry → List Entry → List Traced
project_by l c h es = (fold (flawed_traced l c) (flawed_from (state_of c h), project c h) es).1
