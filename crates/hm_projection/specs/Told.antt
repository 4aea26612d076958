-- What an entry tells, in the parts in which it is said: what is known before the entry, and what after it.
use Rattle.std.specs.Prelude.{◌≡◌, ℕ, true, false, if◌then◌else◌, Option, Some, None, List, [], ◌∷◌, ◌++◌}
use Rattle.hm_base.specs.Pages.{one_page}
use Rattle.hm_base.specs.declared.ops.Op.{Op}
use Rattle.hm_history.specs.Kernel.Going.{Going, coming, touch_page, touch_proc}
use Rattle.hm_history.specs.Kernel.Operation.{is_evicting, op_mirror}
use Rattle.hm_history.specs.Memory.After.{After}
use Rattle.hm_history.specs.Memory.Plain.{mirror_dev, mirror_proc}
use Rattle.hm_history.specs.Memory.Sequences.{interval_seq}
use Rattle.hm_history.specs.Memory.Words.{page_of}
use Rattle.hm_history.specs.declared.KeptAt.{KeptAt}
use Rattle.hm_history.specs.declared.KeptWhy.{KeptWhy}
use Rattle.hm_history.specs.declared.Kind.{Kind}
use Rattle.hm_history.specs.declared.Who.{Who}
use Rattle.hm_history.specs.declared.phases.Body.{Body}
use Rattle.hm_history.specs.declared.phases.Migrating.{Migrating}
use Rattle.hm_history.specs.declared.phases.Phase.{Phase}
use Rattle.hm_projection.specs.Tables.{erases}
use Rattle.hm_projection.specs.declared.reasons.Asked.{Asked}
use Rattle.hm_protocol.specs.Projection.{begins_removal, body_at, comes_to, entry_frame, home_over, home_set_up}
use Rattle.hm_protocol.specs.Projection.{if_device, in_trace, frame_in_trace, is_home, moved, not_walked, owner_of}
use Rattle.hm_protocol.specs.Projection.{placed, record_at, taken, top_of, walk_of, walked}
use Rattle.hm_protocol.specs.declared.events.Event.{Event}
use Rattle.hm_protocol.specs.declared.events.Reason.{Reason}
use Rattle.hm_protocol.specs.declared.events.Traced.{Traced}

-- ---- why an invalidation begins

-- what the operation alone says
abbrev pub because : Op → Option Reason
because (Op.Unmap p r) = Some Reason.Unmap
because (Op.Protect p r w) = Some Reason.ProtectArea
because (Op.Fork p child) = Some Reason.ProtectPage
because (Op.Exit p) = Some Reason.Release
because o = None

-- what is known of it before the entry
abbrev pub asked_of : After → Op → Asked
asked_of s o = record {
  always = because o;
  device = mirror_dev s.plain (op_mirror o);
  evicts = is_evicting o;
}

-- by what the guard is to do
abbrev pub reason_of_body : Asked → Body → Reason × Option ℕ
reason_of_body x (Body.Select v) = (Reason.Migrate, Some x.device)
reason_of_body x (Body.Fresh g) = (Reason.Migrate, Some x.device)
reason_of_body x (Body.Catch f) = if x.evicts then (Reason.Clear, None) else (Reason.Migrate, owner_of f)
reason_of_body x (Body.Seize f) = (Reason.Exclusive, Some x.device)
reason_of_body x body = (Reason.Clear, None)

-- the reason, and the device whose driver asked for it
abbrev pub reason_by : Asked → Body → Reason × Option ℕ
reason_by x body = elim x.always [ None ↦ reason_of_body x body | Some why ↦ (why, None) ]

-- ---- pages that are brought home, and frames

-- the page of a phase that decides; else the other one
abbrev pub page_or : Op → Phase → ℕ → ℕ
page_or o (Phase.Decide touch) v = touch_page o touch
page_or o top v = v

-- all that was brought home was said
abbrev pub paged_home : After → Op → List Event
paged_home s o = if is_home o then Event.Paged (touch_proc s o) ∷ [] else []

-- a page was given a frame, and does not have it
abbrev pub stayed : Phase → Option Migrating → List Event
stayed (Phase.Lost v g) x = Event.Stayed v (in_trace g) ∷ []
stayed top (Some x) = Event.Stayed x.page (frame_in_trace x.dest) ∷ []
stayed top None = []

-- no frame is free for a page that is to be brought home
abbrev pub not_brought : After → Op → List Phase → List Event
not_brought s o (Phase.Emptying f at ∷ below) =
    home_set_up s o (Phase.Emptying f at ∷ below) f (Kind.Take f) ++ paged_home s o
not_brought s o stack = []

-- a removal or an eviction passes over a frame
abbrev pub passed_over : Op → KeptAt → List Event
passed_over o (KeptAt.Frame f) = if is_evicting o then Event.Pass (in_trace f) ∷ [] else []
passed_over o at = []

-- what is kept, by why it is
abbrev pub kept_by : After → Op → Option Migrating → List Phase → KeptAt → KeptWhy → List Event
kept_by s o x stack what (KeptWhy.LockedBy b) = passed_over o what
kept_by s o x stack what KeptWhy.Lost = stayed (top_of stack) x
kept_by s o x stack what KeptWhy.NoFrame = not_brought s o stack
kept_by s o x stack what why = []

-- ---- what an entry tells before it is done

-- of a device that is taken away, and of a migration's end
abbrev pub told_of_devices : After → Op → Kind → List Event
told_of_devices s o (Kind.Withdrawn d) = Event.Withdraw d ∷ []
told_of_devices s o (Kind.Removed d) = Event.Gone d ∷ []
told_of_devices s o (Kind.Migrated n) = Event.Finalize (mirror_proc s.plain (op_mirror o)) ∷ []
told_of_devices s o k = []

-- of frames, and of pages that move
abbrev pub told_of_frames : After → Op → List Migrating → List Phase → Kind → List Event
told_of_frames s o xs stack (Kind.Take g) = taken s o stack g
told_of_frames s o xs stack (Kind.Drop f) =
    if_device f (Event.Free (in_trace f)) ++ home_over s o (top_of stack)
told_of_frames s o xs stack (Kind.Done f) = home_over s o (top_of stack)
told_of_frames s o xs stack (Kind.Committed f g) = moved s o stack (record_at (coming s o xs (top_of stack))) g
told_of_frames s o xs stack (Kind.Place p v x) = placed (top_of stack) v x
told_of_frames s o xs stack (Kind.Kept what why) =
    kept_by s o (record_at (coming s o xs (top_of stack))) stack what why
told_of_frames s o xs stack k = told_of_devices s o k

-- of a walk
abbrev pub told_of_walk : After → Op → Phase → Kind → List Event
told_of_walk s o top (Kind.Rlock p) = walk_of s true o top
told_of_walk s o top (Kind.Runlock p) = walked s o top
told_of_walk s o top (Kind.Retry m) = not_walked o top
told_of_walk s o top (Kind.Failed x at n why) = not_walked o top
told_of_walk s o top k = []

-- of what a device does
abbrev pub told_of_device : Kind → List Event
told_of_device (Kind.Begin m q) = Event.Begin m q ∷ []
told_of_device (Kind.Set m v f w from) = Event.Set m v (entry_frame f) w ∷ []
told_of_device (Kind.Loaded (Who.Mirror m) at bs) = Event.Use m (one_page (page_of at)) false ∷ []
told_of_device (Kind.Stored (Who.Mirror m) at bs) = Event.Use m (one_page (page_of at)) true ∷ []
told_of_device (Kind.Fetched m at bs) = Event.Fetch m (page_of at) ∷ []
told_of_device (Kind.Added m at was now) = Event.Add m (page_of at) ∷ []
told_of_device k = []

-- of a mirror, before what it erases
abbrev pub told_first : Phase → Kind → List Event
told_first top (Kind.Attached m d p r q) = Event.Insert m p r (Some d) ∷ Event.Inserted m q true ∷ []
told_first top (Kind.Detaching m q) = Event.Remove m ∷ []
told_first top (Kind.Detached m) = begins_removal top m
told_first top (Kind.Told m r q) = Event.Tell m r q ∷ []
told_first top (Kind.End p r q) = Event.End p r ∷ []
told_first top k = told_of_device k

-- all that is said before the entry is done
abbrev pub told_before : After → Op → List Migrating → List Phase → Kind → List Event
told_before s o xs stack k = comes_to s o xs (top_of stack) k ++ (told_first (top_of stack) k
    ++ (erases s k ++ (told_of_walk s o (top_of stack) k ++ told_of_frames s o xs stack k)))

-- ---- what it tells after that

-- the events that are known once the entry is done
abbrev pub told_after : After → Asked → Phase → Kind → List Event
told_after u x after (Kind.Detached m) = Event.Removed m ∷ []
told_after u x after (Kind.Start p r q) =
    let y = reason_by x (body_at after) in Event.Start p r y.0 y.1 ∷ []
told_after u x after (Kind.Told m r q) = Event.Told m (interval_seq u.sequences m) true ∷ []
told_after u x after k = []

-- without an operation nothing is
abbrev pub told_if : After → Option Asked → Phase → Kind → List Event
told_if u None after k = []
told_if u (Some x) after k = told_after u x after k

-- ---- all of it

-- it was said what is known before an entry, and what is asked of it then; without an operation nothing is
abbrev pub TellsBefore : After → Going → Kind → List Event → List Event → Option Op → Option Asked → Type 0
TellsBefore s g k old new None asked = (asked ≡ None) × (new ≡ old)
TellsBefore s g k old new (Some o) asked =
    (asked ≡ Some (asked_of s o)) × (new ≡ old ++ told_before s o g.pages g.stack k)

-- an event of a thread
abbrev pub traced : ℕ → Event → Traced
traced a x = record { thread = a; event = x }
