-- What is due at a phase to a driver with a flaw, in place of what is due to the right one.
use Rattle.std.specs.Prelude.{ℕ, zero, suc, ◌+◌, ◌%◌, Bool, true, false, not, ◌&&◌, ◌||◌, ◌==◌, Option, Some, None}
use Rattle.std.specs.Prelude.{is_some, if◌then◌else◌, List}
use Rattle.hm_base.specs.Pages.{Pages, one_page}
use Rattle.hm_base.specs.Program.{Program}
use Rattle.hm_base.specs.declared.Frame.{Frame}
use Rattle.hm_base.specs.declared.Place.{Place}
use Rattle.hm_base.specs.declared.ops.Op.{Op}
use Rattle.hm_history.specs.Memory.Words.{page_of, dev_frame, is_frame, names, moving_frame, writable, place_in}
use Rattle.hm_history.specs.Memory.Plain.{is_attached, mirror_proc, rights_of, is_read_write}
use Rattle.hm_history.specs.Memory.Places.{TableEntry, entry_passes, may_read, held_from, lowest_named}
use Rattle.hm_history.specs.Kernel.Operation.{op_mirror, op_writes, op_piece}
use Rattle.hm_history.specs.Memory.Sequences.{Sequences, is_odd, interval_seq}
use Rattle.hm_history.specs.Memory.After.{After}
use Rattle.hm_history.specs.Kernel.Going.{touch_page, touch_proc, is_direct, coming}
use Rattle.hm_history.specs.Kernel.Due.{due_phase, due_noted, right_of, is_invalidating, repeats, fault, suits}
use Rattle.hm_history.specs.Kernel.Due.{is_usable, rlock, begin_look_up, child_of}
use Rattle.hm_history.specs.Kernel.Due.{answer_of_piece, frames_end, frame_at, settle, start_entry, others_of}
use Rattle.hm_history.specs.Kernel.Due.{due_moves}
use Rattle.hm_history.specs.declared.TableRight.{TableRight}
use Rattle.hm_history.specs.declared.KeptAt.{KeptAt}
use Rattle.hm_history.specs.declared.KeptWhy.{KeptWhy}
use Rattle.hm_history.specs.declared.Kind.{Kind}
use Rattle.hm_history.specs.declared.Why.{Why}
use Rattle.hm_history.specs.declared.phases.Body.{Body}
use Rattle.hm_history.specs.declared.phases.Migrating.{Migrating}
use Rattle.hm_history.specs.declared.phases.MoveStep.{MoveStep}
use Rattle.hm_history.specs.declared.phases.Touch.{Touch}
use Rattle.hm_history.specs.declared.phases.Touch.TheVariants.{Walk}
use Rattle.hm_history.specs.declared.phases.Phase.{Phase}
use Rattle.hm_history.specs.declared.phases.Next.{Next}
use Rattle.hm_history.specs.declared.phases.Next.TheVariants.{Do, Wait}
use Rattle.hm_flaws.specs.declared.flaws.Flaw.{Flaw}

-- ---- the commit of a look-up

-- the commit of the place that a look-up noted
abbrev pub commit : Op → ℕ → ℕ → Place → Next
commit o k since x = Do (Kind.Set (op_mirror o) (page_of (op_piece o k).0) (names x) (right_of (writable x)) since)

-- the look-up is repeated, or its place committed
abbrev pub retry_or_commit : Bool → Op → ℕ → ℕ → Place → Next
retry_or_commit retries o k since x = elim retries [
  | true ↦ Do (Kind.Retry (op_mirror o))
  | false ↦ commit o k since x
]

-- the mirror is not attached any more
abbrev pub is_left : After → Op → Bool
is_left s o = not (is_attached s.plain (op_mirror o))

-- a table entry is set for writes in place of the right that is due
abbrev pub for_writes : Next → Next
for_writes (Do (Kind.Set m v f w from)) = Do (Kind.Set m v f TableRight.Write from)
for_writes n = n

-- ---- the table entry of a page that a migration moved

-- the state as if no interval were being invalidated: none has the sequence of its process
abbrev pub uninvalidated : After → After
uninvalidated s = record s { sequences = record s.sequences { seq = λ p. 1; interval = λ m. None } }

-- what a migration comes to if its driver sets its own table, whether or not its interval is being invalidated
abbrev pub coming_anyway : After → Op → List Migrating → Phase → Option (MoveStep × Migrating)
coming_anyway s o xs top = coming (uninvalidated s) o xs top

-- ---- the table entry of a page that an actor has alone

-- it is set, in place of the wait until its interval is not being invalidated any more
abbrev pub set_alone : After → ℕ → ℕ → Next → Next
set_alone s p v (Wait (Why.Invalidating m q)) =
    Do (Kind.Set m v (names (s.places.place p v)) TableRight.Sole s.length)
set_alone s p v n = n

-- ---- the begin of a look-up

-- it begins with the sequence that its interval has, though that is being invalidated
abbrev pub begun_anyway : Next → Next
begun_anyway (Wait (Why.Invalidating m q)) = Do (Kind.Begin m q)
begun_anyway n = n

-- the mmap lock is taken in place of the begin, whether or not that would wait
abbrev pub walked_first : After → Next → Next
walked_first s (Do (Kind.Begin m q)) = rlock s (mirror_proc s.plain m)
walked_first s (Wait (Why.Invalidating m q)) = rlock s (mirror_proc s.plain m)
walked_first s n = n

-- a walk that has read no sequence decides as if its interval had not changed
abbrev pub unread : After → Op → Touch → Touch
unread s o (Walk k since q) = Walk k since (interval_seq s.sequences (op_mirror o))
unread s o touch = touch

-- after such a walk the look-up begins, and then it commits as is due. A look-up that has not begun has the position 0,
-- which is that of no `begin`: the process is mapped and its mirror attached before that
abbrev pub begun_late : After → Op → ℕ → Next → Next
begun_late s o zero n = elim (is_left s o) [
  | true ↦ Do (Kind.Retry (op_mirror o))
  | false ↦ begin_look_up s (op_mirror o)
]
begun_late s o (suc since) n = n

-- ---- the detach of a mirror

-- it is detached, though it is being invalidated
abbrev pub detached_now : Next → Next
detached_now (Do (Kind.Detaching m q)) = Do (Kind.Detached m)
detached_now n = n

-- ---- an access through the driver's table

-- a load or a store through a mirror
abbrev pub is_device_access : Op → Bool
is_device_access (Op.DeviceLoad m at n) = true
is_device_access (Op.DeviceStore m at bs) = true
is_device_access o = false

-- a piece is answered at once, or what is due is done
abbrev pub answered : Bool → After → Op → ℕ → Next → Next
answered b s o k n = elim b [ true ↦ Do (answer_of_piece s o k) | false ↦ n ]

-- the table entry for a piece of an access through a mirror
abbrev pub entry_for : After → Op → ℕ → Option TableEntry
entry_for s o k = s.places.table (op_mirror o) (page_of (op_piece o k).0)

-- an entry for reads or for writes that is not the zero page's
abbrev pub is_readable : Option TableEntry → Bool
is_readable x = entry_passes (λ y. may_read y.right && is_some y.target) x

-- the table has an entry that allows the access; whether the mirror is still attached is not asked
abbrev pub has_usable : After → Op → ℕ → Bool
has_usable s o k = is_device_access o && is_usable (op_writes o) (entry_for s o k)

-- the mirror is attached, and its table has an entry for reads; whether the access writes is not asked
abbrev pub has_readable : After → Op → ℕ → Bool
has_readable s o k = is_device_access o && (is_attached s.plain (op_mirror o) && is_readable (entry_for s o k))

-- ---- the walk of a look-up

-- a walk takes any device's memory without a fault
abbrev pub suits_any : Bool → Place → Bool
suits_any writes (Place.Own d n w) = not writes || w
suits_any writes x = suits writes x

-- the decision of such a walk, which noted the sequence q, at a page of a process
abbrev pub walk_any : Program → After → ℕ → Op → ℕ → ℕ → ℕ → ℕ → Next
walk_any c s a o k q p v = elim (repeats s (op_mirror o) q) [
  | true ↦ Do (Kind.Retry (op_mirror o))
  | false ↦ fault c s a o k (suits_any (op_writes o)) p v
]

-- ---- removals

-- each device is withdrawn, or none is
abbrev pub all_withdrawn : Bool → After → After
all_withdrawn b s = record s { places = record s.places { withdrawn = λ d. b } }

-- a removal that has withdrawn its device ends, whatever that holds; anything else does what is due
abbrev pub removed_now : After → Op → ℕ → Next → Next
removed_now s (Op.Remove d) n next =
    elim (s.places.withdrawn d) [ false ↦ next | true ↦ Do (frames_end s d true n) ]
removed_now s o n next = next

-- a removal that has withdrawn its device keeps a frame that another actor has locked, as an eviction does
abbrev pub passes_locked : Program → After → ℕ → Op → ℕ → Next → Next
passes_locked c s a (Op.Remove d) v next = elim (s.places.withdrawn d) [
  | false ↦ next
  | true ↦ elim (held_from c s.places d v) [ None ↦ next | Some k ↦ frame_at s a false (dev_frame d k) ]
]
passes_locked c s a o v next = next

-- ---- additions

-- the sum is written, whatever became of the page
abbrev pub added_at : Op → ℕ → Next → Next
added_at (Op.Add m at n) old next = Do (Kind.Added m at old ((old + n) % 256))
added_at o old next = next

-- ---- the memory manager: invalidations

-- what is due after the last entry of a body comes before it: the mirrors are told then
abbrev pub told_last : Next → Next → Next
told_last (Do (Kind.End p r q)) next = next
told_last n next = n

-- the sequence after an end, as if no other invalidation were under way: an odd one becomes even
abbrev pub seq_ended_alone : Sequences → ℕ → ℕ
seq_ended_alone s p = if is_odd (s.seq p) then s.seq p + 1 else s.seq p

-- the end leaves an even sequence, as if no other invalidation were under way
abbrev pub ended_now : After → Next → Next
ended_now s (Do (Kind.End p r q)) = Do (Kind.End p r (seq_ended_alone s.sequences p))
ended_now s n = n

-- a body that found its page changed, and would end, places the frame there
abbrev pub placed_anyway : Pages → Frame → Bool → Next → Next
placed_anyway r g w (Do (Kind.End p e q)) = Do (Kind.Place p r.first (place_in g w))
placed_anyway r g w n = n

-- so it does in the guard of a fault
abbrev pub replaced_anyway : Pages → Body → Next → Next
replaced_anyway r (Body.Replace over g) n = placed_anyway r g true n
replaced_anyway r body n = n

-- and in that of a fresh page, with the right that its area has
abbrev pub fresh_anyway : After → ℕ → Pages → Body → Next → Next
fresh_anyway s p r (Body.Fresh g) n = placed_anyway r g (is_read_write (rights_of s.plain p r.first)) n
fresh_anyway s p r body n = n

-- ---- the memory manager: rights

-- the place with the right to write
abbrev pub widened : Place → Place
widened (Place.Sys n w) = Place.Sys n true
widened (Place.Own d n w) = Place.Own d n true
widened x = x

-- a page is placed for writes in place of the right that is due
abbrev pub placed_for_writes : Next → Next
placed_for_writes (Do (Kind.Place p v x)) = Do (Kind.Place p v (widened x))
placed_for_writes n = n

-- so a fresh page is
abbrev pub fresh_for_writes : Body → Next → Next
fresh_for_writes (Body.Fresh g) n = placed_for_writes n
fresh_for_writes body n = n

-- a fork that would take the parent's right places the child's page at once, with that right
abbrev pub forked_whole : After → Op → ℕ → Next → Next
forked_whole s o p (Do (Kind.Place q v x)) = elim (q == p) [
  | true ↦ Do (Kind.Place (child_of o) v (s.places.place p v))
  | false ↦ Do (Kind.Place q v x)
]
forked_whole s o p n = n

-- so it does at each page of the parent
abbrev pub forked_at : After → Op → ℕ → Body → Next → Next
forked_at s o p (Body.Fork v false) n = forked_whole s o p n
forked_at s o p body n = n

-- a load or a store of the CPU finds a place that it may use, a device's memory among them
abbrev pub has_any_place : After → Op → ℕ → Bool
has_any_place s (Op.Load p at n) k =
    s.plain.there p && suits_any false (s.places.place p (page_of (op_piece (Op.Load p at n) k).0))
has_any_place s (Op.Store p at bs) k =
    s.plain.there p && suits_any true (s.places.place p (page_of (op_piece (Op.Store p at bs) k).0))
has_any_place s o k = false

-- ---- the memory manager: pages that are frozen late

-- a setup leaves a page as it is that it would freeze
abbrev pub left_mapped : After → Body → Next → Next
left_mapped s (Body.Select u) (Do (Kind.Place p v x)) = Do (Kind.Place p v (s.places.place p v))
left_mapped s body n = n

-- the mappings of a frame are frozen, one by one, before its copy is committed
abbrev pub frozen_before : After → MoveStep → Migrating → Next → Next
frozen_before s MoveStep.Commit x n = elim (is_direct s x.source) [ true ↦ Do (others_of s x.source) | false ↦ n ]
frozen_before s step x n = n

-- so it is where a migration has come to that
abbrev pub frozen_late : After → Option (MoveStep × Migrating) → Next → Next
frozen_late s None n = n
frozen_late s (Some at) n = frozen_before s at.0 at.1 n

-- ---- the memory manager: locks of frames

-- a place as it is frozen: a migration entry of its frame, with its right
abbrev pub frozen : Place → Place
frozen x = elim (names x) [ None ↦ x | Some f ↦ Place.Moving f (writable x) ]

-- a page that was not found where the migration begins is frozen once more, if it is a migration entry
abbrev pub frozen_once_more : ℕ → ℕ → Option Frame → Place → Kind
frozen_once_more p v None x = Kind.Kept (KeptAt.Page v) KeptWhy.NotHere
frozen_once_more p v (Some f) x = Kind.Place p v x

-- a setup freezes a page also if another actor has its frame locked, or has frozen it
abbrev pub selected_anyway : After → ℕ → Next → Next
selected_anyway s p (Do (Kind.Kept (KeptAt.Page v) (KeptWhy.LockedBy b))) =
    Do (Kind.Place p v (frozen (s.places.place p v)))
selected_anyway s p (Do (Kind.Kept (KeptAt.Page v) KeptWhy.NotHere)) =
    Do (frozen_once_more p v (moving_frame (s.places.place p v)) (s.places.place p v))
selected_anyway s p n = n

-- so does the guard of a frame that is to be emptied, if its page still names the frame
abbrev pub caught_anyway : After → ℕ → Pages → Frame → Next → Next
caught_anyway s p r f (Do (Kind.End q e n)) = elim (is_frame (names (s.places.place p r.first)) f) [
  | true ↦ Do (Kind.Place p r.first (frozen (s.places.place p r.first)))
  | false ↦ Do (Kind.End q e n)
]
caught_anyway s p r f n = n

-- so it is in each guard
abbrev pub taken_in : After → ℕ → Pages → Body → Next → Next
taken_in s p r (Body.Select v) n = selected_anyway s p n
taken_in s p r (Body.Catch f) n = caught_anyway s p r f n
taken_in s p r body n = n

-- an eviction begins with a frame that another actor has locked
abbrev pub begun_locked : After → Next → Next
begun_locked s (Do (Kind.Kept (KeptAt.Frame f) (KeptWhy.LockedBy b))) = elim (lowest_named s.places f) [
  | Some x ↦ Do (start_entry s x.0 (one_page x.1))
  | None ↦ Do (Kind.Drop f)
]
begun_locked s n = n

-- ---- the memory manager: the end of a migration

-- the frame of a page that was not moved, at the last step of a migration
abbrev pub unmoved : MoveStep → Migrating → Option Frame
unmoved MoveStep.Finish x = if x.moved then None else x.source
unmoved step x = None

-- the same, by what the migration has come to
abbrev pub unmoved_at : Option (MoveStep × Migrating) → Option Frame
unmoved_at None = None
unmoved_at (Some at) = unmoved at.0 at.1

-- the frame that is settled at the end: that of a page that was not moved, or the one that it was moved to
abbrev pub settling : After → Op → List Migrating → Phase → Option Frame
settling s o xs (Phase.Finish f None) = Some f
settling s o xs (Phase.Settle g) = Some g
settling s o xs (Phase.Moves step v) = unmoved_at (coming s o xs (Phase.Moves step v))
settling s o xs top = None

-- that frame is settled at once, whatever is to be put back
abbrev pub settled_now : After → Option Frame → Next → Next
settled_now s None n = n
settled_now s (Some f) n = Do (settle s f)

-- what is dropped is done with, as if a place named it
abbrev pub done_with : Next → Next
done_with (Do (Kind.Drop f)) = Do (Kind.Done f)
done_with n = n

-- so it is with that frame
abbrev pub settled_held : Option Frame → Next → Next
settled_held None n = n
settled_held (Some f) n = done_with n

-- ---- all of them

-- what is due at a phase to a driver with a flaw: if the flaw says nothing of the phase, what is due to the right one
abbrev pub due_flawed : Flaw → Program → After → ℕ → Op → List Migrating → Phase → Next
due_flawed Flaw.NotCompared c s a o xs (Phase.Noted k since q x) = retry_or_commit (is_left s o) o k since x
due_flawed Flaw.ComparedNow c s a o xs (Phase.Noted k since q x) =
    retry_or_commit (is_left s o || is_invalidating s (op_mirror o)) o k since x
due_flawed Flaw.AllForWrites c s a o xs (Phase.Noted k since q x) = for_writes (due_noted s o k since q x)
due_flawed Flaw.WalksUnlocked c s a o xs (Phase.Begun k since q) =
    Do (Kind.Rlock (mirror_proc s.plain (op_mirror o)))
due_flawed Flaw.AnyDevice c s a o xs (Phase.Decide (Walk k since q)) =
    walk_any c s a o k q (touch_proc s o) (touch_page o (Walk k since q))
due_flawed Flaw.BegunAnyway c s a o xs (Phase.Piece k) = begun_anyway (due_phase c s a o xs (Phase.Piece k))
due_flawed Flaw.BegunLast c s a o xs (Phase.Piece k) = walked_first s (due_phase c s a o xs (Phase.Piece k))
due_flawed Flaw.BegunLast c s a o xs (Phase.Decide touch) = due_phase c s a o xs (Phase.Decide (unread s o touch))
due_flawed Flaw.BegunLast c s a o xs (Phase.Noted k since q x) =
    begun_late s o since (due_phase c s a o xs (Phase.Noted k since q x))
due_flawed Flaw.DetachedAtOnce c s a o xs Phase.Begin = detached_now (due_phase c s a o xs Phase.Begin)
due_flawed Flaw.UsedDetached c s a o xs (Phase.Piece k) =
    answered (has_usable s o k) s o k (due_phase c s a o xs (Phase.Piece k))
due_flawed Flaw.ReadsWritten c s a o xs (Phase.Piece k) =
    answered (has_readable s o k) s o k (due_phase c s a o xs (Phase.Piece k))
due_flawed Flaw.OwnForWrites c s a o xs (Phase.Moves step v) = for_writes (due_phase c s a o xs (Phase.Moves step v))
due_flawed Flaw.OwnAnyway c s a o xs (Phase.Moves step v) =
    Do (due_moves c s o xs (coming_anyway s o xs (Phase.Moves step v)))
due_flawed Flaw.WithdrawnTaken c s a o xs (Phase.Moves step v) =
    due_phase c (all_withdrawn false s) a o xs (Phase.Moves step v)
due_flawed Flaw.RemovedAtOnce c s a o xs (Phase.Frames v n) =
    removed_now s o n (due_phase c s a o xs (Phase.Frames v n))
due_flawed Flaw.NotWithdrawn c s a o xs (Phase.Frames v n) =
    due_phase c (all_withdrawn true s) a o xs (Phase.Frames v n)
due_flawed Flaw.LockedPassed c s a o xs (Phase.Frames v n) =
    passes_locked c s a o v (due_phase c s a o xs (Phase.Frames v n))
due_flawed Flaw.SoleAnyway c s a o xs (Phase.Decide touch) =
    set_alone s (touch_proc s o) (touch_page o touch) (due_phase c s a o xs (Phase.Decide touch))
due_flawed Flaw.AddedAnyway c s a o xs (Phase.Fetched old) =
    added_at o old (due_phase c s a o xs (Phase.Fetched old))
due_flawed Flaw.ToldLast c s a o xs (Phase.Guard p r met told body) =
    told_last (due_phase c s a o xs (Phase.Guard p r false told body))
    (due_phase c s a o xs (Phase.Guard p r met told body))
due_flawed Flaw.EndedAtOnce c s a o xs (Phase.Guard p r met told body) =
    ended_now s (due_phase c s a o xs (Phase.Guard p r met told body))
due_flawed Flaw.ForkedWhole c s a o xs (Phase.Guard p r met told body) =
    forked_at s o p body (due_phase c s a o xs (Phase.Guard p r met told body))
due_flawed Flaw.ReplacedAnyway c s a o xs (Phase.Guard p r met told body) =
    replaced_anyway r body (due_phase c s a o xs (Phase.Guard p r met told body))
due_flawed Flaw.DeviceAccessed c s a o xs (Phase.Piece k) =
    answered (has_any_place s o k) s o k (due_phase c s a o xs (Phase.Piece k))
due_flawed Flaw.FrozenLate c s a o xs (Phase.Guard p r met told body) =
    left_mapped s body (due_phase c s a o xs (Phase.Guard p r met told body))
due_flawed Flaw.FrozenLate c s a o xs (Phase.Moves step v) =
    frozen_late s (coming s o xs (Phase.Moves step v)) (due_phase c s a o xs (Phase.Moves step v))
due_flawed Flaw.FreshAnyway c s a o xs (Phase.Guard p r met told body) =
    fresh_anyway s p r body (due_phase c s a o xs (Phase.Guard p r met told body))
due_flawed Flaw.FreshForWrites c s a o xs (Phase.Guard p r met told body) =
    fresh_for_writes body (due_phase c s a o xs (Phase.Guard p r met told body))
due_flawed Flaw.BackForWrites c s a o xs (Phase.Finish f to) =
    placed_for_writes (due_phase c s a o xs (Phase.Finish f to))
due_flawed Flaw.BackForWrites c s a o xs (Phase.Moves step v) =
    placed_for_writes (due_phase c s a o xs (Phase.Moves step v))
due_flawed Flaw.LockedTaken c s a o xs (Phase.Guard p r met told body) =
    taken_in s p r body (due_phase c s a o xs (Phase.Guard p r met told body))
due_flawed Flaw.LockedTaken c s a o xs (Phase.Frames v n) = begun_locked s (due_phase c s a o xs (Phase.Frames v n))
due_flawed Flaw.NotPutBack c s a o xs top = settled_now s (settling s o xs top) (due_phase c s a o xs top)
due_flawed Flaw.UnnamedHeld c s a o xs top = settled_held (settling s o xs top) (due_phase c s a o xs top)
due_flawed l c s a o xs top = due_phase c s a o xs top
