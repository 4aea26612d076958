-- What shows why a part is broken: something that is so after the entries before, in the words of an entry that would
-- say it. Of an entry that meets the part it is said too.
use Rattle.std.specs.Prelude.{◌≡◌, ℕ, Bool, true, false, not, ◌&&◌, ◌==◌, nat_lt, if◌then◌else◌, Option, Some, None}
use Rattle.std.specs.Prelude.{is_some, List, length}
use Rattle.hm_base.specs.Pages.{Pages}
use Rattle.hm_base.specs.Program.{Program}
use Rattle.hm_base.specs.PlaceWords.{dev_frame, names}
use Rattle.hm_base.specs.declared.Frame.{Frame}
use Rattle.hm_base.specs.declared.PoolId.{PoolId}
use Rattle.hm_base.specs.declared.cause.Cause.{Cause}
use Rattle.hm_base.specs.declared.ops.Op.{Op}
use Rattle.hm_history.specs.Memory.After.{After, after}
use Rattle.hm_history.specs.Kernel.Due.{pool_of}
use Rattle.hm_history.specs.Kernel.Going.{State, op_at, state_of}
use Rattle.hm_history.specs.Kernel.Legal.{kept_frame}
use Rattle.hm_history.specs.Kernel.Operation.{op_mirror}
use Rattle.hm_history.specs.Memory.Places.{Places, TableEntry, held_from, lowest_free, lowest_named}
use Rattle.hm_history.specs.Memory.Plain.{Plain, area_refusal, cause_at, is_attached, mirror_proc, plain_bytes}
use Rattle.hm_history.specs.Memory.Sequences.{Sequences, interval_inserted, interval_proc, interval_seq, seq_ended}
use Rattle.hm_history.specs.Memory.Sequences.{seq_started, sequences_accept}
use Rattle.hm_history.specs.Memory.Words.{least, page_of}
use Rattle.hm_history.specs.declared.Entry.{Entry}
use Rattle.hm_history.specs.declared.KeptAt.{KeptAt}
use Rattle.hm_history.specs.declared.KeptWhy.{KeptWhy}
use Rattle.hm_history.specs.declared.Kind.{Kind}
use Rattle.hm_history.specs.declared.Who.{Who}
use Rattle.hm_history.specs.declared.Who.TheVariants.{Cpu, Mirror}
use Rattle.hm_folds.specs.Kept.{under_way}
use Rattle.hm_parts.specs.declared.show_answers.Reading.{Reading}
use Rattle.hm_parts.specs.declared.shown.Shown.{Shown}
use Rattle.hm_parts.specs.declared.shown.ShownParts.{ShownParts}

-- ---- what several parts show

-- the address lies on a page
abbrev pub has_page : ℕ → Bool
has_page at = nat_lt at 281474976710656

-- the first, if there is one, and else the other
abbrev pub or_else : Option Shown → Option Shown → Option Shown
or_else None y = y
or_else (Some x) y = Some x

-- the place of a page
abbrev pub place_shown : Places → ℕ → ℕ → Shown
place_shown s p v = Shown.Words (Kind.Place p v (s.place p v))

-- the place of the page of an address
abbrev pub place_at : Places → ℕ → ℕ → Option Shown
place_at s p at = if has_page at then Some (place_shown s p (page_of at)) else None

-- what a mirror's table has for a page
abbrev pub entry_shown : ℕ → ℕ → Option TableEntry → Shown
entry_shown m v None = Shown.Unset m v
entry_shown m v (Some x) = Shown.Words (Kind.Set m v x.target x.right x.from)

-- the mirror and the address of an access through a mirror's table
abbrev pub through : Kind → Option (ℕ × ℕ)
through (Kind.Loaded (Mirror m) at bs) = Some (m, at)
through (Kind.Stored (Mirror m) at bs) = Some (m, at)
through (Kind.Fetched m at bs) = Some (m, at)
through (Kind.Added m at was now) = Some (m, at)
through _ = None

-- what the mirror's table has for the page of this address
abbrev pub table_at : Places → Option (ℕ × ℕ) → Option TableEntry
table_at s None = None
table_at s (Some x) = if has_page x.1 then s.table x.0 (page_of x.1) else None

-- what a mirror's table has for the page of an access through it
abbrev pub table_of : Places → Kind → Option TableEntry
table_of s k = table_at s (through k)

-- that the mirror's table has this for the page of the address
abbrev pub entry_at : Option (ℕ × ℕ) → Option TableEntry → Option Shown
entry_at None x = None
entry_at (Some y) x = if has_page y.1 then Some (entry_shown y.0 (page_of y.1) x) else None

-- that the mirror's table has this for the page of an access through it
abbrev pub entry_of : Kind → Option TableEntry → Option Shown
entry_of k x = entry_at (through k) x

-- that a `take` would give this frame
abbrev pub taken : Option Frame → Option Shown
taken None = None
taken (Some f) = Some (Shown.Words (Kind.Take f))

-- ---- answers

-- that an operation would be refused for this cause
abbrev pub refused : Option Cause → Option Shown
refused None = None
refused (Some why) = Some (Shown.Words (Kind.Refused why))

-- that it would be refused for this cause, unless this holds
abbrev pub unless : Bool → Cause → Option Shown
unless fine why = if fine then None else refused (Some why)

-- that a piece of an access of n bytes would fail, if there is a cause
abbrev pub failed : Who → ℕ → ℕ → Option Cause → Option Shown
failed x at n None = None
failed x at n (Some why) = Some (Shown.Words (Kind.Failed x at n why))

-- the cause against a piece of n bytes, if there is one
abbrev pub against : Plain → Who → ℕ → ℕ → Bool → Option Shown
against s x at n writes = if has_page at then failed x at n (cause_at s x (page_of at) writes) else None

-- the n plain bytes that an access would read
abbrev pub held_bytes : Plain → Who → ℕ → ℕ → Option Shown
held_bytes s x at n = if has_page at then Some (Shown.Words (Kind.Loaded x at (plain_bytes s x at n))) else None

-- the cause against the access, and else the first plain bytes there
abbrev pub read_shown : Plain → Reading → Option Shown
read_shown s r = or_else (against s r.who r.addr r.len r.writes) (held_bytes s r.who r.addr r.shown)

-- a forbidden write
abbrev pub is_forbidden : Cause → Bool
is_forbidden Cause.Forbidden = true
is_forbidden _ = false

-- the read of an addition
abbrev pub add_read : ℕ → ℕ → Reading
add_read m at = record { who = Mirror m; addr = at; len = 1; shown = 1; writes = true }

-- the access, if the entry's answer tells bytes, or says that it failed: then one byte is shown if nothing is against
-- it
abbrev pub read_of : Kind → Option Reading
read_of (Kind.Loaded x at bs) =
    Some (record { who = x; addr = at; len = length bs; shown = length bs; writes = false })
read_of (Kind.Failed x at n why) = Some (record { who = x; addr = at; len = n; shown = 1; writes = is_forbidden why })
read_of (Kind.Fetched m at bs) = Some (add_read m at)
read_of (Kind.Added m at was now) = Some (add_read m at)
read_of _ = None

-- the refusal of a change of areas of the process
abbrev pub area_shown : Plain → ℕ → Op → Option Shown
area_shown s p o = if s.there p then refused (area_refusal s o) else refused (Some Cause.NoProcess)

-- the refusal of a change of areas
abbrev pub shows_areas : Plain → Kind → Option Shown
shows_areas s (Kind.Mapped p r w) = area_shown s p (Op.Map p r w)
shows_areas s (Kind.Unmapped p r) = area_shown s p (Op.Unmap p r)
shows_areas s (Kind.Protected p r w) = area_shown s p (Op.Protect p r w)
shows_areas s _ = None

-- the refusal of a change of processes or mirrors, for which the process must be there
abbrev pub change_shown : Plain → ℕ → Option Shown → Option Shown
change_shown s p y = if s.there p then y else refused (Some Cause.NoProcess)

-- the number is that of no process that was named before
abbrev pub is_free_name : Plain → ℕ → Bool
is_free_name s p = nat_lt 0 p && not (s.named p)

-- the cause against a store, or the refusal of a change of processes, mirrors or areas
abbrev pub shows_change : Plain → Kind → Option Shown
shows_change s (Kind.Stored x at bs) = against s x at (length bs) true
shows_change s (Kind.Named p child) = change_shown s p (unless (is_free_name s child) Cause.NameTaken)
shows_change s (Kind.Exited p) = change_shown s p None
shows_change s (Kind.Forked p child) = change_shown s p None
shows_change s (Kind.Attached m d p r q) = change_shown s p (unless (not (is_some (s.mirrors m))) Cause.MirrorTaken)
shows_change s (Kind.Detaching m q) = unless (is_attached s m) Cause.Outside
shows_change s (Kind.Detached m) = unless (is_attached s m) Cause.Outside
shows_change s k = shows_areas s k

-- why it is no answer by plain bytes, areas, processes and mirrors
abbrev pub shows_answers : Plain → Kind → Option Shown
shows_answers s k = elim (read_of k) [ None ↦ shows_change s k | Some r ↦ read_shown s r ]

-- ---- places and frames

-- the place of the page, if there is one, and else this
abbrev pub named_at : Places → Option (ℕ × ℕ) → Option Shown → Option Shown
named_at s None y = y
named_at s (Some x) y = Some (place_shown s x.0 x.1)

-- the place that names the frame first, if one does, and else this
abbrev pub named_first : Places → Option Frame → Option Shown → Option Shown
named_first s None y = y
named_first s (Some f) y = named_at s (lowest_named s f) y

-- that no more frames are taken from the pool, if that is so
abbrev pub withdrawn : Places → PoolId → Option Shown
withdrawn s PoolId.System = None
withdrawn s (PoolId.Device d) = if s.withdrawn d then Some (Shown.Words (Kind.Withdrawn d)) else None

-- that the device's frame of this number would be dropped
abbrev pub dropped : ℕ → Option ℕ → Option Shown
dropped d None = None
dropped d (Some n) = Some (Shown.Words (Kind.Drop (dev_frame d n)))

-- why places, frames and mirror tables do not allow it
abbrev pub shows_places : Program → Places → Kind → Option Shown
shows_places c s (Kind.Loaded (Cpu p) at bs) = place_at s p at
shows_places c s (Kind.Stored (Cpu p) at bs) = place_at s p at
shows_places c s (Kind.Place p v x) = named_first s (names x) (Some (place_shown s p v))
shows_places c s (Kind.Take f) = or_else (taken (lowest_free c s f.pool)) (withdrawn s f.pool)
shows_places c s (Kind.Drop f) = named_first s (Some f) None
shows_places c s (Kind.Removed d) = dropped d (held_from c s d 0)
shows_places c s k = entry_of k (table_of s k)

-- ---- sequences

-- these words, if sequences allow them as the actor's next entry
abbrev pub if_right : Sequences → ℕ → Kind → Option Shown
if_right s a k = if sequences_accept s a k then Some (Shown.Words k) else None

-- that this mirror is told of an invalidation of the span
abbrev pub telling : Sequences → ℕ → Pages → ℕ → Kind
telling s p r m = Kind.Told m r (s.seq p)

-- that an invalidation of the span starts, with the sequence that it would have
abbrev pub starting : Sequences → ℕ → Pages → Kind
starting s p r = Kind.Start p r (seq_started s p r)

-- that it ends
abbrev pub ending : Sequences → ℕ → Pages → Kind
ending s p r = Kind.End p r (seq_ended s p)

-- the least mirror that the actor may tell of the invalidation
abbrev pub next_of : Sequences → ℕ → Pages → ℕ → Option ℕ
next_of s p r a = least (λ m. sequences_accept s a (telling s p r m)) 0 32

-- how the actor's invalidation of this span may go on: the next mirror is told, or it ends
abbrev pub goes_on : Sequences → ℕ → ℕ → Pages → Option Shown
goes_on s a p r = elim (next_of s p r a) [
  | Some m ↦ Some (Shown.Words (telling s p r m))
  | None ↦ if_right s a (ending s p r)
]

-- so it may, if the actor has one under way
abbrev pub guard_goes_on : Sequences → ℕ → Option (ℕ × Pages) → Option Shown
guard_goes_on s a None = None
guard_goes_on s a (Some x) = goes_on s a x.0 x.1

-- an entry that sequences allow in its place: one that goes on with the invalidation under way, or the entry with the
-- sequence that it would have
abbrev pub shows_sequences : Sequences → ℕ → Kind → Option Shown
shows_sequences s a (Kind.Start p r q) =
    or_else (guard_goes_on s a (under_way (s.guard a))) (if_right s a (starting s p r))
shows_sequences s a (Kind.Told m r q) = guard_goes_on s a (under_way (s.guard a))
shows_sequences s a (Kind.End p r q) = guard_goes_on s a (under_way (s.guard a))
shows_sequences s a (Kind.Attached m d p r q) = if_right s a (Kind.Attached m d p r (interval_inserted s p))
shows_sequences s a (Kind.Detaching m q) = if_right s a (Kind.Detaching m (s.seq (interval_proc s m)))
shows_sequences s a (Kind.Begin m q) = if_right s a (Kind.Begin m (interval_seq s m))
shows_sequences s a _ = None

-- ---- guards

-- the place from which something would be taken
abbrev pub shows_guarded : Places → Kind → Option Shown
shows_guarded s (Kind.Place p v x) = Some (place_shown s p v)
shows_guarded s _ = None

-- ---- reasons

-- the place of the page that is kept
abbrev pub kept_place : Places → ℕ → KeptAt → Option Shown
kept_place s p (KeptAt.Page v) = Some (place_shown s p v)
kept_place s p (KeptAt.Frame f) = None

-- that a frame is kept since another actor has it locked
abbrev pub locked_by : ℕ → Frame → Option ℕ → Option Shown
locked_by a f None = None
locked_by a f (Some b) =
    if a == b then None else Some (Shown.Words (Kind.Kept (KeptAt.Frame f) (KeptWhy.LockedBy b)))

-- which other actor has the frame locked that is kept
abbrev pub locker_shown : After → ℕ → Option Frame → Option Shown
locker_shown s a None = None
locker_shown s a (Some f) = locked_by a f (s.locks.frame f)

-- what bears on the reason, in an operation of the actor on the process
abbrev pub shows_reason : Program → After → ℕ → Op → ℕ → KeptAt → KeptWhy → Option Shown
shows_reason c s a o p what KeptWhy.NoFrame = taken (lowest_free c s.places (pool_of s o))
shows_reason c s a o p what (KeptWhy.LockedBy b) =
    or_else (locker_shown s a (kept_frame s p what)) (kept_place s.places p what)
shows_reason c s a o p what KeptWhy.NotHere = kept_place s.places p what
shows_reason c s a o p what KeptWhy.Lost = kept_place s.places p what
shows_reason c s a o p what KeptWhy.Skipped = None

-- the operation keeps such things: pages in a migration of a process's pages, frames in any
abbrev pub keeps_such : Op → KeptAt → Bool
keeps_such (Op.ToDevice m r) what = true
keeps_such (Op.ToSystem m r) what = true
keeps_such o (KeptAt.Page v) = false
keeps_such o (KeptAt.Frame f) = true

-- so for the actor's operation
abbrev pub shows_kept_in : Program → After → ℕ → Option Op → Kind → Option Shown
shows_kept_in c s a (Some o) (Kind.Kept what why) =
    if keeps_such o what then shows_reason c s a o (mirror_proc s.plain (op_mirror o)) what why else None
shows_kept_in c s a _ _ = None

-- why the reason of what is kept does not hold
abbrev pub shows_kept : Program → State → Entry → Option Shown
shows_kept c t e = shows_kept_in c t.after e.actor (op_at c e.actor (t.going e.actor).index) e.kind

-- ---- all parts

-- sequences allow these words as the actor's next entry
abbrev pub IsAllowed : Sequences → ℕ → Shown → Type 0
IsAllowed s a (Shown.Words k) = sequences_accept s a k ≡ true
IsAllowed s a (Shown.Unset m v) = ⊥

-- each field is what bears on its part, in the state
pub record AreShownIn (c : Program) (t : State) (e : Entry) (x : ShownParts) : Type 0 where
  pub answers : x.answers ≡ shows_answers t.after.plain e.kind
  pub places : x.places ≡ shows_places c t.after.places e.kind
  pub frames : x.frames ≡ taken (lowest_free c t.after.places PoolId.System)
  pub sequences : x.sequences ≡ shows_sequences t.after.sequences e.actor e.kind
  pub untold : x.untold ≡ entry_of e.kind (table_of t.after.places e.kind)
  pub guarded : x.guarded ≡ shows_guarded t.after.places e.kind
  pub kept : x.kept ≡ shows_kept c t e

-- so it is after the history
abbrev pub AreShown : Program → List Entry → Entry → ShownParts → Type 0
AreShown c h e x = AreShownIn c (state_of c h) e x

-- what is shown of sequences is an entry that sequences allow of the actor
abbrev pub ShownAreRight : Type 0
ShownAreRight =
    (c : Program) (h : List Entry) (e : Entry) (x : ShownParts) (y : Shown) → AreShown c h e x → x.sequences ≡ Some y
    → IsAllowed (after h).sequences e.actor y
