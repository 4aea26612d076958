-- What a driver has of its own: its table, the sequences of its intervals, and the bytes that its copies and the
-- device's stores leave in frames. The right driver has what the state has; one with a flaw may part from it.
use Rattle.std.specs.Prelude.{ℕ, Bool, true, false, not, ◌&&◌, nat_lt, ◌==◌, if◌then◌else◌, Option, Some, None, List}
use Rattle.std.specs.Prelude.{[], ◌∷◌, ◌++◌}
use Rattle.hm_base.specs.Pages.{Pages, covers}
use Rattle.hm_base.specs.declared.Frame.{Frame}
use Rattle.hm_base.specs.declared.PoolId.{PoolId}
use Rattle.hm_base.specs.declared.ops.Op.{Op}
use Rattle.hm_history.specs.Memory.Words.{with_at, page_of, is_frame}
use Rattle.hm_history.specs.Memory.Plain.{MirrorState, mirror_dev}
use Rattle.hm_history.specs.Memory.Places.{TableEntry, with_entry, erased_table}
use Rattle.hm_history.specs.Memory.Sequences.{interval_seq, interval_proc, interval_inserted}
use Rattle.hm_history.specs.Memory.Contents.{contents_next, stored_in}
use Rattle.hm_history.specs.Kernel.Operation.{op_mirror, is_migration, is_evicting}
use Rattle.hm_history.specs.Memory.After.{After}
use Rattle.hm_history.specs.declared.Kind.{Kind}
use Rattle.hm_history.specs.declared.Who.{Who}
use Rattle.hm_history.specs.declared.phases.Body.{Body}
use Rattle.hm_history.specs.declared.phases.Phase.{Phase}
use Rattle.hm_flaws.specs.declared.flaws.Flaw.{Flaw}

-- the tables of mirrors, the sequence of each mirror's interval, the spans that an actor's invalidation under way told
-- and that are not erased yet, each with its mirror, and the bytes of frames
pub record Driver : Type 0 where
  pub table : ℕ → ℕ → Option TableEntry
  pub seq : ℕ → ℕ
  pub late : ℕ → List (ℕ × Pages)
  pub contents : Frame → ℕ → ℕ

-- what the right driver has in a state
abbrev pub driver_of : After → Driver
driver_of s =
    record { table = s.places.table; seq = λ m. interval_seq s.sequences m; late = λ a. []; contents = s.contents }

-- ---- a mirror that is told

-- the first page of a span that lies in the mirror's window
abbrev pub first_within : Option MirrorState → Pages → ℕ
first_within None r = r.first
first_within (Some m) r = if nat_lt r.first m.window.first then m.window.first else r.first

-- a frame of the device
abbrev pub is_frame_of : Frame → ℕ → Bool
is_frame_of f d = elim f.pool [ PoolId.System ↦ false | PoolId.Device e ↦ d == e ]

-- the body is the setup or the commit of a migration by that device, or the bringing home of one of its pages; what
-- freezes the other mappings of a frame is for nobody, and so is an eviction
abbrev pub is_own_body : After → Op → Body → ℕ → Bool
is_own_body s o (Body.Select v) d = is_migration o && (mirror_dev s.plain (op_mirror o) == d)
is_own_body s o (Body.Fresh g) d = is_migration o && (mirror_dev s.plain (op_mirror o) == d)
is_own_body s o (Body.Catch f) d = not (is_evicting o) && is_frame_of f d
is_own_body s o body d = false

-- the entry tells a mirror of an invalidation for a migration of the mirror's own device; its actor has this stack
abbrev pub tells_own : After → Option Op → List Phase → Kind → Bool
tells_own s (Some o) (Phase.Guard p r met told body ∷ below) (Kind.Told m span q) =
    is_own_body s o body (mirror_dev s.plain m)
tells_own s o stack k = false

-- the table after the mirror was told of a span; `own` says that it was for a migration of its own device
abbrev pub told_table : Flaw → After → Bool → (ℕ → ℕ → Option TableEntry) → ℕ → Pages → ℕ → ℕ → Option TableEntry
told_table Flaw.TableLeft s own t m r = t
told_table Flaw.ErasedAtEnd s own t m r = t
told_table Flaw.FirstErased s own t m r = erased_table t m (λ v. v == first_within (s.plain.mirrors m) r)
told_table Flaw.OwnIgnored s own t m r = if own then t else erased_table t m (covers r)
told_table Flaw.OwnSequenceLeft s own t m r = if own then t else erased_table t m (covers r)
told_table Flaw.OwnTableLeft s own t m r = if own then t else erased_table t m (covers r)
told_table l s own t m r = erased_table t m (covers r)

-- the interval's sequence is left when its mirror is told
abbrev pub leaves_seq : Flaw → Bool → Bool
leaves_seq Flaw.SequenceLeft own = true
leaves_seq Flaw.OwnIgnored own = own
leaves_seq Flaw.OwnSequenceLeft own = own
leaves_seq l own = false

-- the sequences after the mirror was told in an invalidation whose process has sequence q
abbrev pub told_seq : Bool → (ℕ → ℕ) → ℕ → ℕ → ℕ → ℕ
told_seq leaves seq m q = if leaves then seq else with_at seq m q

-- what a mirror is told of is erased at the end only
abbrev pub is_late : Flaw → Bool
is_late Flaw.ErasedAtEnd = true
is_late l = false

-- the spans to be erased after actor a told the mirror of one
abbrev pub told_late : Flaw → (ℕ → List (ℕ × Pages)) → ℕ → ℕ → Pages → ℕ → List (ℕ × Pages)
told_late l late a m r = if is_late l then with_at late a (late a ++ (m, r) ∷ []) else late

-- the table without all these spans
abbrev pub erased_all : (ℕ → ℕ → Option TableEntry) → List (ℕ × Pages) → ℕ → ℕ → Option TableEntry
erased_all t [] = t
erased_all t (x ∷ xs) = erased_all (erased_table t x.0 (covers x.1)) xs

-- ---- the table otherwise

-- the table after its mirror was detached
abbrev pub left_table : Flaw → (ℕ → ℕ → Option TableEntry) → ℕ → ℕ → ℕ → Option TableEntry
left_table Flaw.UsedDetached t m = t
left_table l t m = erased_table t m (λ v. true)

-- a frame of some device
abbrev pub is_device : Frame → Bool
is_device f = elim f.pool [ PoolId.System ↦ false | PoolId.Device e ↦ true ]

-- the entry names the frame
abbrev pub names_frame : Option TableEntry → Frame → Bool
names_frame None f = false
names_frame (Some x) f = is_frame x.target f

-- the tables without the entries that name a frame
abbrev pub without_frame : (ℕ → ℕ → Option TableEntry) → Frame → ℕ → ℕ → Option TableEntry
without_frame t f m v = if names_frame (t m v) f then None else t m v

-- the table after a part of the frame was copied: a driver that ignores the invalidations of its own migrations erases
-- only now what it brings home, or what it moves either way
abbrev pub brought_table : Flaw → (ℕ → ℕ → Option TableEntry) → Frame → ℕ → ℕ → Option TableEntry
brought_table Flaw.OwnIgnored t f = if is_device f then without_frame t f else t
brought_table Flaw.OwnSequenceLeft t f = without_frame t f
brought_table Flaw.OwnTableLeft t f = without_frame t f
brought_table l t f = t

-- ---- the bytes of frames

-- the bytes after a frame was taken
abbrev pub taken_contents : Flaw → After → (Frame → ℕ → ℕ) → Frame → Frame → ℕ → ℕ
taken_contents Flaw.NotCleared s bytes g =
    if is_device g then bytes else contents_next s.plain s.places bytes (Kind.Take g)
taken_contents l s bytes g = contents_next s.plain s.places bytes (Kind.Take g)

-- the frame of an entry; none if there is no entry, or it is the zero page's
abbrev pub target_in : Option TableEntry → Option Frame
target_in None = None
target_in (Some x) = x.target

-- the frame that a mirror's access goes to, by the driver's own table
abbrev pub target_at : Driver → ℕ → ℕ → Option Frame
target_at x m at = target_in (x.table m (page_of at))

-- the bytes after an entry: what a device writes goes to the frame of the driver's own table entry
abbrev pub driver_contents : Flaw → After → Driver → Kind → Frame → ℕ → ℕ
driver_contents l s x (Kind.Take g) = taken_contents l s x.contents g
driver_contents l s x (Kind.Stored (Who.Mirror m) at bs) = stored_in x.contents (target_at x m at) at bs
driver_contents l s x (Kind.Added m at was now) = stored_in x.contents (target_at x m at) at (now ∷ [])
driver_contents l s x k = contents_next s.plain s.places x.contents k

-- ---- all of it

-- what the driver has after an entry of actor a; s is the state before the entry, and `own` says that it tells a mirror
-- of an invalidation for a migration of its own device
abbrev pub driver_next : Flaw → After → Bool → Driver → ℕ → Kind → Driver
driver_next l s own x a (Kind.Set m v f w from) =
    record x { table = with_entry x.table m v (record { target = f; right = w; from = from }) }
driver_next l s own x a (Kind.Told m r q) = record x {
  table = told_table l s own x.table m r;
  seq = told_seq (leaves_seq l own) x.seq m (s.sequences.seq (interval_proc s.sequences m));
  late = told_late l x.late a m r;
}
driver_next l s own x a (Kind.End p r q) =
    record x { table = erased_all x.table (x.late a); late = with_at x.late a [] }
driver_next l s own x a (Kind.Detaching m q) = record x { table = left_table l x.table m }
driver_next l s own x a (Kind.Detached m) = record x { table = left_table l x.table m }
driver_next l s own x a (Kind.Attached m d p r q) =
    record x { seq = with_at x.seq m (interval_inserted s.sequences p) }
driver_next l s own x a (Kind.Copied f g part) = record x {
  table = brought_table l x.table f;
  contents = driver_contents l s x (Kind.Copied f g part);
}
driver_next l s own x a k = record x { contents = driver_contents l s x k }
