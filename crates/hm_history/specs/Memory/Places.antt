-- Where pages lie, which frames are held, and the mirrors' tables. A place is a page table entry; a mirror's table is
-- what the device has of it (Documentation/mm/hmm.rst).
use Rattle.std.specs.Prelude.{ℕ, ◌-◌, Bool, true, false, not, ◌&&◌, ◌||◌, nat_lt, nat_le, ◌==◌, if◌then◌else◌, Option}
use Rattle.std.specs.Prelude.{Some, None, is_none, List, [], ◌∷◌, unwrap_or, count_by, slice_index}
use Rattle.std.specs.List.{list_any, list_all}
use Rattle.hm_base.specs.Pages.{covers}
use Rattle.hm_base.specs.Program.{Program}
use Rattle.hm_base.specs.declared.PoolId.{PoolId}
use Rattle.hm_base.specs.declared.PoolId.TheVariants.{System, Device}
use Rattle.hm_base.specs.declared.Frame.{Frame}
use Rattle.hm_base.specs.declared.Place.{Place}
use Rattle.hm_base.specs.declared.Place.TheVariants.{Empty, Zero, Sys, Own, Moving, Exclusive}
use Rattle.hm_history.specs.Memory.Plain.{owned}
use Rattle.hm_history.specs.Memory.Words.{with_at, with_frame, least, page_of, sys_frame, same_frame, is_frame, names}
use Rattle.hm_history.specs.Memory.Words.{names_directly, moving_frame, is_empty_place, writable}
use Rattle.hm_history.specs.declared.Who.TheVariants.{Cpu, Mirror}
use Rattle.hm_history.specs.declared.TableRight.{TableRight}
use Rattle.hm_history.specs.declared.TableRight.TheVariants.{Read, Write, Sole}
use Rattle.hm_history.specs.declared.Kind.{Kind}

-- an entry of a mirror's table; no frame is the zero page
pub record TableEntry : Type 0 where
  pub target : Option Frame
  pub right : TableRight
  pub from : ℕ

-- the page tables, the frames and the mirrors' tables
pub record Places : Type 0 where
  pub place : ℕ → ℕ → Place
  pub placed : List (ℕ × ℕ)  -- the pages that a `place` entry named, each once
  pub held : Frame → Bool
  pub committed_to : Frame → Option Frame  -- where it was committed to since it was last taken
  pub withdrawn : ℕ → Bool
  pub removed : ℕ → Bool
  pub table : ℕ → ℕ → Option TableEntry
  pub device : ℕ → Option ℕ  -- a mirror's device; none if it was never attached

-- at the start no page is mapped and no frame is held
abbrev pub places_start : Places
places_start = record {
  place = λ p v. Empty;
  placed = [];
  held = λ f. false;
  committed_to = λ f. None;
  withdrawn = λ d. false;
  removed = λ d. false;
  table = λ m v. None;
  device = λ m. None;
}

-- it is that page
abbrev pub is_page : ℕ → ℕ → ℕ × ℕ → Bool
is_page p v x = (x.0 == p) && (x.1 == v)

-- the pages that were placed, with one more
abbrev pub with_page : ℕ → ℕ → List (ℕ × ℕ) → List (ℕ × ℕ)
with_page p v xs = if list_any (is_page p v) xs then xs else ((p, v) ∷ xs)

-- the page tables with one place changed
abbrev pub with_place : (ℕ → ℕ → Place) → ℕ → ℕ → Place → ℕ → ℕ → Place
with_place f p v x q u = if (q == p) && (u == v) then x else f q u

-- the mirrors' tables with one entry set
abbrev pub with_entry : (ℕ → ℕ → Option TableEntry) → ℕ → ℕ → TableEntry → ℕ → ℕ → Option TableEntry
with_entry f m v x k u = if (k == m) && (u == v) then Some x else f k u

-- the mirrors' tables without a mirror's entries on the pages that pass
abbrev pub erased_table : (ℕ → ℕ → Option TableEntry) → ℕ → (ℕ → Bool) → ℕ → ℕ → Option TableEntry
erased_table f m test k u = if (k == m) && test u then None else f k u

-- the places and frames after an entry
abbrev pub places_next : Places → Kind → Places
places_next s (Kind.Place p v x) = record s { place = with_place s.place p v x; placed = with_page p v s.placed }
places_next s (Kind.Take f) =
    record s { held = with_frame s.held f true; committed_to = with_frame s.committed_to f None }
places_next s (Kind.Drop f) = record s { held = with_frame s.held f false }
places_next s (Kind.Committed f g) = record s { committed_to = with_frame s.committed_to f (Some g) }
places_next s (Kind.Withdrawn d) = record s { withdrawn = with_at s.withdrawn d true }
places_next s (Kind.Removed d) = record s { removed = with_at s.removed d true }
places_next s (Kind.Set m v f w from) =
    record s { table = with_entry s.table m v (record { target = f; right = w; from = from }) }
places_next s (Kind.Told m r q) = record s { table = erased_table s.table m (covers r) }
places_next s (Kind.Detaching m q) = record s { table = erased_table s.table m (λ v. true) }
places_next s (Kind.Detached m) = record s { table = erased_table s.table m (λ v. true) }
places_next s (Kind.Attached m d p r q) = record s { device = with_at s.device m (Some d) }
places_next s _ = s

-- the lowest of the pages that pass the test, by process and then by page
abbrev pub lower : ℕ × ℕ → Option (ℕ × ℕ) → Option (ℕ × ℕ)
lower x None = Some x
lower x (Some y) = if nat_lt x.0 y.0 || ((x.0 == y.0) && nat_lt x.1 y.1) then Some x else Some y

-- the lowest page of a list that passes the test
abbrev pub lowest : (ℕ → ℕ → Bool) → List (ℕ × ℕ) → Option (ℕ × ℕ)
lowest test [] = None
lowest test (x ∷ xs) = elim (test x.0 x.1) [ true ↦ lower x (lowest test xs) | false ↦ lowest test xs ]

-- the lowest page that names the frame and is no migration entry
abbrev pub lowest_direct : Places → Frame → Option (ℕ × ℕ)
lowest_direct s f = lowest (λ p v. is_frame (names_directly (s.place p v)) f) s.placed

-- the lowest migration entry of the frame
abbrev pub lowest_moving : Places → Frame → Option (ℕ × ℕ)
lowest_moving s f = lowest (λ p v. is_frame (moving_frame (s.place p v)) f) s.placed

-- the lowest page that names the frame
abbrev pub lowest_named : Places → Frame → Option (ℕ × ℕ)
lowest_named s f = lowest (λ p v. is_frame (names (s.place p v)) f) s.placed

-- how many places name the frame
abbrev pub uses : Places → Frame → ℕ
uses s f = count_by (λ x. is_frame (names (s.place x.0 x.1)) f) s.placed

-- the lowest page of the process from there on whose place passes
abbrev pub next_page : Places → (Place → Bool) → ℕ → ℕ → Option ℕ
next_page s test p from =
    elim (lowest (λ q v. (q == p) && (nat_le from v && test (s.place q v))) s.placed) [
      | None ↦ None
      | Some x ↦ Some x.1
    ]

-- a page table entry is there
abbrev pub is_used : Place → Bool
is_used x = not (is_empty_place x)

-- how many frames a pool has
abbrev pub pool_size : Program → PoolId → ℕ
pool_size c System = c.frames
pool_size c (Device d) = slice_index c.devices d

-- no more frames are taken from the pool
abbrev pub is_withdrawn : Places → PoolId → Bool
is_withdrawn s System = false
is_withdrawn s (Device d) = s.withdrawn d

-- the frame of a number in a pool
abbrev pub frame_of : PoolId → ℕ → Frame
frame_of pool n = record { pool = pool; number = n }

-- the lowest free frame of a pool from which frames are taken
abbrev pub lowest_free : Program → Places → PoolId → Option Frame
lowest_free c s pool = elim (is_withdrawn s pool) [
  | true ↦ None
  | false ↦ elim (least (λ n. not (s.held (frame_of pool n))) 0 (pool_size c pool)) [
    | None ↦ None
    | Some n ↦ Some (frame_of pool n)
  ]
]

-- the lowest held frame of a device from there on
abbrev pub held_from : Program → Places → ℕ → ℕ → Option ℕ
held_from c s d from = least (λ n. s.held (frame_of (Device d) n)) from (pool_size c (Device d) - from)

-- what a place stands for: a frame, the zero page (Some None), or nothing. A migration entry stands for the frame that
-- its frame was committed to since that was last taken, and else for its own
abbrev pub stands_for : Places → Place → Option (Option Frame)
stands_for s Empty = None
stands_for s Zero = Some None
stands_for s (Sys n w) = Some (Some (sys_frame n))
stands_for s (Own d n w) = Some (Some (record { pool = Device d; number = n }))
stands_for s (Moving f w) = Some (Some (unwrap_or (s.committed_to f) f))
stands_for s (Exclusive n a) = Some (Some (sys_frame n))

-- the same frame, or both the zero page
abbrev pub same_target : Option Frame → Option Frame → Bool
same_target None None = true
same_target (Some f) (Some g) = same_frame f g
same_target _ _ = false

-- what a place stands for is this
abbrev pub is_target : Option (Option Frame) → Option Frame → Bool
is_target None t = false
is_target (Some x) t = same_target x t

-- both stand for a frame, and the same
abbrev pub is_frame_target : Option (Option Frame) → Option (Option Frame) → Bool
is_frame_target (Some (Some f)) (Some (Some g)) = same_frame f g
is_frame_target _ _ = false

-- the CPU reads the zero page and system memory, and writes writable system memory
abbrev pub cpu_reads : Place → Bool
cpu_reads Zero = true
cpu_reads (Sys n w) = true
cpu_reads _ = false

-- whether a CPU store may go through the place
abbrev pub cpu_writes : Place → Bool
cpu_writes (Sys n w) = w
cpu_writes _ = false

-- an exclusive page of that actor, of that frame
abbrev pub is_exclusive_of : Place → ℕ → Option Frame → Bool
is_exclusive_of (Exclusive n b) a t = (a == b) && same_target (Some (sys_frame n)) t
is_exclusive_of _ a t = false

-- an exclusive page of that actor
abbrev pub is_exclusive_by : Place → ℕ → Bool
is_exclusive_by (Exclusive n b) a = a == b
is_exclusive_by _ a = false

-- an exclusive page
abbrev pub is_exclusive : Place → Bool
is_exclusive (Exclusive n b) = true
is_exclusive _ = false

-- a table entry for reads or for writes
abbrev pub may_read : TableRight → Bool
may_read Read = true
may_read Write = true
may_read Sole = false

-- a table entry for writes
abbrev pub may_write : TableRight → Bool
may_write Read = false
may_write Write = true
may_write Sole = false

-- the table entry of an exclusive page
abbrev pub is_sole : TableRight → Bool
is_sole Read = false
is_sole Write = false
is_sole Sole = true

-- a table entry is there and passes the test
abbrev pub entry_passes : (TableEntry → Bool) → Option TableEntry → Bool
entry_passes test None = false
entry_passes test (Some x) = test x

-- through the table of mirror m a page of process p is read, which no actor has alone
abbrev pub table_reads : Places → ℕ → ℕ → ℕ → Bool
table_reads s m p v =
    let x = s.place p v in
    entry_passes (λ y. may_read y.right && (is_target (stands_for s x) y.target && not (is_exclusive x))) (s.table m v)

-- through the table of a mirror a page is written
abbrev pub table_writes : Places → ℕ → ℕ → ℕ → Bool
table_writes s m p v =
    table_reads s m p v && (entry_passes (λ x. may_write x.right) (s.table m v) && writable (s.place p v))

-- through the table of a mirror the actor reads and writes its exclusive page
abbrev pub table_sole : Places → ℕ → ℕ → ℕ → ℕ → Bool
table_sole s a m p v = entry_passes (λ x. is_sole x.right && is_exclusive_of (s.place p v) a x.target) (s.table m v)

-- if a writable place stands for a frame, no other place stands for it
abbrev pub one_writer : Places → Bool
one_writer s = list_all (λ x. not (writable (s.place x.0 x.1)) ||
    list_all (λ y. is_page x.0 x.1 y ||
    not (is_frame_target (stands_for s (s.place x.0 x.1)) (stands_for s (s.place y.0 y.1)))) s.placed) s.placed

-- the pool is that of a removed device
abbrev pub is_removed : Places → PoolId → Bool
is_removed s System = false
is_removed s (Device d) = s.removed d

-- the frame is of the system, or of the mirror's device
abbrev pub is_for_device : Option Frame → ℕ → Bool
is_for_device None d = true
is_for_device (Some f) d = elim f.pool [ System ↦ true | Device e ↦ d == e ]

-- what a place names is held
abbrev pub holds_target : Places → Option Frame → Bool
holds_target s None = true
holds_target s (Some f) = s.held f

-- whether there is a next state of places, for an entry of an actor; `proc` gives a mirror's process, if it was ever
-- attached. An access goes through a place or table entry that allows it, a place names held frames, `take` gives the
-- lowest free frame of a pool that is not withdrawn, a dropped frame is named by no place, no place shares what a
-- writable one stands for, only a mirror that was attached has table entries, none of another device's frame, and a
-- removed device holds no frame
abbrev pub places_accept : Program → (ℕ → Option ℕ) → Places → ℕ → Kind → Bool
places_accept c proc s a (Kind.Loaded (Cpu p) at bs) = cpu_reads (s.place p (page_of at))
places_accept c proc s a (Kind.Loaded (Mirror m) at bs) = owned (proc m) (λ p. table_reads s m p (page_of at))
places_accept c proc s a (Kind.Stored (Cpu p) at bs) = cpu_writes (s.place p (page_of at))
places_accept c proc s a (Kind.Stored (Mirror m) at bs) = owned (proc m) (λ p. table_writes s m p (page_of at))
places_accept c proc s a (Kind.Fetched m at bs) = owned (proc m) (λ p. table_sole s a m p (page_of at))
places_accept c proc s a (Kind.Added m at was now) = owned (proc m) (λ p. table_sole s a m p (page_of at))
places_accept c proc s a (Kind.Place p v x) =
    holds_target s (names x) && one_writer (places_next s (Kind.Place p v x))
places_accept c proc s a (Kind.Committed f g) = one_writer (places_next s (Kind.Committed f g))
places_accept c proc s a (Kind.Take f) =
    is_frame (lowest_free c s f.pool) f && not (is_removed s f.pool) && one_writer (places_next s (Kind.Take f))
places_accept c proc s a (Kind.Drop f) = s.held f && is_none (lowest_named s f)
places_accept c proc s a (Kind.Set m v f w from) = owned (s.device m) (is_for_device f)
places_accept c proc s a (Kind.Removed d) = is_none (held_from c s d 0)
places_accept c proc s a _ = true
