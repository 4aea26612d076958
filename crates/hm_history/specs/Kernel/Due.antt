-- What is due to an actor after a history: an entry, a wait, or nothing. This is the memory manager: the steps of
-- faults (mm/memory.c), of range faulting (mm/hmm.c), of fork (`dup_mmap`), of unmapping and protection, of migration
-- (mm/migrate_device.c) and of the device (lib/test_hmm.c), one entry each.
use Rattle.std.specs.Prelude.{ℕ, ◌+◌, ◌%◌, Bool, true, false, not, ◌&&◌, ◌||◌, nat_lt, ◌==◌, if◌then◌else◌, Option}
use Rattle.std.specs.Prelude.{Some, None, is_some, is_none, List, ◌∷◌, count_by}
use Rattle.hm_base.specs.Pages.{Pages, one_page, all_pages}
use Rattle.hm_base.specs.Program.{Program}
use Rattle.hm_base.specs.declared.Frame.{Frame}
use Rattle.hm_base.specs.declared.cause.Cause.{Cause}
use Rattle.hm_base.specs.declared.PoolId.{PoolId}
use Rattle.hm_base.specs.declared.Place.{Place}
use Rattle.hm_base.specs.declared.ops.Op.{Op}
use Rattle.hm_history.specs.Memory.Words.{page_of, sys_frame, dev_frame, is_frame, names, names_directly, writable}
use Rattle.hm_history.specs.Memory.Words.{narrowed, place_in, same_place, snap_code}
use Rattle.hm_history.specs.Memory.Plain.{rights_of, is_read_only, is_read_write, area_refusal, meets, is_attached}
use Rattle.hm_history.specs.Memory.Plain.{in_window, mirror_proc, mirror_dev, plain_bytes}
use Rattle.hm_history.specs.Memory.Places.{TableEntry, cpu_reads, cpu_writes, is_exclusive_by, lowest_direct}
use Rattle.hm_history.specs.Memory.Places.{lowest_moving, lowest_named, uses, next_page, is_used, lowest_free}
use Rattle.hm_history.specs.Memory.Places.{held_from, entry_passes, may_read, may_write, is_sole}
use Rattle.hm_history.specs.Memory.Sequences.{is_odd, in_tree, insert_deferred, interval_seq, next_told, seq_started}
use Rattle.hm_history.specs.Memory.Sequences.{seq_ended, interval_inserted}
use Rattle.hm_history.specs.Memory.Locks.{writer, lowest_other, other_locker}
use Rattle.hm_history.specs.Memory.After.{After}
use Rattle.hm_history.specs.declared.Who.{Who}
use Rattle.hm_history.specs.declared.TableRight.{TableRight}
use Rattle.hm_history.specs.declared.KeptAt.{KeptAt}
use Rattle.hm_history.specs.declared.KeptWhy.{KeptWhy}
use Rattle.hm_history.specs.declared.Why.{Why}
use Rattle.hm_history.specs.declared.Kind.{Kind}
use Rattle.hm_history.specs.declared.Entry.{Entry}
use Rattle.hm_history.specs.declared.Progress.{Progress}
use Rattle.hm_history.specs.Kernel.Operation.{op_piece, op_who, op_mirror, op_writes, op_bytes, is_exclusive_op}
use Rattle.hm_history.specs.Kernel.Operation.{is_to_device}
use Rattle.hm_history.specs.Kernel.Stacks.{piece_of}
use Rattle.hm_history.specs.Kernel.Going.{State, op_at, state_of, touch_page, touch_proc, coming}
use Rattle.hm_history.specs.declared.phases.Migrating.{Migrating}
use Rattle.hm_history.specs.declared.phases.MoveStep.{MoveStep}
use Rattle.hm_history.specs.declared.phases.Touch.{Touch}
use Rattle.hm_history.specs.declared.phases.Touch.TheVariants.{Cpu, Walk, Sole}
use Rattle.hm_history.specs.declared.phases.Body.{Body}
use Rattle.hm_history.specs.declared.phases.Phase.{Phase}
use Rattle.hm_history.specs.declared.phases.Next.{Next}
use Rattle.hm_history.specs.declared.phases.Next.TheVariants.{Do, Wait}

-- ---- locks

-- the mmap lock is taken for reading once no other actor has it for writing (`mmap_read_lock`)
abbrev pub rlock : After → ℕ → Next
rlock s p = elim (writer s.locks p) [ None ↦ Do (Kind.Rlock p) | Some b ↦ Wait (Why.MapLock p b) ]

-- the mmap lock is taken for writing once no other actor has it (`mmap_write_lock`)
abbrev pub wlock : After → ℕ → ℕ → Next
wlock s p a = elim (lowest_other s.locks p a) [ None ↦ Do (Kind.Wlock p) | Some b ↦ Wait (Why.MapLock p b) ]

-- the start of an invalidation, with the sequence that it leaves (`mn_itree_inv_start_range`)
abbrev pub start_entry : After → ℕ → Pages → Kind
start_entry s p r = Kind.Start p r (seq_started s.sequences p r)

-- the sequence of a mirror's process
abbrev pub process_seq : After → ℕ → ℕ
process_seq s m = s.sequences.seq (mirror_proc s.plain m)

-- the interval's and the process's sequences are equal
abbrev pub is_invalidating : After → ℕ → Bool
is_invalidating s m = interval_seq s.sequences m == process_seq s m

-- the wait until that invalidation ends (`mmu_interval_read_begin` sleeps here)
abbrev pub invalidating : After → ℕ → Next
invalidating s m = Wait (Why.Invalidating m (interval_seq s.sequences m))

-- whether a CPU access may go through the place
abbrev pub suits : Bool → Place → Bool
suits writes x = if writes then cpu_writes x else cpu_reads x

-- a look-up takes its own device's pages without a fault (`hmm_vma_handle_pte`, mm/hmm.c), for writes the
-- writable ones; the kernel's takes a read-only one as well, and says that it is no page for writes
abbrev pub suits_walk : ℕ → Bool → Place → Bool
suits_walk d writes (Place.Own e n w) = (d == e) && (not writes || w)
suits_walk d writes x = suits writes x

-- ---- the answers of accesses

-- a piece of an access fails, for this cause
abbrev pub failed : Op → ℕ → Cause → Kind
failed o k why = let x = op_piece o k in Kind.Failed (op_who o) x.0 x.1 why

-- the answer of a piece of an access: what it wrote, or what it read
abbrev pub answer_of_piece : After → Op → ℕ → Kind
answer_of_piece s o k = let x = op_piece o k in
    elim (op_writes o) [
      | true ↦ Kind.Stored (op_who o) x.0 (op_bytes o x)
      | false ↦ Kind.Loaded (op_who o) x.0 (plain_bytes s.plain (op_who o) x.0 x.1)
    ]

-- a cause of `exclusive` is a refusal
abbrev pub fails : Op → ℕ → Cause → Kind
fails o k why = elim (is_exclusive_op o) [ true ↦ Kind.Refused why | false ↦ failed o k why ]

-- an access by the CPU: a suitable place answers, else a fault begins
abbrev pub due_cpu : After → Op → ℕ → ℕ → Next
due_cpu s o k p =
    elim (s.plain.there p) [
      | false ↦ Do (failed o k Cause.Unmapped)
      | true ↦
          elim (suits (op_writes o) (s.places.place p (page_of (op_piece o k).0))) [
            | true ↦ Do (answer_of_piece s o k)
            | false ↦ rlock s p
          ]
    ]

-- ---- an access through a mirror

-- the table entry is there and allows the access
abbrev pub is_usable : Bool → Option TableEntry → Bool
is_usable writes x = entry_passes (λ y. if writes then may_write y.right else may_read y.right) x

-- a look-up begins with its interval's sequence, once nobody invalidates it (`mmu_interval_read_begin`)
abbrev pub begin_look_up : After → ℕ → Next
begin_look_up s m = elim (is_invalidating s m) [
  | true ↦ invalidating s m
  | false ↦ Do (Kind.Begin m (interval_seq s.sequences m))
]

-- a piece of an access through a mirror: outside the window it fails, a usable table entry answers, else a look-up
abbrev pub due_mirror : After → Op → ℕ → ℕ → Next
due_mirror s o k m = let v = page_of (op_piece o k).0 in
    elim (in_window s.plain m (one_page v)) [
      | false ↦ Do (failed o k Cause.Outside)
      | true ↦
          elim (is_usable (op_writes o) (s.places.table m v)) [
            | true ↦ Do (answer_of_piece s o k)
            | false ↦ begin_look_up s m
          ]
    ]

-- ---- an addition to a byte of a page that the actor has alone

-- the actor has the page alone: its mirror's table says so, and the page still does
abbrev pub has_exclusive : After → ℕ → ℕ → ℕ → Bool
has_exclusive s a m v =
    entry_passes (λ x. is_sole x.right) (s.places.table m v)
    && is_exclusive_by (s.places.place (mirror_proc s.plain m) v) a

-- an addition: outside the window it fails, an exclusive page's byte is fetched, else the lock is taken for a fault
abbrev pub due_add : After → ℕ → Op → ℕ → ℕ → Next
due_add s a o m at = let v = page_of at in
    elim (in_window s.plain m (one_page v)) [
      | false ↦ Do (failed o 0 Cause.Outside)
      | true ↦
          elim (has_exclusive s a m v) [
            | true ↦ Do (Kind.Fetched m at (plain_bytes s.plain (Who.Mirror m) at 1))
            | false ↦ rlock s (mirror_proc s.plain m)
          ]
    ]

-- the byte of an addition was read: it is added to if the actor still has the page alone, else all begins anew. For
-- another operation the answer is a refusal with the cause `Never`: no run comes there
abbrev pub due_fetched : After → ℕ → Op → ℕ → Next
due_fetched s a (Op.Add m at n) old = elim (has_exclusive s a m (page_of at)) [
  | true ↦ Do (Kind.Added m at old ((old + n) % 256))
  | false ↦ due_add s a (Op.Add m at n) m at
]
due_fetched s a o old = Do (Kind.Refused Cause.Never)

-- a piece of an access is next
abbrev pub due_piece : After → ℕ → Op → ℕ → Next
due_piece s a (Op.Add m at n) k = due_add s a (Op.Add m at n) m at
due_piece s a (Op.DeviceLoad m at n) k = due_mirror s (Op.DeviceLoad m at n) k m
due_piece s a (Op.DeviceStore m at bs) k = due_mirror s (Op.DeviceStore m at bs) k m
due_piece s a (Op.Load p at n) k = due_cpu s (Op.Load p at n) k p
due_piece s a (Op.Store p at bs) k = due_cpu s (Op.Store p at bs) k p
due_piece s a o k = Do (Kind.Refused Cause.Never)

-- ---- the fault, under the mmap lock for reading

-- a frame of the system is taken, or this entry stands for that none is free
abbrev pub take_or : Program → After → Kind → Next
take_or c s failing = elim (lowest_free c s.places PoolId.System) [ Some g ↦ Do (Kind.Take g) | None ↦ Do failing ]

-- a frame of the system is taken, or the access fails for want of one
abbrev pub take_or_fail : Program → After → Op → ℕ → Next
take_or_fail c s o k = take_or c s (fails o k Cause.NoFrame)

-- nobody has it locked and no other place names it: made writable in place (`wp_page_reuse`, mm/memory.c)
abbrev pub is_used_once : After → Frame → Bool
is_used_once s f = is_none (s.locks.frame f) && (uses s.places f == 1)

-- the guard that brings a device page home, once nobody else has its frame locked (`migrate_to_ram`; the kernel does
-- not wait: the fault ends with nothing done, and comes again)
abbrev pub bring_home : After → ℕ → ℕ → ℕ → Frame → Next
bring_home s a p v f = elim (other_locker s.locks f a) [
  | None ↦ Do (start_entry s p (one_page v))
  | Some b ↦ Wait (Why.FrameLocked f b)
]

-- a read-only page of the system: written in place if its frame is used once, else a frame is taken for a copy
abbrev pub fault_sys : Program → After → ℕ → ℕ → ℕ → Kind → Next
fault_sys c s p v n failing = elim (is_used_once s (sys_frame n)) [
  | true ↦ Do (Kind.Place p v (Place.Sys n true))
  | false ↦ take_or c s failing
]

-- a migration entry is waited for, device memory brought home, an exclusive page given back, an untouched page mapped
-- (`do_anonymous_page`), the zero page and a read-only frame copied (`do_wp_page`)
abbrev pub fault_at : Program → After → ℕ → Op → ℕ → ℕ → ℕ → Place → Next
fault_at c s a o k p v (Place.Moving f w) = Wait (Why.Moving p v)
fault_at c s a o k p v (Place.Own d n w) = bring_home s a p v (dev_frame d n)
fault_at c s a o k p v (Place.Exclusive n b) = Do (start_entry s p (one_page v))
fault_at c s a o k p v Place.Empty = elim (op_writes o) [
  | false ↦ Do (Kind.Place p v Place.Zero)
  | true ↦ take_or_fail c s o k
]
fault_at c s a o k p v Place.Zero = take_or_fail c s o k
fault_at c s a o k p v (Place.Sys n w) = fault_sys c s p v n (fails o k Cause.NoFrame)

-- a fault's decision (`handle_mm_fault`): it fails, the place suits and the lock goes, or the place is seen to
abbrev pub fault : Program → After → ℕ → Op → ℕ → (Place → Bool) → ℕ → ℕ → Next
fault c s a o k suited p v =
    elim (is_none (rights_of s.plain p v)) [
      | true ↦ Do (fails o k Cause.Unmapped)
      | false ↦
          elim (op_writes o && is_read_only (rights_of s.plain p v)) [
            | true ↦ Do (fails o k Cause.Forbidden)
            | false ↦
                elim (suited (s.places.place p v)) [
                  | true ↦ Do (Kind.Runlock p)
                  | false ↦ fault_at c s a o k p v (s.places.place p v)
                ]
          ]
    ]

-- the look-up is to be repeated
abbrev pub repeats : After → ℕ → ℕ → Bool
repeats s m q = not (is_attached s.plain m) || not (interval_seq s.sequences m == q)

-- a page is taken for one actor alone (`make_device_exclusive_range`)
abbrev pub due_sole : Program → After → ℕ → Op → ℕ → ℕ → ℕ → Place → Next
due_sole c s a o m p v (Place.Exclusive n b) = elim (a == b) [
  | true ↦ elim (is_invalidating s m) [
    | true ↦ invalidating s m
    | false ↦ Do (Kind.Set m v (Some (sys_frame n)) TableRight.Sole s.length)
  ]
  | false ↦ fault c s a o 0 (suits true) p v
]
due_sole c s a o m p v (Place.Sys n true) = Do (start_entry s p (one_page v))
due_sole c s a o m p v x = fault c s a o 0 (suits true) p v

-- a fault decides, by whose touch it is
abbrev pub due_decide : Program → After → ℕ → Op → Touch → ℕ → ℕ → Next
due_decide c s a o (Cpu k) p v = fault c s a o k (suits (op_writes o)) p v
due_decide c s a o (Walk k since q) p v = let m = op_mirror o in elim (repeats s m q) [
  | true ↦ Do (Kind.Retry m)
  | false ↦ fault c s a o k (suits_walk (mirror_dev s.plain m) (op_writes o)) p v
]
due_decide c s a o Sole p v = let m = op_mirror o in elim (is_attached s.plain m) [
  | false ↦ Do (fails o 0 Cause.Outside)
  | true ↦ due_sole c s a o m p v (s.places.place p v)
]

-- the right that a table entry gets, from that of the place
abbrev pub right_of : Bool → TableRight
right_of w = elim w [ true ↦ TableRight.Write | false ↦ TableRight.Read ]

-- the driver's commit of a look-up, under its lock: the noted place is set, or all is repeated
-- (`mmu_interval_read_retry`)
abbrev pub due_noted : After → Op → ℕ → ℕ → ℕ → Place → Next
due_noted s o k since q x = let m = op_mirror o in elim (repeats s m q) [
  | true ↦ Do (Kind.Retry m)
  | false ↦ Do (Kind.Set m (page_of (op_piece o k).0) (names x) (right_of (writable x)) since)
]

-- the page changed meanwhile: drop the frame; it was untouched: place it; else copy into it
abbrev pub due_taken : After → Frame → Place → ℕ → ℕ → Next
due_taken s g over p v = elim (same_place (s.places.place p v) over) [
  | false ↦ Do (Kind.Drop g)
  | true ↦ elim (names over) [ None ↦ Do (Kind.Place p v (place_in g true)) | Some f ↦ Do (Kind.Copied f g None) ]
]

-- ---- the bodies of guards: the next entry, if there is one

-- the entry of the page that a search found, if it lies in the span
abbrev pub within : Pages → Option ℕ → (ℕ → Kind) → Option Kind
within r None f = None
within r (Some v) f = elim (nat_lt v (r.first + r.count)) [ true ↦ Some (f v) | false ↦ None ]

-- a page of a fork: the parent's write right goes first, then the child gets the same place (`copy_present_pte`,
-- `copy_nonpresent_pte`, mm/memory.c)
abbrev pub fork_page : After → ℕ → ℕ → ℕ → Kind
fork_page s p child v = let x = s.places.place p v in
    elim (writable x) [ true ↦ Kind.Place p v (narrowed x) | false ↦ Kind.Place child v x ]

-- the child of a fork
abbrev pub child_of : Op → ℕ
child_of (Op.Fork p child) = child
child_of _ = 0

-- setup: a page whose frame another actor has locked is kept, else it is frozen (`trylock_page`)
abbrev pub kept_or_frozen : After → ℕ → ℕ → ℕ → Frame → Bool → Kind
kept_or_frozen s a p v f w = elim (other_locker s.locks f a) [
  | Some b ↦ Kind.Kept (KeptAt.Page v) (KeptWhy.LockedBy b)
  | None ↦ Kind.Place p v (Place.Moving f w)
]

-- setup: the page is not where the migration begins
abbrev pub not_here : ℕ → Kind
not_here v = Kind.Kept (KeptAt.Page v) KeptWhy.NotHere

-- setup of a migration to a device, by the page's place
abbrev pub select_to_device : After → ℕ → ℕ → ℕ → Place → Kind
select_to_device s a p v Place.Empty = Kind.Fresh p v
select_to_device s a p v Place.Zero = Kind.Fresh p v
select_to_device s a p v (Place.Sys n w) = kept_or_frozen s a p v (sys_frame n) w
select_to_device s a p v _ = not_here v

-- setup of a migration to the system: its own device's pages alone
abbrev pub select_to_system : After → ℕ → ℕ → ℕ → ℕ → Place → Kind
select_to_system s a d p v (Place.Own e n w) = elim (d == e) [
  | true ↦ kept_or_frozen s a p v (dev_frame e n) w
  | false ↦ not_here v
]
select_to_system s a d p v _ = not_here v

-- setup of a migration, page by page (`migrate_vma_collect_pmd`)
abbrev pub select_page : After → ℕ → Op → ℕ → ℕ → Kind
select_page s a o p v = elim (is_to_device o) [
  | false ↦ select_to_system s a (mirror_dev s.plain (op_mirror o)) p v (s.places.place p v)
  | true ↦ elim (rights_of s.plain p v) [ None ↦ not_here v | Some w ↦ select_to_device s a p v (s.places.place p v) ]
]

-- an entry under a condition
abbrev pub if_so : Bool → Kind → Option Kind
if_so b k = elim b [ true ↦ Some k | false ↦ None ]

-- an exclusive page becomes an ordinary page of the system (`restore_exclusive_pte`)
abbrev pub restore_at : ℕ → ℕ → Place → Option Kind
restore_at p v (Place.Exclusive n b) = Some (Kind.Place p v (Place.Sys n true))
restore_at p v _ = None

-- the place names no frame, so that a migration to a device takes a fresh one
abbrev pub has_no_frame : Place → Bool
has_no_frame Place.Empty = true
has_no_frame Place.Zero = true
has_no_frame _ = false

-- a body of one page places it only if the page is still as it was; at the end an unplaced one is over
abbrev pub due_body : After → ℕ → Op → ℕ → Pages → Place → Body → Option Kind
due_body s a o p r x Body.Nothing = None
due_body s a o p r x (Body.Zap v) = within r (next_page s.places is_used p v) (λ u. Kind.Place p u Place.Empty)
due_body s a o p r x (Body.Narrow v) =
    within r (next_page s.places writable p v) (λ u. Kind.Place p u (narrowed (s.places.place p u)))
due_body s a o p r x (Body.Fork v false) = within r (next_page s.places is_used p v) (fork_page s p (child_of o))
due_body s a o p r x (Body.Fork v true) = Some (Kind.Place (child_of o) v (s.places.place p v))
due_body s a o p r x (Body.Select v) = within r (Some v) (select_page s a o p)
due_body s a o p r x (Body.Replace over g) = if_so (same_place x over) (Kind.Place p r.first (place_in g true))
due_body s a o p r x Body.Restore = restore_at p r.first x
due_body s a o p r x (Body.Catch f) =
    if_so (is_frame (names_directly x) f && is_none (s.locks.frame f))
    (Kind.Place p r.first (Place.Moving f (writable x)))
due_body s a o p r x (Body.Freeze f) =
    if_so (is_frame (names_directly x) f) (Kind.Place p r.first (Place.Moving f (writable x)))
due_body s a o p r x (Body.Fresh g) =
    if_so (has_no_frame x) (Kind.Place p r.first (place_in g (is_read_write (rights_of s.plain p r.first))))
due_body s a o p r x (Body.Seize f) =
    if_so (same_place x (Place.Sys f.number true)) (Kind.Place p r.first (Place.Exclusive f.number a))

-- the body's next entry, and after the last one the end of the invalidation
abbrev pub body_or_end : After → ℕ → Pages → Option Kind → Kind
body_or_end s p r None = Kind.End p r (seq_ended s.sequences p)
body_or_end s p r (Some k) = k

-- the next mirror that is to be told, if the start met any
abbrev pub to_tell : After → ℕ → Pages → Bool → Option ℕ → Option ℕ
to_tell s p r met told = elim met [ true ↦ next_told s.sequences p r told | false ↦ None ]

-- inside a guard: the mirrors are told, then the body has its entries, then the end
abbrev pub due_guard : After → ℕ → Op → ℕ → Pages → Bool → Option ℕ → Body → Kind
due_guard s a o p r met told body = elim (to_tell s p r met told) [
  | Some m ↦ Kind.Told m r (s.sequences.seq p)
  | None ↦ body_or_end s p r (due_body s a o p r (s.places.place p r.first) body)
]

-- a frame is emptied: its other mappings are frozen first
abbrev pub due_emptying : Program → After → Frame → KeptAt → Kind
due_emptying c s f what = elim (lowest_direct s.places f) [
  | Some x ↦ start_entry s x.0 (one_page x.1)
  | None ↦ elim (lowest_free c s.places PoolId.System) [
    | Some g ↦ Kind.Take g
    | None ↦ Kind.Kept what KeptWhy.NoFrame
  ]
]

-- a frame that was locked: unlocked if a place names it, else dropped (`folio_unlock`, `folio_put`)
abbrev pub settle : After → Frame → Kind
settle s g = elim (lowest_named s.places g) [ Some x ↦ Kind.Done g | None ↦ Kind.Drop g ]

-- the frame that mappings come back to: the destination, or without one the frame itself
abbrev pub target_of : Frame → Option Frame → Frame
target_of f None = f
target_of f (Some g) = g

-- when all mappings are back: the old frame of a move is dropped, an unmoved one settled
abbrev pub finish_frames : After → Frame → Option Frame → Kind
finish_frames s f None = settle s f
finish_frames s f (Some g) = Kind.Drop f

-- the next mapping of a frame comes back, and after the last one its frames are seen to (`remove_migration_ptes`,
-- mm/migrate.c)
abbrev pub due_finish : After → Frame → Option Frame → Kind
due_finish s f to = elim (lowest_moving s.places f) [
  | Some x ↦ Kind.Place x.0 x.1 (place_in (target_of f to) (writable (s.places.place x.0 x.1)))
  | None ↦ finish_frames s f to
]

-- no frame was free for what was brought home: the access fails, or the removal is refused
abbrev pub due_give_up : Op → Option Touch → Kind
due_give_up o None = Kind.Refused Cause.NoFrame
due_give_up o (Some touch) = fails o (piece_of touch) Cause.NoFrame

-- ---- eviction and removal

-- a frame that another actor has locked: a removal waits for it, an eviction keeps it
abbrev pub locked_frame : Bool → Frame → ℕ → Next
locked_frame remove f b = elim remove [
  | true ↦ Wait (Why.FrameLocked f b)
  | false ↦ Do (Kind.Kept (KeptAt.Frame f) (KeptWhy.LockedBy b))
]

-- an eviction at a held frame: it waits or keeps, begins the guard of the first mapping, or drops an unnamed frame
abbrev pub frame_at : After → ℕ → Bool → Frame → Next
frame_at s a remove f = elim (other_locker s.locks f a) [
  | Some b ↦ locked_frame remove f b
  | None ↦ elim (lowest_named s.places f) [ Some x ↦ Do (start_entry s x.0 (one_page x.1)) | None ↦ Do (Kind.Drop f) ]
]

-- after the last frame: the answer of an eviction, or of a removal
abbrev pub frames_end : After → ℕ → Bool → ℕ → Kind
frames_end s d remove n = elim remove [
  | false ↦ Kind.Evicted n
  | true ↦ elim (s.places.removed d) [ true ↦ Kind.Refused Cause.Removed | false ↦ Kind.Removed d ]
]

-- an eviction from this frame number on; a removal withdraws the device first
abbrev pub due_frames_of : Program → After → ℕ → ℕ → Bool → ℕ → ℕ → Next
due_frames_of c s a d remove v n = elim (remove && not (s.places.withdrawn d)) [
  | true ↦ Do (Kind.Withdrawn d)
  | false ↦ elim (held_from c s.places d v) [
    | None ↦ Do (frames_end s d remove n)
    | Some k ↦ frame_at s a remove (dev_frame d k)
  ]
]

-- an eviction or a removal at a frame number (`dmirror_device_evict_chunk`)
abbrev pub due_frames : Program → After → ℕ → Op → ℕ → ℕ → Next
due_frames c s a (Op.Evict d) v n = due_frames_of c s a d false v n
due_frames c s a (Op.Remove d) v n = due_frames_of c s a d true v n
due_frames c s a o v n = Do (Kind.Refused Cause.Never)

-- ---- the steps of a migration after its setup

-- the driver passes the page over, by the script's skip number
abbrev pub skips : Program → Op → ℕ → Bool
skips c o v = is_to_device o && (not (c.skip == 0) && (v % c.skip == 0))

-- where a migration takes its frames
abbrev pub pool_of : After → Op → PoolId
pool_of s o = elim (is_to_device o) [
  | true ↦ PoolId.Device (mirror_dev s.plain (op_mirror o))
  | false ↦ PoolId.System
]

-- the next mapping of the frame is to be frozen (`try_to_migrate`)
abbrev pub others_of : After → Option Frame → Kind
others_of s None = Kind.Refused Cause.Never
others_of s (Some f) = elim (lowest_direct s.places f) [
  | Some x ↦ start_entry s x.0 (one_page x.1)
  | None ↦ Kind.Refused Cause.Never
]

-- a destination for the page, unless the driver passes it over or no frame is free (`dmirror_migrate_alloc_and_copy`)
abbrev pub fetch_page : Program → After → Op → ℕ → Kind
fetch_page c s o v = elim (skips c o v) [
  | true ↦ Kind.Kept (KeptAt.Page v) KeptWhy.Skipped
  | false ↦ elim (lowest_free c s.places (pool_of s o)) [
    | Some g ↦ Kind.Take g
    | None ↦ Kind.Kept (KeptAt.Page v) KeptWhy.NoFrame
  ]
]

-- a page's copy is committed, or a fresh page gets its frame (`migrate_vma_pages`, `migrate_vma_insert_page`)
abbrev pub commit_page : After → ℕ → ℕ → Option Frame → Option Frame → Kind
commit_page s p v (Some f) (Some g) = Kind.Committed f g
commit_page s p v None (Some g) = elim (has_no_frame (s.places.place p v)) [
  | true ↦ start_entry s p (one_page v)
  | false ↦ Kind.Kept (KeptAt.Page v) KeptWhy.Lost
]
commit_page s p v f None = Kind.Refused Cause.Never

-- the page's mappings come back, or a fresh page's frame is unlocked (`migrate_vma_finalize`)
abbrev pub finish_page : After → Option Frame → Option Frame → Bool → Kind
finish_page s (Some f) to moved = due_finish s f (if moved then to else None)
finish_page s None (Some g) moved = Kind.Done g
finish_page s None None moved = Kind.Refused Cause.Never

-- the driver sets the new frame in its own table, with the right that the page has (`dmirror_migrate_finalize_and_map`)
abbrev pub set_own : After → ℕ → ℕ → Migrating → Kind
set_own s m p x = Kind.Set m x.page x.dest (right_of (writable (s.places.place p x.page))) s.length

-- what a step of a migration has for a page
abbrev pub due_step : Program → After → Op → MoveStep → Migrating → Kind
due_step c s o MoveStep.FreezeOthers x = others_of s x.source
due_step c s o MoveStep.TakeAndCopy x = fetch_page c s o x.page
due_step c s o MoveStep.Commit x = commit_page s (mirror_proc s.plain (op_mirror o)) x.page x.source x.dest
due_step c s o MoveStep.SetOwnTable x = set_own s (op_mirror o) (mirror_proc s.plain (op_mirror o)) x
due_step c s o MoveStep.Finish x = finish_page s x.source x.dest x.moved

-- what the step has for its page; at the end the answer, with the number of pages that were moved
abbrev pub due_moves : Program → After → Op → List Migrating → Option (MoveStep × Migrating) → Kind
due_moves c s o xs None = Kind.Migrated (count_by (λ x. x.moved) xs)
due_moves c s o xs (Some at) = due_step c s o at.0 at.1

-- ---- the first turn of an operation

-- the mmap lock for writing, if the process is there
abbrev pub under_wlock : After → ℕ → ℕ → Next
under_wlock s a p = elim (s.plain.there p) [ true ↦ wlock s p a | false ↦ Do (Kind.Refused Cause.NoProcess) ]

-- what begins with the mmap lock for reading, over pages of the mirror's window
abbrev pub in_window_rlock : After → ℕ → Pages → Next
in_window_rlock s m r = elim (in_window s.plain m r) [
  | true ↦ rlock s (mirror_proc s.plain m)
  | false ↦ Do (Kind.Refused Cause.Outside)
]

-- `attach`: a number once, a process that is there (`mmu_interval_notifier_insert`)
abbrev pub due_attach : After → ℕ → ℕ → ℕ → Pages → Kind
due_attach s m d p r =
    elim (is_some (s.plain.mirrors m)) [
      | true ↦ Kind.Refused Cause.MirrorTaken
      | false ↦
          elim (s.plain.there p) [
            | false ↦ Kind.Refused Cause.NoProcess
            | true ↦ Kind.Attached m d p r (interval_inserted s.sequences p)
          ]
    ]

-- `detach`: at once, or when the invalidation under way has ended (`mmu_interval_notifier_remove`)
abbrev pub due_detach : After → ℕ → Kind
due_detach s m =
    elim (is_attached s.plain m) [
      | false ↦ Kind.Refused Cause.Outside
      | true ↦
          elim (not (is_odd (process_seq s m)) || insert_deferred s.sequences m) [
            | true ↦ Kind.Detached m
            | false ↦ Kind.Detaching m (process_seq s m)
          ]
    ]

-- the first turn of an operation that is no access and no eviction
abbrev pub due_begin : After → ℕ → Op → Next
due_begin s a (Op.Map p r w) = under_wlock s a p
due_begin s a (Op.Unmap p r) = under_wlock s a p
due_begin s a (Op.Protect p r w) = under_wlock s a p
due_begin s a (Op.Exit p) = under_wlock s a p
due_begin s a (Op.Fork p child) = under_wlock s a p
due_begin s a (Op.Attach m d p r) = Do (due_attach s m d p r)
due_begin s a (Op.Detach m) = Do (due_detach s m)
due_begin s a (Op.Snap m r) = in_window_rlock s m r
due_begin s a (Op.ToDevice m r) = in_window_rlock s m r
due_begin s a (Op.ToSystem m r) = in_window_rlock s m r
due_begin s a (Op.Exclusive m v) = in_window_rlock s m (one_page v)
due_begin s a _ = Do (Kind.Refused Cause.Never)

-- ---- under the mmap lock for writing

-- the process whose lock an operation takes for writing
abbrev pub proc_of_op : Op → ℕ
proc_of_op (Op.Map p r w) = p
proc_of_op (Op.Unmap p r) = p
proc_of_op (Op.Protect p r w) = p
proc_of_op (Op.Exit p) = p
proc_of_op (Op.Fork p child) = p
proc_of_op _ = 0

-- under the mmap lock for writing, with nothing against it: the answer, the guard, or the child's number
abbrev pub due_areas : After → Op → Kind
due_areas s (Op.Map p r w) = Kind.Mapped p r w
due_areas s (Op.Unmap p r) = elim (meets r (s.plain.areas p)) [ true ↦ start_entry s p r | false ↦ Kind.Unmapped p r ]
due_areas s (Op.Protect p r w) = start_entry s p r
due_areas s (Op.Exit p) = start_entry s p all_pages
due_areas s (Op.Fork p child) = elim ((child == 0) || s.plain.named child) [
  | true ↦ Kind.Refused Cause.NameTaken
  | false ↦ Kind.Named p child
]
due_areas s _ = Kind.Refused Cause.Never

-- under the mmap lock for writing: a refusal, or the change
abbrev pub due_locked : After → Op → Kind
due_locked s o =
    elim (s.plain.there (proc_of_op o)) [
      | false ↦ Kind.Refused Cause.NoProcess
      | true ↦
          elim (area_refusal s.plain o) [ Some why ↦ Kind.Refused why | None ↦ due_areas s o ]
    ]

-- the guard over the operation's span begins
abbrev pub due_ready : After → Op → Kind
due_ready s (Op.Fork p child) = start_entry s p all_pages
due_ready s (Op.ToDevice m r) = start_entry s (mirror_proc s.plain m) r
due_ready s (Op.ToSystem m r) = start_entry s (mirror_proc s.plain m) r
due_ready s _ = Kind.Refused Cause.Never

-- the operation's answer; an addition that has its table entry releases the lock instead
abbrev pub due_answer : After → Op → Kind
due_answer s (Op.Unmap p r) = Kind.Unmapped p r
due_answer s (Op.Protect p r w) = Kind.Protected p r w
due_answer s (Op.Exit p) = Kind.Exited p
due_answer s (Op.Fork p child) = Kind.Forked p child
due_answer s (Op.Exclusive m v) = Kind.Excluded m v
due_answer s o = Kind.Runlock (mirror_proc s.plain (op_mirror o))

-- a detach waits until its interval has left the tree
abbrev pub due_detaching : After → ℕ → ℕ → Next
due_detaching s m q = elim (in_tree s.sequences m) [
  | true ↦ Wait (Why.Invalidating m q)
  | false ↦ Do (Kind.Detached m)
]

-- a snapshot's next page (`dmirror_snapshot`)
abbrev pub due_pages : After → Op → ℕ → Kind
due_pages s (Op.Snap m r) v = let p = mirror_proc s.plain m in elim (nat_lt v (r.first + r.count)) [
  | true ↦ Kind.Seen m v (snap_code (s.places.place p v) (mirror_dev s.plain m))
  | false ↦ Kind.Runlock p
]
due_pages s o v = Kind.Refused Cause.Never

-- what is due at a phase
abbrev pub due_phase : Program → After → ℕ → Op → List Migrating → Phase → Next
due_phase c s a o xs Phase.Begin = due_begin s a o
due_phase c s a o xs Phase.Locked = Do (due_locked s o)
due_phase c s a o xs Phase.Ready = Do (due_ready s o)
due_phase c s a o xs Phase.Answer = Do (due_answer s o)
due_phase c s a o xs (Phase.Detaching q) = due_detaching s (op_mirror o) q
due_phase c s a o xs (Phase.Pages v) = Do (due_pages s o v)
due_phase c s a o xs (Phase.Piece k) = due_piece s a o k
due_phase c s a o xs (Phase.Fetched old) = due_fetched s a o old
due_phase c s a o xs (Phase.Begun k since q) = rlock s (mirror_proc s.plain (op_mirror o))
due_phase c s a o xs (Phase.Decide touch) = due_decide c s a o touch (touch_proc s o) (touch_page o touch)
due_phase c s a o xs (Phase.Noted k since q x) = due_noted s o k since q x
due_phase c s a o xs (Phase.Taken touch g x) = due_taken s g x (touch_proc s o) (touch_page o touch)
due_phase c s a o xs (Phase.Armed touch g x) = Do (start_entry s (touch_proc s o) (one_page (touch_page o touch)))
due_phase c s a o xs (Phase.Guard p r met told body) = Do (due_guard s a o p r met told body)
due_phase c s a o xs (Phase.Drop f) = Do (Kind.Drop f)
due_phase c s a o xs (Phase.Emptying f what) = Do (due_emptying c s f what)
due_phase c s a o xs (Phase.Copy f g k) = Do (Kind.Copied f g (Some k))
due_phase c s a o xs (Phase.Copied f g) = Do (Kind.Committed f g)
due_phase c s a o xs (Phase.Finish f to) = Do (due_finish s f to)
due_phase c s a o xs (Phase.Settle g) = Do (settle s g)
due_phase c s a o xs (Phase.GiveUp touch) = Do (due_give_up o touch)
due_phase c s a o xs (Phase.Frames v n) = due_frames c s a o v n
due_phase c s a o xs (Phase.Moves step v) = Do (due_moves c s o xs (coming s o xs (Phase.Moves step v)))
due_phase c s a o xs (Phase.Lost v g) = Do (Kind.Kept (KeptAt.Page v) KeptWhy.Lost)

-- what is due as an entry of the actor, or as its wait
abbrev pub progress : ℕ → Next → Progress
progress a (Do k) = Progress.Did (record { actor = a; kind = k })
progress a (Wait why) = Progress.Waiting why

-- an actor without an operation is idle
abbrev pub due_top : Program → After → ℕ → Option Op → List Migrating → List Phase → Progress
due_top c s a (Some o) xs (top ∷ below) = progress a (due_phase c s a o xs top)
due_top c s a _ xs _ = Progress.Idle

-- what is due to an actor in a state
abbrev pub due_in : Program → State → ℕ → Progress
due_in c s a = let g = s.going a in due_top c s.after a (op_at c a g.index) g.pages g.stack

-- what is due to an actor after a history
abbrev pub due : Program → List Entry → ℕ → Progress
due c h a = due_in c (state_of c h) a
