-- The stack of phases after an entry of its actor, the top first.
use Rattle.std.specs.Prelude.{ℕ, ◌+◌, Bool, true, false, nat_lt, ◌==◌, if◌then◌else◌, Option, Some, None, List, [], ◌∷◌}
use Rattle.std.specs.Prelude.{length, slice_index}
use Rattle.hm_base.specs.Pages.{Pages}
use Rattle.hm_base.specs.declared.Frame.{Frame}
use Rattle.hm_base.specs.declared.Place.{Place}
use Rattle.hm_base.specs.declared.PoolId.{PoolId}
use Rattle.hm_base.specs.declared.ops.Rights.TheVariants.{Read, ReadWrite}
use Rattle.hm_base.specs.declared.ops.Op.{Op}
use Rattle.hm_history.specs.Memory.Words.{sys_frame, names}
use Rattle.hm_history.specs.declared.KeptAt.{KeptAt}
use Rattle.hm_history.specs.declared.KeptWhy.{KeptWhy}
use Rattle.hm_history.specs.declared.Kind.{Kind}
use Rattle.hm_history.specs.Kernel.Operation.{op_pieces, is_remove, is_evicting}
use Rattle.hm_history.specs.declared.phases.Migrating.{Migrating}
use Rattle.hm_history.specs.declared.phases.MoveStep.{MoveStep}
use Rattle.hm_history.specs.declared.phases.Seen.{Seen}
use Rattle.hm_history.specs.declared.phases.Touch.{Touch}
use Rattle.hm_history.specs.declared.phases.Touch.TheVariants.{Cpu, Walk, Sole}
use Rattle.hm_history.specs.declared.phases.Body.{Body}
use Rattle.hm_history.specs.declared.phases.Phase.{Phase}

-- the first phase of an operation
abbrev pub first_phase : Op → Phase
first_phase (Op.Load p at n) = Phase.Piece 0
first_phase (Op.Store p at bs) = Phase.Piece 0
first_phase (Op.DeviceLoad m at n) = Phase.Piece 0
first_phase (Op.DeviceStore m at bs) = Phase.Piece 0
first_phase (Op.Add m at k) = Phase.Piece 0
first_phase (Op.Evict d) = Phase.Frames 0 0
first_phase (Op.Remove d) = Phase.Frames 0 0
first_phase _ = Phase.Begin

-- the next piece, or the operation's end
abbrev pub piece_ends : Op → ℕ → List Phase
piece_ends o k = if nat_lt (k + 1) (length (op_pieces o)) then Phase.Piece (k + 1) ∷ [] else []

-- the piece of an access that a touch is about
abbrev pub piece_of : Touch → ℕ
piece_of (Cpu k) = k
piece_of (Walk k since q) = k
piece_of Sole = 0

-- the guard that a `start` opens, over what stands below it
abbrev pub with_guard : Kind → Seen → Body → List Phase → List Phase
with_guard (Kind.Start p r q) seen body below = Phase.Guard p r seen.overlapped None body ∷ below
with_guard _ seen body below = below

-- ---- the operations: map, unmap, protect, exit, fork, attach, detach, snap, and the first steps of a migration

-- where an operation goes on with the mmap lock for reading
abbrev pub read_locked : Op → Phase
read_locked (Op.Snap m r) = Phase.Pages r.first
read_locked (Op.Exclusive m v) = Phase.Decide Sole
read_locked _ = Phase.Ready

-- after the first entry of an operation
abbrev pub after_begin : Op → Kind → List Phase
after_begin o (Kind.Wlock p) = Phase.Locked ∷ []
after_begin o (Kind.Rlock p) = read_locked o ∷ []
after_begin o (Kind.Detaching m q) = Phase.Detaching q ∷ []
after_begin o _ = []

-- what the guard of `protect`, `unmap` and `exit` does
abbrev pub body_of : Op → Pages → Body
body_of (Op.Protect p r Read) s = Body.Narrow s.first
body_of (Op.Protect p r ReadWrite) s = Body.Nothing
body_of o s = Body.Zap s.first

-- after the first entry under the mmap lock for writing
abbrev pub after_locked : Op → Kind → Seen → List Phase
after_locked o (Kind.Named p child) seen = Phase.Ready ∷ []
after_locked o (Kind.Start p r q) seen = with_guard (Kind.Start p r q) seen (body_of o r) (Phase.Answer ∷ [])
after_locked o _ seen = []

-- after the start over the operation's span
abbrev pub after_ready : Op → Kind → Seen → List Phase
after_ready (Op.Fork p child) k seen = with_guard k seen (Body.Fork 0 false) (Phase.Answer ∷ [])
after_ready (Op.ToDevice m r) k seen =
    with_guard k seen (Body.Select r.first) (Phase.Moves MoveStep.FreezeOthers r.first ∷ [])
after_ready (Op.ToSystem m r) k seen =
    with_guard k seen (Body.Select r.first) (Phase.Moves MoveStep.FreezeOthers r.first ∷ [])
after_ready _ k seen = []

-- after the answer; an addition goes to its byte
abbrev pub after_answer : Kind → List Phase
after_answer (Kind.Runlock p) = Phase.Piece 0 ∷ []
after_answer _ = []

-- after a page of a snapshot
abbrev pub after_pages : Kind → List Phase
after_pages (Kind.Seen m v c) = Phase.Pages (v + 1) ∷ []
after_pages _ = []

-- ---- accesses by the CPU and through a mirror

-- whose fault begins with the `rlock` of a piece
abbrev pub first_touch : Op → ℕ → Touch
first_touch (Op.Add m at n) k = Sole
first_touch _ k = Cpu k

-- after an entry of a piece: its answer, a look-up's begin, the byte of an addition, or the lock of a fault
abbrev pub after_piece : Op → ℕ → Touch → Kind → Seen → List Phase
after_piece o k touch (Kind.Loaded x at bs) seen = piece_ends o k
after_piece o k touch (Kind.Stored x at bs) seen = piece_ends o k
after_piece o k touch (Kind.Failed x at n c) seen = piece_ends o k
after_piece o k touch (Kind.Begin m q) seen = Phase.Begun k seen.at q ∷ []
after_piece o k touch (Kind.Fetched m at bs) seen = Phase.Fetched (slice_index bs 0) ∷ []
after_piece o k touch (Kind.Rlock p) seen = Phase.Decide touch ∷ []
after_piece o k touch _ seen = Phase.Piece k ∷ []

-- an addition is done
abbrev pub is_added : Kind → Bool
is_added (Kind.Added m at was now) = true
is_added _ = false

-- after the byte was fetched: the addition is done, or begins anew
abbrev pub after_fetched : Op → Kind → Seen → List Phase
after_fetched o k seen = if is_added k then [] else after_piece o 0 Sole k seen

-- ---- a fault: the decision, the frame taken, the copy

-- after a fault has found the place: a look-up notes it, an access goes on
abbrev pub after_walk : Touch → Place → Phase
after_walk (Walk k since q) place = Phase.Noted k since q place
after_walk touch place = Phase.Piece (piece_of touch)

-- a frame was taken: the zero page needs no copy
abbrev pub with_frame_taken : Touch → Frame → Place → Phase
with_frame_taken touch g Place.Zero = Phase.Armed touch g Place.Zero
with_frame_taken touch g place = Phase.Taken touch g place

-- what the guard of a fault does, by the place that was seen
abbrev pub body_of_fault : Place → Body
body_of_fault (Place.Own d n w) = Body.Catch (record { pool = PoolId.Device d; number = n })
body_of_fault (Place.Exclusive n b) = Body.Restore
body_of_fault (Place.Sys n w) = Body.Seize (sys_frame n)
body_of_fault _ = Body.Nothing

-- after the entry of a fault's decision
abbrev pub after_decide : Op → Touch → Kind → Seen → List Phase
after_decide o touch (Kind.Failed x at n c) seen = piece_ends o (piece_of touch)
after_decide o touch (Kind.Retry m) seen = Phase.Piece (piece_of touch) ∷ []
after_decide o touch (Kind.Runlock p) seen = after_walk touch seen.place ∷ []
after_decide o touch (Kind.Set m v f w from) seen = Phase.Answer ∷ []
after_decide o touch (Kind.Place p v x) seen = Phase.Decide touch ∷ []
after_decide o touch (Kind.Take g) seen = with_frame_taken touch g seen.place ∷ []
after_decide o touch (Kind.Start p r q) seen =
    with_guard (Kind.Start p r q) seen (body_of_fault seen.place) (Phase.Decide touch ∷ [])
after_decide o touch _ seen = []

-- after the copy, or after the frame was dropped since the page changed
abbrev pub after_taken : Touch → Frame → Place → Kind → List Phase
after_taken touch g over (Kind.Copied f h k) = Phase.Armed touch g over ∷ []
after_taken touch g over _ = Phase.Decide touch ∷ []

-- ---- a guard: its start, the mirrors told, its body, its end

-- the page that an entry of a body is about
abbrev pub page_of_entry : Kind → ℕ
page_of_entry (Kind.Place p v x) = v
page_of_entry (Kind.Fresh p v) = v
page_of_entry (Kind.Kept (KeptAt.Page v) why) = v
page_of_entry _ = 0

-- a `place` of that process
abbrev pub is_place_of : Kind → ℕ → Bool
is_place_of (Kind.Place q v x) p = q == p
is_place_of _ p = false

-- a body after one of its entries
abbrev pub body_next : Body → ℕ → Kind → Body
body_next (Body.Zap v) p k = Body.Zap (page_of_entry k + 1)
body_next (Body.Narrow v) p k = Body.Narrow (page_of_entry k + 1)
body_next (Body.Select v) p k = Body.Select (page_of_entry k + 1)
body_next (Body.Fork v half) p k =
    if is_place_of k p then Body.Fork (page_of_entry k) true else Body.Fork (page_of_entry k + 1) false
body_next _ p k = Body.Nothing

-- a caught frame is emptied after the guard
abbrev pub frames_past : Frame → List Phase → List Phase
frames_past f (Phase.Frames v n ∷ below) = Phase.Frames (f.number + 1) n ∷ below
frames_past f below = below

-- after the first mapping was frozen the frame is emptied; an eviction then goes on with the next one
abbrev pub caught_next : Op → Frame → Pages → List Phase → List Phase
caught_next o f r below =
    if is_evicting o then Phase.Emptying f (KeptAt.Frame f) ∷ frames_past f below
    else (Phase.Emptying f (KeptAt.Page r.first) ∷ below)

-- what stands below a guard after an entry of its body
abbrev pub below_next : Op → Body → Pages → List Phase → List Phase
below_next o (Body.Catch f) r below = caught_next o f r below
below_next o _ r below = below

-- a frame that no place names is dropped first
abbrev pub dropping : Option Frame → List Phase → List Phase
dropping None below = below
dropping (Some f) below = Phase.Drop f ∷ below

-- a body that was to place a page, and is still there at the `end`, did not
abbrev pub after_body : Body → Pages → List Phase → List Phase
after_body (Body.Replace over g) r below = Phase.Drop g ∷ below
after_body (Body.Fresh g) r below = Phase.Lost r.first g ∷ below
after_body _ r below = below

-- a guard after an entry of its body
abbrev pub guard_goes_on : Op → ℕ → Pages → Bool → Option ℕ → Body → List Phase → Kind → Seen → List Phase
guard_goes_on o p r met told body below k seen =
    dropping seen.orphan (Phase.Guard p r met told (body_next body p k) ∷ below_next o body r below)

-- the mirror that the entry tells
abbrev pub told_mirror : Kind → Option ℕ
told_mirror (Kind.Told m r q) = Some m
told_mirror _ = None

-- the entry ends an invalidation
abbrev pub is_end : Kind → Bool
is_end (Kind.End p r q) = true
is_end _ = false

-- a guard after one of its entries
abbrev pub after_guard : Op → ℕ → Pages → Bool → Option ℕ → Body → List Phase → Kind → Seen → List Phase
after_guard o p r met told body below k seen = elim (told_mirror k) [
  | Some m ↦ Phase.Guard p r met (Some m) body ∷ below
  | None ↦ if is_end k then after_body body r below else guard_goes_on o p r met told body below k seen
]

-- ---- one frame emptied: its other mappings frozen, the copy, the finish

-- where an operation goes on if no frame was free for one that was brought home; an eviction goes to its next frame
abbrev pub giving_up : Op → Phase → Option Phase
giving_up o (Phase.Decide touch) = Some (Phase.GiveUp (Some touch))
giving_up o (Phase.Frames v n) = if is_remove o then Some (Phase.GiveUp None) else None
giving_up o _ = None

-- the operation below gives up, if it cannot do without the frame
abbrev pub gives_up : Op → List Phase → List Phase
gives_up o [] = []
gives_up o (x ∷ xs) = elim (giving_up o x) [ Some y ↦ y ∷ [] | None ↦ x ∷ xs ]

-- after an entry of emptying a frame: another mapping is frozen, a destination taken, or none is free
abbrev pub after_emptying : Op → Frame → KeptAt → List Phase → Kind → Seen → List Phase
after_emptying o f what below (Kind.Start p r q) seen =
    with_guard (Kind.Start p r q) seen (Body.Freeze f) (Phase.Emptying f what ∷ below)
after_emptying o f what below (Kind.Take g) seen = Phase.Copy f g 0 ∷ Phase.Copied f g ∷ below
after_emptying o f what below _ seen = Phase.Finish f None ∷ gives_up o below

-- an eviction counts one more emptied frame
abbrev pub with_one_more : List Phase → List Phase
with_one_more (Phase.Frames v n ∷ below) = Phase.Frames v (n + 1) ∷ below
with_one_more below = below

-- after one eighth of a frame was copied
abbrev pub after_copy : Frame → Frame → ℕ → List Phase → List Phase
after_copy f g k below = if nat_lt k 7 then Phase.Copy f g (k + 1) ∷ below else below

-- after a mapping came back, or the last entry of a finish
abbrev pub after_finish : Frame → Option Frame → List Phase → Kind → List Phase
after_finish f to below (Kind.Place p v x) = Phase.Finish f to ∷ below
after_finish f (Some g) below (Kind.Drop h) = Phase.Settle g ∷ below
after_finish f to below _ = below

-- the piece of an access that was given up
abbrev pub piece_of_given_up : Option Touch → ℕ
piece_of_given_up None = 0
piece_of_given_up (Some touch) = piece_of touch

-- after the failure, or the refusal of a removal
abbrev pub after_give_up : Op → Option Touch → Kind → List Phase
after_give_up o touch (Kind.Failed x at n c) = piece_ends o (piece_of_given_up touch)
after_give_up o touch _ = []

-- the number of a frame
abbrev pub number_of : Option Frame → ℕ
number_of None = 0
number_of (Some f) = f.number

-- the guard freezes the first mapping of the frame
abbrev pub catching : Option Frame → Body
catching None = Body.Nothing
catching (Some f) = Body.Catch f

-- after an entry of an eviction at its cursor
abbrev pub after_frames : ℕ → ℕ → Kind → Seen → List Phase
after_frames v n (Kind.Start p r q) seen =
    with_guard (Kind.Start p r q) seen (catching (names seen.place))
    (Phase.Frames (number_of (names seen.place)) n ∷ [])
after_frames v n (Kind.Kept (KeptAt.Frame f) why) seen = Phase.Frames (f.number + 1) n ∷ []
after_frames v n (Kind.Drop f) seen = Phase.Frames (f.number + 1) n ∷ []
after_frames v n (Kind.Withdrawn d) seen = Phase.Frames v n ∷ []
after_frames v n _ seen = []

-- ---- the steps of a migration after its setup (mm/migrate_device.c), each about one record

-- what the guard of a step does for a page with a frame: in the first step another mapping is frozen
abbrev pub freezing_in : MoveStep → Frame → Body
freezing_in MoveStep.FreezeOthers f = Body.Freeze f
freezing_in _ f = Body.Nothing

-- what the guard of a migration's step does
abbrev pub freezing : MoveStep → Option Frame → Option Frame → Body
freezing step (Some f) to = freezing_in step f
freezing step None (Some g) = Body.Fresh g
freezing step None None = Body.Nothing

-- where a migration is after such a guard
abbrev pub next_cursor : MoveStep → ℕ → Phase
next_cursor MoveStep.FreezeOthers v = Phase.Moves MoveStep.FreezeOthers v
next_cursor _ v = Phase.Moves MoveStep.Commit (v + 1)

-- the eight parts of a frame are copied first; a fresh page has none
abbrev pub copying : Option Frame → Frame → List Phase → List Phase
copying None g below = below
copying (Some f) g below = Phase.Copy f g 0 ∷ below

-- the step in which a page is kept for this reason
abbrev pub kept_step : KeptWhy → MoveStep
kept_step KeptWhy.Lost = MoveStep.Commit
kept_step _ = MoveStep.TakeAndCopy

-- a page that was lost has a frame to be dropped
abbrev pub dropping_lost : KeptWhy → Option Frame → List Phase → List Phase
dropping_lost KeptWhy.Lost to below = dropping to below
dropping_lost _ to below = below

-- after an entry of the last step of a page
abbrev pub finishing : Migrating → Kind → List Phase
finishing x k = elim x.source [
  | None ↦ Phase.Moves MoveStep.Finish (x.page + 1) ∷ []
  | Some f ↦ after_finish f (if x.moved then x.dest else None) (Phase.Moves MoveStep.Finish (x.page + 1) ∷ []) k
]

-- after an entry of a migration's step for a page
abbrev pub after_moves : MoveStep → Migrating → Kind → Seen → List Phase
after_moves step x (Kind.Start p r q) seen =
    with_guard (Kind.Start p r q) seen (freezing step x.source x.dest) (next_cursor step x.page ∷ [])
after_moves step x (Kind.Take g) seen = copying x.source g (Phase.Moves MoveStep.TakeAndCopy (x.page + 1) ∷ [])
after_moves step x (Kind.Kept at why) seen = dropping_lost why x.dest (Phase.Moves (kept_step why) (x.page + 1) ∷ [])
after_moves step x (Kind.Committed f g) seen = Phase.Moves MoveStep.Commit (x.page + 1) ∷ []
after_moves step x (Kind.Set m v f w from) seen = Phase.Moves MoveStep.SetOwnTable (x.page + 1) ∷ []
after_moves step x k seen = finishing x k

-- after an entry of a migration; its answer ends it
abbrev pub after_migration : MoveStep → Option Migrating → Kind → Seen → List Phase
after_migration step None k seen = []
after_migration step (Some x) k seen = after_moves step x k seen

-- the stack after an entry at the top phase, over what stands below it
abbrev pub after_top : Op → Phase → List Phase → Kind → Seen → List Phase
after_top o Phase.Begin below k seen = after_begin o k
after_top o Phase.Locked below k seen = after_locked o k seen
after_top o Phase.Ready below k seen = after_ready o k seen
after_top o Phase.Answer below k seen = after_answer k
after_top o (Phase.Detaching q) below k seen = []
after_top o (Phase.Pages v) below k seen = after_pages k
after_top o (Phase.Piece n) below k seen = after_piece o n (first_touch o n) k seen
after_top o (Phase.Fetched old) below k seen = after_fetched o k seen
after_top o (Phase.Begun n since q) below k seen = after_piece o n (Walk n since q) k seen
after_top o (Phase.Decide touch) below k seen = after_decide o touch k seen
after_top o (Phase.Noted n since q x) below k seen = Phase.Piece n ∷ []
after_top o (Phase.Taken touch g x) below k seen = after_taken touch g x k
after_top o (Phase.Armed touch g x) below k seen = with_guard k seen (Body.Replace x g) (Phase.Decide touch ∷ [])
after_top o (Phase.Guard p r met told body) below k seen = after_guard o p r met told body below k seen
after_top o (Phase.Drop f) below k seen = below
after_top o (Phase.Emptying f what) below k seen = after_emptying o f what below k seen
after_top o (Phase.Copy f g n) below k seen = after_copy f g n below
after_top o (Phase.Copied f g) below k seen = Phase.Finish f (Some g) ∷ with_one_more below
after_top o (Phase.Finish f to) below k seen = after_finish f to below k
after_top o (Phase.Settle g) below k seen = below
after_top o (Phase.GiveUp touch) below k seen = after_give_up o touch k
after_top o (Phase.Frames v n) below k seen = after_frames v n k seen
after_top o (Phase.Moves step v) below k seen = after_migration step seen.page k seen
after_top o (Phase.Lost v g) below k seen = Phase.Drop g ∷ below

-- the stack after an entry
abbrev pub stack_after : Op → List Phase → Kind → Seen → List Phase
stack_after o [] k seen = []
stack_after o (top ∷ below) k seen = after_top o top below k seen
