-- A bound on the entries still to come of an actor that goes on alone, from the state and its stack of phases.
use Rattle.std.specs.Prelude.{ℕ, zero, suc, ◌+◌, ◌-◌, ◌*◌, max, Bool, true, false, not, ◌&&◌, ◌||◌, ◌==◌, if◌then◌else◌, Option, Some, None, is_none, List, [], ◌∷◌, length, slice_index}
use Rattle.hm_base.specs.Pages.{Pages, one_page}
use Rattle.hm_base.specs.Areas.{last_of}
use Rattle.hm_base.specs.Program.{Program}
use Rattle.hm_base.specs.declared.area.Area.{Area}
use Rattle.hm_base.specs.declared.Frame.{Frame}
use Rattle.hm_base.specs.declared.Place.{Place}
use Rattle.hm_base.specs.declared.ops.Op.{Op}
use Rattle.hm_history.specs.declared.phases.MoveStep.{MoveStep}
use Rattle.hm_history.specs.declared.phases.MoveStep.TheVariants.{FreezeOthers, TakeAndCopy, Commit, SetOwnTable, Finish}
use Rattle.hm_history.specs.Memory.Words.{page_of, names, names_directly, moving_frame, is_frame, writable, place_in, same_place}
use Rattle.hm_history.specs.Memory.Plain.{Plain, in_window, mirror_dev, proc_of}
use Rattle.hm_history.specs.Memory.Places.{lowest, with_place, with_page}
use Rattle.hm_history.specs.Memory.Sequences.{is_above, overlaps}
use Rattle.hm_history.specs.Memory.After.{After}
use Rattle.hm_history.specs.Kernel.Operation.{op_pieces, op_piece, op_who, op_mirror, op_writes, is_remove, is_evicting, is_exclusive_op}
use Rattle.hm_history.specs.Kernel.Quiet.{guard_cost, home_cost}
use Rattle.hm_history.specs.Kernel.Stacks.{piece_of, frames_past}
use Rattle.hm_history.specs.Kernel.Going.{touch_page, touch_proc}
use Rattle.hm_history.specs.Kernel.Due.{suits, suits_walk, is_usable, has_exclusive, repeats, has_no_frame}
use Rattle.hm_history.specs.declared.phases.Migrating.{Migrating}
use Rattle.hm_history.specs.declared.phases.Touch.{Touch}
use Rattle.hm_history.specs.declared.phases.Touch.TheVariants.{Cpu, Walk, Sole}
use Rattle.hm_history.specs.declared.phases.Body.{Body}
use Rattle.hm_history.specs.declared.phases.Phase.{Phase}
use Rattle.hm_laws.specs.Shapes.{is_add}
use Rattle.hm_laws.specs.Records.{is_past}

-- what the bound reads of a state, but for what is still to be told and whether a look-up is to be repeated or its
-- table entry is there
pub record View : Type 0 where
  pub plain : Plain
  pub place : ℕ → ℕ → Place
  pub placed : List (ℕ × ℕ)
  pub withdrawn : ℕ → Bool

-- of a state
abbrev pub view : After → View
view s = record { plain = s.plain; place = s.places.place; placed = s.places.placed; withdrawn = s.places.withdrawn }

-- after a `place`
abbrev pub placed_view : View → ℕ → ℕ → Place → View
placed_view y p v x = record y { place = with_place y.place p v x; placed = with_page p v y.placed }

-- of the numbers below n, how many pass
abbrev pub count_upto : (ℕ → Bool) → ℕ → ℕ
count_upto t zero = 0
count_upto t (suc n) = count_upto t n + (if t n then 1 else 0)

-- the mirrors that a guard is still to tell
abbrev pub told_left : After → ℕ → Pages → Bool → Option ℕ → ℕ
told_left s p r met told = if met then count_upto (λ m. is_above told m && overlaps s.sequences p r m) 32 else 0

-- the pages of areas from one on
abbrev pub pages_from : ℕ → List Area → ℕ
pages_from v [] = 0
pages_from v (x ∷ xs) = (last_of x.span - max x.span.first v) + pages_from v xs

-- and of a span from one on
abbrev pub span_from : ℕ → Pages → ℕ
span_from v r = last_of r - v

-- of the processes, how many have a place on the page that names the frame directly
abbrev pub direct_at : View → Frame → ℕ → ℕ
direct_at y f v = count_upto (λ q. is_frame (names_directly (y.place q v)) f) 32

-- and as a migration entry
abbrev pub moving_at : View → Frame → ℕ → ℕ
moving_at y f v = count_upto (λ q. is_frame (moving_frame (y.place q v)) f) 32

-- the page on which a frame is named
abbrev pub frame_page : View → Frame → ℕ
frame_page y f = elim (lowest (λ p v. is_frame (names (y.place p v)) f) y.placed) [ None ↦ 0 | Some x ↦ x.1 ]

-- a piece of an access at most
abbrev pub piece_cost : Program → ℕ
piece_cost c = home_cost c + guard_cost c + 15

-- the pieces after this one, each at its most
abbrev pub later : Program → Op → ℕ → ℕ
later c o k = (length (op_pieces o) - (k + 1)) * piece_cost c

-- a fault once the place suits
abbrev pub tail : Program → Op → Touch → ℕ
tail c o (Cpu k) = 2 + later c o k
tail c o (Walk k at q) = 3 + later c o k
tail c o Sole = if is_add o then 4 else 2

-- a look-up repeated: `retry`, `begin`, `rlock`
abbrev pub extra : Touch → ℕ
extra (Walk k at q) = 3
extra touch = 0

-- once the page is a writable system page, which suits all but a page that is to be taken alone
abbrev pub ready : Program → Op → Touch → ℕ
ready c o Sole = guard_cost c + 1 + tail c o Sole
ready c o touch = tail c o touch

-- a copy on write: `take`, `copied`, a guard with its `place`, a `drop`
abbrev pub copies : Program → Op → Touch → ℕ
copies c o touch = if op_writes o then guard_cost c + 4 + extra touch else 0

-- what mends a place that does not suit, by the place
abbrev pub mends : Program → Op → Touch → Place → ℕ
mends c o touch Place.Empty = if op_writes o then 2 else 1
mends c o touch Place.Zero = guard_cost c + 3 + extra touch
mends c o touch (Place.Sys n w) = copies c o touch
mends c o touch (Place.Moving f w) = copies c o touch
mends c o touch (Place.Own d n w) = home_cost c + extra touch + copies c o touch
mends c o touch (Place.Exclusive n b) = guard_cost c + 2 + extra touch

-- the actor has the page alone
abbrev pub is_sole_of : ℕ → Place → Bool
is_sole_of a (Place.Exclusive n b) = a == b
is_sole_of a x = false

-- a writable system page
abbrev pub is_writable_sys : Place → Bool
is_writable_sys (Place.Sys n w) = w
is_writable_sys x = false

-- the place suits the touch
abbrev pub is_over : View → ℕ → Op → Touch → Place → Bool
is_over y a o (Cpu k) x = suits (op_writes o) x
is_over y a o (Walk k at q) x = suits_walk (mirror_dev y.plain (op_mirror o)) (op_writes o) x
is_over y a o Sole x = is_sole_of a x

-- it will once the page is taken alone
abbrev pub is_ready : Touch → Place → Bool
is_ready Sole x = is_writable_sys x
is_ready touch x = false

-- a fault, by the place of its page
abbrev pub stage : Program → View → ℕ → Op → Touch → Place → ℕ
stage c y a o touch x =
    if is_over y a o touch x then tail c o touch
    else if is_ready touch x then ready c o touch
    else (mends c o touch x + ready c o touch)

-- as the place is now
abbrev pub stage_now : Program → View → ℕ → Op → Touch → ℕ
stage_now c y a o touch = stage c y a o touch (y.place (proc_of y.plain (op_who o)) (touch_page o touch))

-- while the page's frame may be on its way home
abbrev pub stage_home : Program → View → ℕ → Op → Touch → Place → ℕ
stage_home c y a o touch (Place.Own d n w) = mends c o touch (Place.Own d n w) + ready c o touch
stage_home c y a o touch x = stage c y a o touch x

-- and a look-up that may be repeated before
abbrev pub home_now : Program → View → ℕ → Op → Touch → ℕ
home_now c y a o touch = extra touch + stage_home c y a o touch (y.place (proc_of y.plain (op_who o)) (touch_page o touch))

-- at a decision, whether the look-up is repeated or not; and as it is
abbrev pub decide_most : Program → View → ℕ → Op → Touch → ℕ
decide_most c y a o touch = extra touch + stage_now c y a o touch

-- the look-up of the touch is to be repeated
abbrev pub repeats_now : After → Op → Touch → Bool
repeats_now s o (Walk k at q) = repeats s (op_mirror o) q
repeats_now s o touch = false

-- what that costs
abbrev pub retried : After → Op → Touch → ℕ
retried s o touch = if repeats_now s o touch then extra touch else 0

-- a decision, as it is
abbrev pub decide_left : Program → After → ℕ → Op → Touch → ℕ
decide_left c s a o touch = if repeats_now s o touch then decide_most c (view s) a o touch else stage_now c (view s) a o touch

-- pieces
abbrev pub cpu_left : Program → After → ℕ → Op → ℕ → ℕ → ℕ
cpu_left c s a o k p =
    if not (s.plain.there p) || suits (op_writes o) (s.places.place p (page_of (op_piece o k).0)) then 1 + later c o k
    else (1 + stage_now c (view s) a o (Cpu k))

-- a piece through a mirror: an entry that is there, or a look-up and its fault
abbrev pub mirror_left : Program → After → ℕ → Op → ℕ → ℕ → ℕ
mirror_left c s a o k m = let v = page_of (op_piece o k).0 in
    if not (in_window s.plain m (one_page v)) || is_usable (op_writes o) (s.places.table m v) then 1 + later c o k
    else (2 + stage_now c (view s) a o (Walk k 0 0))

-- an addition: a page that the actor has alone, or a fault that takes it
abbrev pub add_left : Program → After → ℕ → Op → ℕ → ℕ → ℕ
add_left c s a o m at =
    if not (in_window s.plain m (one_page (page_of at))) then 1
    else if has_exclusive s a m (page_of at) then 2
    else (1 + stage_now c (view s) a o Sole)

-- a piece, by its operation
abbrev pub piece_left : Program → After → ℕ → Op → ℕ → ℕ
piece_left c s a (Op.Load p at n) k = cpu_left c s a (Op.Load p at n) k p
piece_left c s a (Op.Store p at bs) k = cpu_left c s a (Op.Store p at bs) k p
piece_left c s a (Op.DeviceLoad m at n) k = mirror_left c s a (Op.DeviceLoad m at n) k m
piece_left c s a (Op.DeviceStore m at bs) k = mirror_left c s a (Op.DeviceStore m at bs) k m
piece_left c s a (Op.Add m at n) k = add_left c s a (Op.Add m at n) m at
piece_left c s a o k = 1

-- an addition that has fetched its byte
abbrev pub fetched_left : Program → After → ℕ → Op → ℕ
fetched_left c s a (Op.Add m at n) = if has_exclusive s a m (page_of at) then 1 else add_left c s a (Op.Add m at n) m at
fetched_left c s a o = 1

-- a look-up that has noted the page's place
abbrev pub noted_left : Program → After → ℕ → Op → ℕ → ℕ → Place → ℕ
noted_left c s a o k q x =
    if repeats s (op_mirror o) q then 1 + piece_left c s a o k
    else if op_writes o && not (writable x) then 1 + piece_cost c + later c o k
    else (2 + later c o k)

-- a fault with a frame in hand, if the page is as it was, and if not
abbrev pub taken_left : Program → After → ℕ → Op → Touch → Place → ℕ
taken_left c s a o touch over =
    if same_place (s.places.place (touch_proc s o) (touch_page o touch)) over
    then (if has_no_frame over then 1 + retried s o touch else guard_cost c + 3 + extra touch) + ready c o touch
    else (1 + decide_left c s a o touch)

-- a fault whose frame is copied, before its guard
abbrev pub armed_left : Program → After → ℕ → Op → Touch → Place → ℕ
armed_left c s a o touch over =
    if same_place (s.places.place (touch_proc s o) (touch_page o touch)) over
    then guard_cost c + 2 + extra touch + ready c o touch
    else (guard_cost c + 2 + home_now c (view s) a o touch)

-- operations under the lock for writing
abbrev pub locked_left : Program → View → Op → ℕ
locked_left c y (Op.Map p r w) = 1
locked_left c y (Op.Unmap p r) = guard_cost c + 2 * r.count + 1
locked_left c y (Op.Protect p r w) = guard_cost c + r.count + 1
locked_left c y (Op.Exit p) = guard_cost c + 2 * pages_from 0 (y.plain.areas p) + 1
locked_left c y (Op.Fork p d) = guard_cost c + 2 * pages_from 0 (y.plain.areas p) + 2
locked_left c y o = 1

-- after the first lock, where an operation has a guard to come
abbrev pub ready_left : Program → View → Op → ℕ
ready_left c y (Op.Fork p d) = guard_cost c + 2 * pages_from 0 (y.plain.areas p) + 1
ready_left c y (Op.ToDevice m r) = guard_cost c + r.count * (home_cost c + 1) + 1
ready_left c y (Op.ToSystem m r) = guard_cost c + r.count * (home_cost c + 1) + 1
ready_left c y o = 1

-- at the first entry of an operation
abbrev pub begin_left : Program → After → ℕ → Op → ℕ
begin_left c s a (Op.Attach m d p r) = 1
begin_left c s a (Op.Detach m) = 1
begin_left c s a (Op.Snap m r) = r.count + 2
begin_left c s a (Op.ToDevice m r) = 1 + ready_left c (view s) (Op.ToDevice m r)
begin_left c s a (Op.ToSystem m r) = 1 + ready_left c (view s) (Op.ToSystem m r)
begin_left c s a (Op.Exclusive m v) = if in_window s.plain m (one_page v) then 1 + stage_now c (view s) a (Op.Exclusive m v) Sole else 1
begin_left c s a o = 1 + locked_left c (view s) o

-- the pages that a guard is still to empty: those of a span, or of all areas
abbrev pub zap_left : List Area → Op → Pages → ℕ → ℕ
zap_left as_ (Op.Unmap q t) r v = span_from v r
zap_left as_ o r v = pages_from v as_

-- the pages that a `snap` is still to tell
abbrev pub page_left : Op → ℕ → ℕ
page_left (Op.Snap m r) v = span_from v r
page_left o v = 0

-- one frame emptied; what stands below meanwhile
abbrev pub alone_left : Program → View → Frame → ℕ → ℕ
alone_left c y f v = direct_at y f v * (guard_cost c + 1) + direct_at y f v + moving_at y f v + 12

-- the device of an eviction or a removal
abbrev pub op_device : Op → ℕ
op_device (Op.Evict d) = d
op_device (Op.Remove d) = d
op_device o = 0

-- the frames of the device from one on, each brought home
abbrev pub frames_left : Program → View → Op → ℕ → ℕ
frames_left c y o v = (slice_index c.devices (op_device o) - v) * home_cost c + 1 + (if is_remove o && not (y.withdrawn (op_device o)) then 1 else 0)

-- so many, if a step is not past
abbrev pub unless : Bool → ℕ → ℕ
unless b n = if b then 0 else n

-- a record's steps that are not past: with no frame, and with one
abbrev pub source_left : Program → View → MoveStep → ℕ → ℕ → Option Frame → ℕ
source_left c y step next v None = unless (is_past step next TakeAndCopy v) 1 + unless (is_past step next Commit v) (guard_cost c + 1) + unless (is_past step next SetOwnTable v) 1 + unless (is_past step next Finish v) 1
source_left c y step next v (Some f) =
    unless (is_past step next FreezeOthers v) (direct_at y f v * (guard_cost c + 2)) + unless (is_past step next TakeAndCopy v) 9 + unless (is_past step next Commit v) 1 + unless (is_past step next SetOwnTable v) 1 + unless (is_past step next Finish v) (moving_at y f v + 2)

-- a record, by its page and frame
abbrev pub record_left : Program → View → MoveStep → ℕ → Migrating → ℕ
record_left c y step next x = source_left c y step next x.page x.source

-- a sum over records
abbrev pub sum_over : (Migrating → ℕ) → List Migrating → ℕ
sum_over f [] = 0
sum_over f (x ∷ xs) = f x + sum_over f xs

-- all records of a migration
abbrev pub records_left : Program → View → MoveStep → ℕ → List Migrating → ℕ
records_left c y step next xs = sum_over (record_left c y step next) xs

-- a fault that is given up: its answer, and the pieces after it
abbrev pub given_up : Program → Op → Option Touch → ℕ
given_up c o None = 1
given_up c o (Some touch) = 1 + (if is_exclusive_op o then 0 else later c o (piece_of touch))

-- what stands below a guard, a copy or a frame that is emptied
abbrev pub under_left : Program → View → ℕ → Op → List Migrating → List Phase → ℕ
under_left c y a o xs (Phase.Decide touch ∷ below) = home_now c y a o touch
under_left c y a o xs (Phase.GiveUp touch ∷ below) = given_up c o touch
under_left c y a o xs (Phase.Frames v n ∷ below) = frames_left c y o v
under_left c y a o xs (Phase.Moves step v ∷ below) = records_left c y step v xs + 1
under_left c y a o xs (Phase.Answer ∷ below) = 1
under_left c y a o xs below = 0

-- where no frame was free: the frame's pages return to it, and the fault is given up
abbrev pub kept_left : Program → View → ℕ → Op → List Migrating → List Phase → ℕ
kept_left c y a o xs (Phase.Decide touch ∷ below) = home_cost c + guard_cost c + 4 + extra touch + extra touch + extra touch + ready c o touch
kept_left c y a o xs below = under_left c y a o xs below

-- a guard after its tellings: the body, the end and what stands below. A body of one page is what is left once it is placed
abbrev pub is_direct_of : Frame → Place → Bool
is_direct_of f x = is_frame (names_directly x) f

-- an eviction is past a frame that it has caught
abbrev pub past_frame : Op → Frame → List Phase → List Phase
past_frame o f below = if is_evicting o then frames_past f below else below

-- below a guard that has nothing more to place
abbrev pub frozen_left : Program → View → ℕ → Op → List Migrating → List Phase → ℕ
frozen_left c y a o xs (Phase.Emptying f at ∷ below) = alone_left c y f (frame_page y f) + under_left c y a o xs below
frozen_left c y a o xs below = under_left c y a o xs below

-- a page given back that an actor had alone, if it is one still
abbrev pub restore_left : Program → View → ℕ → Op → List Migrating → ℕ → Pages → Place → List Phase → ℕ
restore_left c y a o xs p r (Place.Exclusive n b) below = 3 + under_left c (placed_view y p r.first (Place.Sys n true)) a o xs below
restore_left c y a o xs p r x below = 1 + under_left c y a o xs below

-- a frame that is caught is emptied next
abbrev pub caught_left : Program → View → ℕ → Op → List Migrating → Frame → ℕ → List Phase → ℕ
caught_left c y a o xs f v below = alone_left c y f v + under_left c y a o xs below

-- another mapping of a frame is frozen, and the emptying goes on
abbrev pub freezes_left : Program → View → ℕ → Op → List Migrating → ℕ → List Phase → ℕ
freezes_left c y a o xs v (Phase.Emptying f at ∷ below) = alone_left c y f v + under_left c y a o xs below
freezes_left c y a o xs v below = under_left c y a o xs below

-- a guard's body, by what it is to place
abbrev pub body_left : Program → View → (Frame → Option ℕ) → ℕ → Op → List Migrating → ℕ → Pages → Place → Body → List Phase → ℕ
body_left c y lock a o xs p r x (Body.Zap v) below = 2 * zap_left (y.plain.areas p) o r v + 2
body_left c y lock a o xs p r x (Body.Narrow v) below = span_from v r + 2
body_left c y lock a o xs p r x (Body.Fork v false) below = 2 * pages_from v (y.plain.areas p) + 2
body_left c y lock a o xs p r x (Body.Fork v true) below = 2 * pages_from (v + 1) (y.plain.areas p) + 3
body_left c y lock a o xs p r x (Body.Select v) below = span_from v r * (home_cost c + 1) + 1 + under_left c y a o xs below
body_left c y lock a o xs p r x Body.Nothing below = 1 + frozen_left c y a o xs below
body_left c y lock a o xs p r x (Body.Replace over g) below =
    if same_place x over then 3 + under_left c (placed_view y p r.first (place_in g true)) a o xs below else (2 + under_left c y a o xs below)
body_left c y lock a o xs p r x Body.Restore below = restore_left c y a o xs p r x below
body_left c y lock a o xs p r x (Body.Seize f) below =
    if same_place x (Place.Sys f.number true) then 2 + under_left c (placed_view y p r.first (Place.Exclusive f.number a)) a o xs below else (1 + under_left c y a o xs below)
body_left c y lock a o xs p r x (Body.Catch f) below =
    if is_direct_of f x && is_none (lock f) then 2 + caught_left c (placed_view y p r.first (Place.Moving f (writable x))) a o xs f r.first (past_frame o f below) else (1 + under_left c y a o xs below)
body_left c y lock a o xs p r x (Body.Freeze f) below =
    if is_direct_of f x then 2 + freezes_left c (placed_view y p r.first (Place.Moving f (writable x))) a o xs r.first below else (1 + frozen_left c y a o xs below)
body_left c y lock a o xs p r x (Body.Fresh g) below = under_left c y a o xs below + (if has_no_frame x then 2 else 3)

-- a guard: its tellings, its body and what stands below
abbrev pub guard_left : Program → After → ℕ → Op → List Migrating → ℕ → Pages → Bool → Option ℕ → Body → List Phase → ℕ
guard_left c s a o xs p r met told body below = told_left s p r met told + body_left c (view s) s.locks.frame a o xs p r (s.places.place p r.first) body below

-- the stack. What stands below at a `drop` or while parts are copied is a phase of its own
abbrev pub top_left : Program → After → ℕ → Op → List Migrating → Phase → List Phase → ℕ
top_left c s a o xs Phase.Begin below = begin_left c s a o
top_left c s a o xs Phase.Locked below = locked_left c (view s) o
top_left c s a o xs Phase.Ready below = ready_left c (view s) o
top_left c s a o xs Phase.Answer below = 1 + (if is_add o then piece_left c s a o 0 else 0)
top_left c s a o xs (Phase.Detaching q) below = 1
top_left c s a o xs (Phase.Pages v) below = page_left o v + 1
top_left c s a o xs (Phase.Piece k) below = piece_left c s a o k
top_left c s a o xs (Phase.Fetched old) below = fetched_left c s a o
top_left c s a o xs (Phase.Begun k at q) below = 1 + decide_left c s a o (Walk k at q)
top_left c s a o xs (Phase.Decide touch) below = decide_left c s a o touch
top_left c s a o xs (Phase.Noted k at q x) below = noted_left c s a o k q x
top_left c s a o xs (Phase.Taken touch g x) below = taken_left c s a o touch x
top_left c s a o xs (Phase.Armed touch g x) below = armed_left c s a o touch x
top_left c s a o xs (Phase.Guard p r met told body) below = guard_left c s a o xs p r met told body below
top_left c s a o xs (Phase.Drop f) (Phase.Guard p r met told body ∷ below) = 1 + guard_left c s a o xs p r met told body below
top_left c s a o xs (Phase.Drop f) (Phase.Decide touch ∷ below) = 1 + decide_left c s a o touch
top_left c s a o xs (Phase.Drop f) below = 1 + under_left c (view s) a o xs below
top_left c s a o xs (Phase.Emptying f at) below = alone_left c (view s) f (frame_page (view s) f) + under_left c (view s) a o xs below
top_left c s a o xs (Phase.Copy f g k) (Phase.Copied i j ∷ below) = (8 - k) + (moving_at (view s) i (frame_page (view s) i) + 3 + under_left c (view s) a o xs below)
top_left c s a o xs (Phase.Copy f g k) below = (8 - k) + under_left c (view s) a o xs below
top_left c s a o xs (Phase.Copied f g) below = moving_at (view s) f (frame_page (view s) f) + 3 + under_left c (view s) a o xs below
top_left c s a o xs (Phase.Finish f None) below = moving_at (view s) f (frame_page (view s) f) + 1 + kept_left c (view s) a o xs below
top_left c s a o xs (Phase.Finish f (Some g)) below = moving_at (view s) f (frame_page (view s) f) + 2 + under_left c (view s) a o xs below
top_left c s a o xs (Phase.Settle g) below = 1 + under_left c (view s) a o xs below
top_left c s a o xs (Phase.GiveUp touch) below = given_up c o touch
top_left c s a o xs (Phase.Frames v n) below = frames_left c (view s) o v
top_left c s a o xs (Phase.Moves step v) below = records_left c (view s) step v xs + 1
top_left c s a o xs (Phase.Lost v g) below = 2 + under_left c (view s) a o xs below

-- all that is left, by the stack of phases
abbrev pub left : Program → After → ℕ → Op → List Migrating → List Phase → ℕ
left c s a o xs [] = 0
left c s a o xs (top ∷ below) = top_left c s a o xs top below
