-- Stacks that stand, after an entry of their actor.
use Rattle.std.proofs.Common.{◌≡◌, ℕ, ◌+◌, ◌^◌, ◌<◌, ◌≤◌, Bool, true, false, ◌==◌, nat_lt, if◌then◌else◌, Option, Some, None, List, [], ◌∷◌, length, refl, ◌⊎◌, inl, inr, find, arith}
use Rattle.std.specs.Prelude.{IsTrue, slice_get, ⊤}
use Rattle.std.proofs.lemmas.Bool.Decides.{nat_tests}
use Rattle.hm_base.specs.Pages.{Pages}
use Rattle.hm_base.specs.Program.{Program}
use Rattle.hm_base.specs.declared.Frame.{Frame}
use Rattle.hm_base.specs.declared.Place.{Place}
use Rattle.hm_base.specs.declared.ops.Op.{Op}
use Rattle.hm_base.specs.declared.ops.Rights.TheVariants.{Read, ReadWrite}
use Rattle.hm_history.specs.Memory.Words.{names}
use Rattle.hm_history.specs.Kernel.Operation.{op_pieces, is_evicting, is_remove}
use Rattle.hm_history.specs.Kernel.Going.{first_stack, going_from, op_at}
use Rattle.hm_history.specs.Kernel.Stacks.{piece_ends, with_guard, read_locked, after_begin, body_of, after_locked, after_ready, after_answer, after_pages, first_phase, first_touch, after_piece, is_added, after_fetched, after_walk, with_frame_taken, body_of_fault, after_decide, after_taken, is_place_of, page_of_entry, frames_past, caught_next, dropping, after_body, body_next, guard_goes_on, told_mirror, is_end, after_guard, giving_up, gives_up, after_emptying, with_one_more, after_copy, after_finish, after_give_up, number_of, catching, after_frames, freezing, freezing_in, next_cursor, copying, kept_step, dropping_lost, finishing, after_moves, after_migration, after_top, stack_after}
use Rattle.hm_history.specs.declared.KeptAt.{KeptAt}
use Rattle.hm_history.specs.declared.KeptWhy.{KeptWhy}
use Rattle.hm_history.specs.declared.Kind.{Kind}
use Rattle.hm_history.specs.declared.phases.Body.{Body}
use Rattle.hm_history.specs.declared.phases.Migrating.{Migrating}
use Rattle.hm_history.specs.declared.phases.MoveStep.{MoveStep}
use Rattle.hm_history.specs.declared.phases.Phase.{Phase}
use Rattle.hm_history.specs.declared.phases.Seen.{Seen}
use Rattle.hm_history.specs.declared.phases.Touch.{Touch}
use Rattle.hm_history.specs.declared.phases.Touch.TheVariants.{Walk}
use Rattle.hm_flaws.specs.Flawed.{freezing_late, led_on, set_on, some_device_access, stack_by, with_body, without_step}
use Rattle.hm_flaws.specs.declared.flaws.Flaw.{Flaw}
use Rattle.hm_phases.specs.Items.{below_takes_count}
use Rattle.hm_reads.specs.Ranges.{top_in_range}
use Rattle.hm_flaw_states.specs.Rooms.{BodyStands, IsQuietAt, PhaseStands, PlacesPage, StackStands, body_rises, is_quiet}

-- ---- phases

-- after one entry more
phase_more : (n : ℕ) (x : Phase) → PhaseStands n x → PhaseStands (n + 1) x
phase_more n (Phase.Frames v m) h = omega (arith, h)
phase_more n (Phase.Guard p r met told body) h = h
phase_more n x h = tt

pub stands_more : (n : ℕ) (xs : List Phase) → StackStands n xs → StackStands (n + 1) xs
stands_more n [] h = tt
stands_more n (x ∷ xs) h = (h.0, phase_more n x h.1, stands_more n xs h.2)

few_rise : (body : Body) → body_rises body ≤ 1
few_rise Body.Nothing = omega arith
few_rise (Body.Catch f) = omega arith
few_rise (Body.Freeze f) = omega arith
few_rise body = omega arith

-- ---- operations

ends : (m : ℕ) (o : Op) (k : ℕ) → StackStands m (piece_ends o k)
ends m o k = by (nat_lt (k + 1) (length (op_pieces o)))
  where
    by : (b : Bool) → StackStands m (if b then Phase.Piece (k + 1) ∷ [] else [])
    by true = (omega arith, tt, tt)
    by false = tt

-- a guard over at most one phase
guarded : (m : ℕ) (k : Kind) (seen : Seen) (body : Body) (below : List Phase) → length below ≤ 1 → BodyStands body → StackStands m below → StackStands m (with_guard k seen body below)
guarded m (Kind.Start p r q) seen body below few b h = (omega (arith, few, few_rise body), b, h)
guarded m k seen body below few b h = h

locked_at : (m : ℕ) (o : Op) → StackStands m (read_locked o ∷ [])
locked_at m (Op.Snap i r) = (omega arith, tt, tt)
locked_at m (Op.Exclusive i v) = (omega arith, tt, tt)
locked_at m o = (omega arith, tt, tt)

begun : (m : ℕ) (o : Op) (k : Kind) → StackStands m (after_begin o k)
begun m o (Kind.Wlock p) = (omega arith, tt, tt)
begun m o (Kind.Rlock p) = locked_at m o
begun m o (Kind.Detaching i q) = (omega arith, tt, tt)
begun m o k = tt

span_body : (o : Op) (r : Pages) → BodyStands (body_of o r)
span_body (Op.Protect p s Read) r = tt
span_body (Op.Protect p s ReadWrite) r = tt
span_body o r = tt

locked : (m : ℕ) (o : Op) (k : Kind) (seen : Seen) → StackStands m (after_locked o k seen)
locked m o (Kind.Named p child) seen = (omega arith, tt, tt)
locked m o (Kind.Start p r q) seen = guarded m (Kind.Start p r q) seen (body_of o r) (Phase.Answer ∷ []) (omega arith) (span_body o r) (omega arith, tt, tt)
locked m o k seen = tt

ready : (m : ℕ) (o : Op) (k : Kind) (seen : Seen) → StackStands m (after_ready o k seen)
ready m (Op.Fork p child) k seen = guarded m k seen (Body.Fork 0 false) (Phase.Answer ∷ []) (omega arith) tt (omega arith, tt, tt)
ready m (Op.ToDevice i r) k seen = guarded m k seen (Body.Select r.first) (Phase.Moves MoveStep.FreezeOthers r.first ∷ []) (omega arith) tt (omega arith, tt, tt)
ready m (Op.ToSystem i r) k seen = guarded m k seen (Body.Select r.first) (Phase.Moves MoveStep.FreezeOthers r.first ∷ []) (omega arith) tt (omega arith, tt, tt)
ready m o k seen = tt

answered : (m : ℕ) (k : Kind) → StackStands m (after_answer k)
answered m (Kind.Runlock p) = (omega arith, tt, tt)
answered m k = tt

paged : (m : ℕ) (k : Kind) → StackStands m (after_pages k)
paged m (Kind.Seen i v c) = (omega arith, tt, tt)
paged m k = tt

pieced : (m : ℕ) (o : Op) (n : ℕ) (touch : Touch) (k : Kind) (seen : Seen) → StackStands m (after_piece o n touch k seen)
pieced m o n touch (Kind.Loaded x at bs) seen = ends m o n
pieced m o n touch (Kind.Stored x at bs) seen = ends m o n
pieced m o n touch (Kind.Failed x at j c) seen = ends m o n
pieced m o n touch (Kind.Begin i q) seen = (omega arith, tt, tt)
pieced m o n touch (Kind.Fetched i at bs) seen = (omega arith, tt, tt)
pieced m o n touch (Kind.Rlock p) seen = (omega arith, tt, tt)
pieced m o n touch k seen = (omega arith, tt, tt)

fetched : (m : ℕ) (o : Op) (k : Kind) (seen : Seen) → StackStands m (after_fetched o k seen)
fetched m o k seen = by (is_added k) (pieced m o 0 Touch.Sole k seen)
  where
    by : (b : Bool) → StackStands m (after_piece o 0 Touch.Sole k seen) → StackStands m (if b then [] else after_piece o 0 Touch.Sole k seen)
    by true h = tt
    by false h = h

-- ---- faults

walked : (m : ℕ) (touch : Touch) (x : Place) → StackStands m (after_walk touch x ∷ [])
walked m (Walk k since q) x = (omega arith, tt, tt)
walked m touch x = (omega arith, tt, tt)

frame_taken : (m : ℕ) (touch : Touch) (g : Frame) (x : Place) → StackStands m (with_frame_taken touch g x ∷ [])
frame_taken m touch g Place.Zero = (omega arith, tt, tt)
frame_taken m touch g x = (omega arith, tt, tt)

fault_body : (x : Place) → BodyStands (body_of_fault x)
fault_body (Place.Own d n w) = tt
fault_body (Place.Exclusive n b) = tt
fault_body (Place.Sys n w) = tt
fault_body x = tt

decided : (m : ℕ) (o : Op) (touch : Touch) (k : Kind) (seen : Seen) → StackStands m (after_decide o touch k seen)
decided m o touch (Kind.Failed x at n c) seen = ends m o _
decided m o touch (Kind.Retry i) seen = (omega arith, tt, tt)
decided m o touch (Kind.Runlock p) seen = walked m touch seen.place
decided m o touch (Kind.Set i v f w from) seen = (omega arith, tt, tt)
decided m o touch (Kind.Place p v x) seen = (omega arith, tt, tt)
decided m o touch (Kind.Take g) seen = frame_taken m touch g seen.place
decided m o touch (Kind.Start p r q) seen = guarded m (Kind.Start p r q) seen (body_of_fault seen.place) (Phase.Decide touch ∷ []) (omega arith) (fault_body seen.place) (omega arith, tt, tt)
decided m o touch k seen = tt

taken : (m : ℕ) (touch : Touch) (g : Frame) (over : Place) (k : Kind) → StackStands m (after_taken touch g over k)
taken m touch g over (Kind.Copied f h n) = (omega arith, tt, tt)
taken m touch g over k = (omega arith, tt, tt)

-- ---- guards

next_body : (body : Body) (p : ℕ) (k : Kind) → PlacesPage k → BodyStands (body_next body p k)
next_body (Body.Zap v) p k h = tt
next_body (Body.Narrow v) p k h = tt
next_body (Body.Select v) p k h = tt
next_body (Body.Fork v half) p k h = by (is_place_of k p) (paged_at k h)
  where
    paged_at : (k : Kind) → PlacesPage k → page_of_entry k < 2 ^ 36 ⊎ (is_place_of k p ≡ false)
    paged_at (Kind.Place q u x) h = inl h
    paged_at k h = inr refl

    by : (b : Bool) → page_of_entry k < 2 ^ 36 ⊎ (b ≡ false) → BodyStands (if b then Body.Fork (page_of_entry k) true else Body.Fork (page_of_entry k + 1) false)
    by true (inl l) = l
    by true (inr e) = cc
    by false e = tt
next_body body p k h = tt

past : (m : ℕ) (f : Frame) (below : List Phase) → StackStands m below → (length (frames_past f below) ≡ length below) × StackStands m (frames_past f below)
past m f [] h = (refl, tt)
past m f (Phase.Frames v n ∷ below) h = (refl, (h.0, h.1, h.2))
past m f (x ∷ below) h = (refl, h)

-- below a guard that catches a frame
caught : (m : ℕ) (o : Op) (f : Frame) (r : Pages) (below : List Phase) → length below + 1 ≤ 2 → StackStands m below → (length (caught_next o f r below) ≡ length below + 1) × StackStands m (caught_next o f r below)
caught m o f r below few h = by (is_evicting o) (past m f below h)
  where
    by : (b : Bool) → (length (frames_past f below) ≡ length below) × StackStands m (frames_past f below)
        → (length (if b then Phase.Emptying f (KeptAt.Frame f) ∷ frames_past f below else (Phase.Emptying f (KeptAt.Page r.first) ∷ below)) ≡ length below + 1) × StackStands m (if b then Phase.Emptying f (KeptAt.Frame f) ∷ frames_past f below else (Phase.Emptying f (KeptAt.Page r.first) ∷ below))
    by true i = (omega (arith, i.0), (omega (arith, few, i.0), tt, i.1))
    by false i = (omega arith, (omega (arith, few), tt, h))

-- a guard that may leave a frame without a name
loud : (m : ℕ) (p : ℕ) (r : Pages) (met : Bool) (told : Option ℕ) (body : Body) (below : List Phase) (f : Option Frame) → length below + 1 ≤ 2 → body_rises body ≤ 1 → BodyStands body → StackStands m below
    → StackStands m (dropping f (Phase.Guard p r met told body ∷ below))
loud m p r met told body below None few l b h = (omega (arith, few, l), b, h)
loud m p r met told body below (Some f) few l b h = (omega (arith, few), tt, (omega (arith, few, l), b, h))

-- one that leaves none
quiet : (m : ℕ) (p : ℕ) (r : Pages) (met : Bool) (told : Option ℕ) (below : List Phase) (f : Option Frame) → length below ≤ 2 → f ≡ None → StackStands m below → StackStands m (dropping f (Phase.Guard p r met told Body.Nothing ∷ below))
quiet m p r met told below None few e h = (omega (arith, few), tt, h)
quiet m p r met told below (Some f) few e h = cc

gone_on : (m : ℕ) (o : Op) (p : ℕ) (r : Pages) (met : Bool) (told : Option ℕ) (body : Body) (below : List Phase) (k : Kind) (seen : Seen) → PlacesPage k → (is_quiet (Phase.Guard p r met told body) ≡ true → seen.orphan ≡ None)
    → length below + body_rises body ≤ 2 → StackStands m below → StackStands m (guard_goes_on o p r met told body below k seen)
gone_on m o p r met told Body.Nothing below k seen pg q few h = quiet m p r met told below seen.orphan (omega (arith, few)) (q refl) h
gone_on m o p r met told (Body.Freeze f) below k seen pg q few h = quiet m p r met told below seen.orphan (omega (arith, few)) (q refl) h
gone_on m o p r met told (Body.Catch f) below k seen pg q few h =
    let c = caught m o f r below few h in
    quiet m p r met told (caught_next o f r below) seen.orphan (omega (arith, few, c.0)) (q refl) c.1
gone_on m o p r met told (Body.Zap v) below k seen pg q few h = loud m p r met told (body_next (Body.Zap v) p k) below seen.orphan few (few_rise (body_next (Body.Zap v) p k)) (next_body (Body.Zap v) p k pg) h
gone_on m o p r met told (Body.Narrow v) below k seen pg q few h = loud m p r met told (body_next (Body.Narrow v) p k) below seen.orphan few (few_rise (body_next (Body.Narrow v) p k)) (next_body (Body.Narrow v) p k pg) h
gone_on m o p r met told (Body.Select v) below k seen pg q few h = loud m p r met told (body_next (Body.Select v) p k) below seen.orphan few (few_rise (body_next (Body.Select v) p k)) (next_body (Body.Select v) p k pg) h
gone_on m o p r met told (Body.Fork v half) below k seen pg q few h = loud m p r met told (body_next (Body.Fork v half) p k) below seen.orphan few (few_rise (body_next (Body.Fork v half) p k)) (next_body (Body.Fork v half) p k pg) h
gone_on m o p r met told body below k seen pg q few h = loud m p r met told Body.Nothing below seen.orphan few (omega arith) tt h

ended : (m : ℕ) (body : Body) (r : Pages) (below : List Phase) → length below ≤ 2 → StackStands m below → StackStands m (after_body body r below)
ended m (Body.Replace over g) r below few h = (omega (arith, few), tt, h)
ended m (Body.Fresh g) r below few h = (omega (arith, few), tt, h)
ended m body r below few h = h

guard_after : (m : ℕ) (o : Op) (p : ℕ) (r : Pages) (met : Bool) (told : Option ℕ) (body : Body) (below : List Phase) (k : Kind) (seen : Seen) → PlacesPage k → (is_quiet (Phase.Guard p r met told body) ≡ true → seen.orphan ≡ None)
    → length below + body_rises body ≤ 2 → BodyStands body → StackStands m below → StackStands m (after_guard o p r met told body below k seen)
guard_after m o p r met told body below k seen pg q few b h = by (told_mirror k) (is_end k)
  where
    by : (i : Option ℕ) (e : Bool) → StackStands m (elim i as (λ z. List Phase) [ Some j ↦ Phase.Guard p r met (Some j) body ∷ below | None ↦ if e then after_body body r below else guard_goes_on o p r met told body below k seen ])
    by (Some j) e = (few, b, h)
    by None true = ended m body r below (omega (arith, few)) h
    by None false = gone_on m o p r met told body below k seen pg q few h

-- ---- frames that are emptied

given_up : (m : ℕ) (o : Op) (below : List Phase) → StackStands m below → (length (gives_up o below) ≤ length below) × StackStands m (gives_up o below)
given_up m o [] h = (omega arith, tt)
given_up m o (x ∷ xs) h = by (giving_up o x) (gives x)
  where
    Light : Option Phase → Type 0
    Light None = ⊤
    Light (Some y) = StackStands m (y ∷ [])

    when : (b : Bool) → Light (if b then Some (Phase.GiveUp None) else None)
    when true = (omega arith, tt, tt)
    when false = tt

    gives : (x : Phase) → Light (giving_up o x)
    gives (Phase.Decide touch) = (omega arith, tt, tt)
    gives (Phase.Frames v n) = when (is_remove o)
    gives x = tt

    by : (y : Option Phase) → Light y → (length (elim y as (λ z. List Phase) [ Some y ↦ y ∷ [] | None ↦ x ∷ xs ]) ≤ length (x ∷ xs)) × StackStands m (elim y as (λ z. List Phase) [ Some y ↦ y ∷ [] | None ↦ x ∷ xs ])
    by (Some y) l = (omega arith, l)
    by None l = (omega arith, h)

emptied : (m : ℕ) (o : Op) (f : Frame) (what : KeptAt) (below : List Phase) (k : Kind) (seen : Seen) → length below + 1 ≤ 2 → StackStands m below → StackStands m (after_emptying o f what below k seen)
emptied m o f what below (Kind.Start p r q) seen few h = (omega (arith, few), tt, (omega (arith, few), tt, h))
emptied m o f what below (Kind.Take g) seen few h = (omega (arith, few), tt, (omega (arith, few), tt, h))
emptied m o f what below k seen few h = let g = given_up m o below h in (omega (arith, few, g.0), tt, g.1)

one_more : (n : ℕ) (below : List Phase) → StackStands n below → (length (with_one_more below) ≡ length below) × StackStands (n + 1) (with_one_more below)
one_more n [] h = (refl, tt)
one_more n (Phase.Frames v k ∷ below) h = (refl, (h.0, omega (arith, h.1), stands_more n below h.2))
one_more n (x ∷ below) h = (refl, stands_more n (x ∷ below) h)

copied : (m : ℕ) (f g : Frame) (n : ℕ) (below : List Phase) → length below ≤ 2 → StackStands m below → StackStands m (after_copy f g n below)
copied m f g n below few h = by (nat_lt n 7)
  where
    by : (b : Bool) → StackStands m (if b then Phase.Copy f g (n + 1) ∷ below else below)
    by true = (omega (arith, few), tt, h)
    by false = h

finished : (m : ℕ) (f : Frame) (to : Option Frame) (below : List Phase) (k : Kind) → length below ≤ 2 → StackStands m below → StackStands m (after_finish f to below k)
finished m f None below (Kind.Place p v x) few h = (omega (arith, few), tt, h)
finished m f (Some g) below (Kind.Place p v x) few h = (omega (arith, few), tt, h)
finished m f None below (Kind.Drop i) few h = h
finished m f (Some g) below (Kind.Drop i) few h = (omega (arith, few), tt, h)
finished m f None below k few h = h
finished m f (Some g) below k few h = h

gave_up : (m : ℕ) (o : Op) (touch : Option Touch) (k : Kind) → StackStands m (after_give_up o touch k)
gave_up m o touch (Kind.Failed x at n c) = ends m o _
gave_up m o touch k = tt

catch_body : (f : Option Frame) → BodyStands (catching f)
catch_body None = tt
catch_body (Some f) = tt

framed : (m v n : ℕ) (k : Kind) (seen : Seen) → n ≤ m → StackStands m (after_frames v n k seen)
framed m v n (Kind.Start p r q) seen l = guarded m (Kind.Start p r q) seen (catching (names seen.place)) (Phase.Frames (number_of (names seen.place)) n ∷ []) (omega arith) (catch_body (names seen.place)) (omega arith, l, tt)
framed m v n (Kind.Kept (KeptAt.Frame f) why) seen l = (omega arith, l, tt)
framed m v n (Kind.Kept (KeptAt.Page u) why) seen l = tt
framed m v n (Kind.Drop f) seen l = (omega arith, l, tt)
framed m v n (Kind.Withdrawn d) seen l = (omega arith, l, tt)
framed m v n k seen l = tt

-- ---- migrations

freeze_in : (step : MoveStep) (f : Frame) → BodyStands (freezing_in step f)
freeze_in MoveStep.FreezeOthers f = tt
freeze_in step f = tt

freeze_body : (step : MoveStep) (f g : Option Frame) → BodyStands (freezing step f g)
freeze_body step (Some f) g = freeze_in step f
freeze_body step None (Some g) = tt
freeze_body step None None = tt

cursor : (m : ℕ) (step : MoveStep) (v : ℕ) → StackStands m (next_cursor step v ∷ [])
cursor m MoveStep.FreezeOthers v = (omega arith, tt, tt)
cursor m step v = (omega arith, tt, tt)

copying_on : (m : ℕ) (f : Option Frame) (g : Frame) (below : List Phase) → length below ≤ 1 → StackStands m below → StackStands m (copying f g below)
copying_on m None g below few h = h
copying_on m (Some f) g below few h = (omega (arith, few), tt, h)

dropped : (m : ℕ) (f : Option Frame) (below : List Phase) → length below ≤ 1 → StackStands m below → StackStands m (dropping f below)
dropped m None below few h = h
dropped m (Some f) below few h = (omega (arith, few), tt, h)

lost : (m : ℕ) (why : KeptWhy) (to : Option Frame) (below : List Phase) → length below ≤ 1 → StackStands m below → StackStands m (dropping_lost why to below)
lost m KeptWhy.Lost to below few h = dropped m to below few h
lost m why to below few h = h

finishing_on : (m : ℕ) (x : Migrating) (k : Kind) → StackStands m (finishing x k)
finishing_on m x k = by x.source
  where
    to : Option Frame
    to = if x.moved then x.dest else None

    by : (s : Option Frame) → StackStands m (elim s as (λ z. List Phase) [ None ↦ Phase.Moves MoveStep.Finish (x.page + 1) ∷ [] | Some f ↦ after_finish f to (Phase.Moves MoveStep.Finish (x.page + 1) ∷ []) k ])
    by None = (omega arith, tt, tt)
    by (Some f) = finished m f to (Phase.Moves MoveStep.Finish (x.page + 1) ∷ []) k (omega arith) (omega arith, tt, tt)

moved : (m : ℕ) (step : MoveStep) (x : Migrating) (k : Kind) (seen : Seen) → StackStands m (after_moves step x k seen)
moved m step x (Kind.Start p r q) seen = guarded m (Kind.Start p r q) seen (freezing step x.source x.dest) (next_cursor step x.page ∷ []) (omega arith) (freeze_body step x.source x.dest) (cursor m step x.page)
moved m step x (Kind.Take g) seen = copying_on m x.source g (Phase.Moves MoveStep.TakeAndCopy (x.page + 1) ∷ []) (omega arith) (omega arith, tt, tt)
moved m step x (Kind.Kept at why) seen = lost m why x.dest (Phase.Moves (kept_step why) (x.page + 1) ∷ []) (omega arith) (omega arith, tt, tt)
moved m step x (Kind.Committed f g) seen = (omega arith, tt, tt)
moved m step x (Kind.Set i v f w from) seen = (omega arith, tt, tt)
moved m step x k seen = finishing_on m x k

migrated : (m : ℕ) (step : MoveStep) (x : Option Migrating) (k : Kind) (seen : Seen) → StackStands m (after_migration step x k seen)
migrated m step None k seen = tt
migrated m step (Some x) k seen = moved m step x k seen

-- ---- all of it

top_stands : (n : ℕ) (o : Op) (top : Phase) (below : List Phase) (k : Kind) (seen : Seen) → PlacesPage k → (is_quiet top ≡ true → seen.orphan ≡ None) → StackStands n (top ∷ below) → StackStands (n + 1) (after_top o top below k seen)
top_stands n o Phase.Begin below k seen pg q h = begun (n + 1) o k
top_stands n o Phase.Locked below k seen pg q h = locked (n + 1) o k seen
top_stands n o Phase.Ready below k seen pg q h = ready (n + 1) o k seen
top_stands n o Phase.Answer below k seen pg q h = answered (n + 1) k
top_stands n o (Phase.Detaching i) below k seen pg q h = tt
top_stands n o (Phase.Pages v) below k seen pg q h = paged (n + 1) k
top_stands n o (Phase.Piece i) below k seen pg q h = pieced (n + 1) o i (first_touch o i) k seen
top_stands n o (Phase.Fetched old) below k seen pg q h = fetched (n + 1) o k seen
top_stands n o (Phase.Begun i since j) below k seen pg q h = pieced (n + 1) o i (Walk i since j) k seen
top_stands n o (Phase.Decide touch) below k seen pg q h = decided (n + 1) o touch k seen
top_stands n o (Phase.Noted i since j x) below k seen pg q h = (omega arith, tt, tt)
top_stands n o (Phase.Taken touch g x) below k seen pg q h = taken (n + 1) touch g x k
top_stands n o (Phase.Armed touch g x) below k seen pg q h = guarded (n + 1) k seen (Body.Replace x g) (Phase.Decide touch ∷ []) (omega arith) tt (omega arith, tt, tt)
top_stands n o (Phase.Guard p r met told body) below k seen pg q h = guard_after (n + 1) o p r met told body below k seen pg q h.0 h.1 (stands_more n below h.2)
top_stands n o (Phase.Drop f) below k seen pg q h = stands_more n below h.2
top_stands n o (Phase.Emptying f what) below k seen pg q h = emptied (n + 1) o f what below k seen h.0 (stands_more n below h.2)
top_stands n o (Phase.Copy f g i) below k seen pg q h = copied (n + 1) f g i below (omega (arith, h.0)) (stands_more n below h.2)
top_stands n o (Phase.Copied f g) below k seen pg q h = let m = one_more n below h.2 in (omega (arith, h.0, m.0), tt, m.1)
top_stands n o (Phase.Finish f to) below k seen pg q h = finished (n + 1) f to below k (omega (arith, h.0)) (stands_more n below h.2)
top_stands n o (Phase.Settle g) below k seen pg q h = stands_more n below h.2
top_stands n o (Phase.GiveUp touch) below k seen pg q h = gave_up (n + 1) o touch k
top_stands n o (Phase.Frames v i) below k seen pg q h = framed (n + 1) v i k seen (omega (arith, h.1))
top_stands n o (Phase.Moves step v) below k seen pg q h = migrated (n + 1) step seen.page k seen
top_stands n o (Phase.Lost v g) below k seen pg q h = (omega (arith, h.0), tt, stands_more n below h.2)

-- a stack stands after an entry of its actor
pub stack_stands : (n : ℕ) (o : Op) (st : List Phase) (k : Kind) (seen : Seen) → PlacesPage k → IsQuietAt st seen → StackStands n st → StackStands (n + 1) (stack_after o st k seen)
stack_stands n o [] k seen pg q h = tt
stack_stands n o (top ∷ below) k seen pg q h = top_stands n o top below k seen pg q h

-- ---- what a driver leaves out

without : (m : ℕ) (l : Flaw) (st : List Phase) → StackStands m st → StackStands m (without_step l st)
without m Flaw.PartCopied (Phase.Copy f g k ∷ below) h = by (k == 7)
  where
    by : (b : Bool) → StackStands m (if b then below else (Phase.Copy f g k ∷ below))
    by true = h.2
    by false = h
without m Flaw.LostHeld (Phase.Drop g ∷ Phase.Moves step v ∷ below) h = h.2
without m Flaw.OthersLeft (Phase.Moves MoveStep.FreezeOthers v ∷ below) h = (h.0, tt, h.2)
without m Flaw.FrozenLate (Phase.Moves MoveStep.FreezeOthers v ∷ below) h = (h.0, tt, h.2)
without m l st h = h

late_body : (f : Option Frame) → (body_rises (freezing MoveStep.FreezeOthers f None) ≡ 0) × BodyStands (freezing MoveStep.FreezeOthers f None)
late_body None = (refl, tt)
late_body (Some f) = (refl, tt)

frozen : (m : ℕ) (xs : List Migrating) (st : List Phase) → StackStands m st → StackStands m (freezing_late xs st)
frozen m xs (Phase.Guard p r met told Body.Nothing ∷ Phase.Moves step v ∷ below) h = by (find (λ x. x.page + 1 == v) xs)
  where
    by : (y : Option Migrating) → StackStands m (elim y as (λ z. List Phase) [
      | None ↦ Phase.Guard p r met told Body.Nothing ∷ Phase.Moves step v ∷ below
      | Some x ↦ with_body (freezing MoveStep.FreezeOthers x.source None) (Phase.Guard p r met told Body.Nothing) ∷ Phase.Moves MoveStep.Commit x.page ∷ below
    ])
    by None = h
    by (Some x) = let b = late_body x.source in (omega (arith, h.0, b.0), b.1, (h.2.0, tt, h.2.2))
frozen m xs [] h = h
frozen m xs (x ∷ []) h = h
frozen m xs (x ∷ y ∷ below) h = h

set_stands : (m v : ℕ) (st : List Phase) → StackStands m st → StackStands m (set_on v st)
set_stands m v (Phase.Moves step n ∷ below) h = (h.0, tt, h.2)
set_stands m v st h = h

led : (m : ℕ) (o : Option Op) (at : ℕ) (before : List Phase) (k : Kind) (st : List Phase) → StackStands m st → StackStands m (led_on o at before k st)
led m o at (Phase.Piece n ∷ before) (Kind.Rlock p) st h = by (some_device_access o)
  where
    by : (b : Bool) → StackStands m (if b then Phase.Decide (Walk n 0 0) ∷ [] else st)
    by true = (omega arith, tt, tt)
    by false = h
led m o at (Phase.Noted n since q x ∷ before) (Kind.Begin i j) st h = (omega arith, tt, tt)
led m o at before k st h = h

-- so it does by the driver's flaw
pub stands_by : (m : ℕ) (l : Flaw) (o : Option Op) (at : ℕ) (before : List Phase) (k : Kind) (xs : List Migrating) (st : List Phase) → StackStands m st → StackStands m (stack_by l o at before k xs st)
stands_by m Flaw.BegunLast o at before k xs st h = led m o at before k st h
stands_by m Flaw.OwnAnyway o at before (Kind.Set i v f w from) xs st h = set_stands m v st h
stands_by m Flaw.FrozenLate o at before (Kind.Start p r q) xs st h = frozen m xs st h
stands_by m l o at before k xs st h = without m l st h

-- ---- what follows

pub low_stack : (m : ℕ) (st : List Phase) → StackStands m st → length st ≤ 3
low_stack m [] h = omega arith
low_stack m (x ∷ xs) h = omega (arith, h.0)

pub ranged_stack : (m : ℕ) (st : List Phase) → StackStands m st → IsTrue (top_in_range (slice_get st 0))
ranged_stack m [] h = refl
ranged_stack m (Phase.Guard p r met told (Body.Fork v true) ∷ xs) h = below_end v h.1
  where
    below_end : (v : ℕ) → v < 2 ^ 36 → nat_lt v (2 ^ 36) ≡ true
    below_end v l = grind (arith, nat_tests)
ranged_stack m (Phase.Guard p r met told (Body.Fork v false) ∷ xs) h = refl
ranged_stack m (x ∷ xs) h = refl

pub counted_stack : (m : ℕ) (st : List Phase) → m ≤ 2000000 → StackStands m st → IsTrue (below_takes_count st)
counted_stack m [] few h = refl
counted_stack m (x ∷ []) few h = refl
counted_stack m (x ∷ Phase.Frames v n ∷ xs) few h = takes n (omega (arith, few, h.2.1))
  where
    takes : (n : ℕ) → n ≤ 2000000 → nat_lt (n + 1) (2 ^ 64) ≡ true
    takes n l = grind (arith, nat_tests)
counted_stack m (x ∷ y ∷ xs) few h = refl

first : (m : ℕ) (o : Op) → StackStands m (first_phase o ∷ [])
first m (Op.Load p at n) = (omega arith, tt, tt)
first m (Op.Store p at bs) = (omega arith, tt, tt)
first m (Op.DeviceLoad i at n) = (omega arith, tt, tt)
first m (Op.DeviceStore i at bs) = (omega arith, tt, tt)
first m (Op.Add i at k) = (omega arith, tt, tt)
first m (Op.Evict d) = (omega arith, omega arith, tt)
first m (Op.Remove d) = (omega arith, omega arith, tt)
first m o = (omega arith, tt, tt)

pub first_stands : (m : ℕ) (c : Program) (a i : ℕ) → StackStands m (going_from c a i).stack
first_stands m c a i = by (op_at c a i)
  where
    by : (o : Option Op) → StackStands m (first_stack o)
    by None = tt
    by (Some o) = first m o
