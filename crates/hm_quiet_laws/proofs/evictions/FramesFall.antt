-- Evictions and removals: the device's frames in order.
use Rattle.std.proofs.lemmas.Bool.{and_from}
use Rattle.std.proofs.Common.{◌≡◌, ℕ, zero, suc, ◌+◌, ◌*◌, ◌-◌, ◌<◌, ◌≤◌, Bool, true, false, ◌&&◌, not, nat_lt, is_none, is_some, if◌then◌else◌, Option, Some, None, List, [], ◌∷◌, refl, sym, ap, ◌∙◌, subst, arith}
use Rattle.std.specs.Prelude.{slice_index}
use Rattle.std.proofs.Math.Nat.{mul-le-mul_right}
use Rattle.std.proofs.lemmas.Bool.Decides.{nat_tests}
use Rattle.hm_base.specs.Pages.{Pages, one_page}
use Rattle.hm_base.specs.Program.{Program}
use Rattle.hm_base.specs.declared.Frame.{Frame}
use Rattle.hm_base.specs.declared.Place.{Place}
use Rattle.hm_base.specs.declared.PoolId.{PoolId}
use Rattle.hm_base.specs.declared.ops.Op.{Op}
use Rattle.hm_history.specs.Memory.Words.{dev_frame, with_at, least, names, names_directly, moving_frame, is_frame, writable, place_in}
use Rattle.hm_history.specs.Memory.Places.{lowest_direct, lowest_moving, lowest_named, lowest_free, held_from, pool_size, frame_of}
use Rattle.hm_history.specs.Memory.Sequences.{some_overlap, seq_ended}
use Rattle.hm_history.specs.Memory.Locks.{orphan, other_locker}
use Rattle.hm_history.specs.Memory.After.{After}
use Rattle.hm_history.specs.Kernel.Operation.{is_remove, is_evicting}
use Rattle.hm_history.specs.Kernel.Quiet.{attaches, over_ops, guard_cost, home_cost, process_count}
use Rattle.hm_history.specs.Kernel.Stacks.{dropping, frames_past, catching, number_of}
use Rattle.hm_history.specs.Kernel.Due.{start_entry, to_tell, if_so, due_body, body_or_end, due_guard, due_emptying, settle, due_finish, due_frames_of, due_frames}
use Rattle.hm_history.specs.declared.KeptAt.{KeptAt}
use Rattle.hm_history.specs.declared.KeptWhy.{KeptWhy}
use Rattle.hm_history.specs.declared.Kind.{Kind}
use Rattle.hm_history.specs.declared.phases.Migrating.{Migrating}
use Rattle.hm_history.specs.declared.phases.Body.{Body}
use Rattle.hm_history.specs.declared.phases.Phase.{Phase}
use Rattle.hm_history.specs.declared.phases.Next.{Next}
use Rattle.hm_history.specs.declared.phases.Next.TheVariants.{Do}
use Rattle.hm_history.proofs.Least.{at_least}
use Rattle.hm_history.proofs.Updates.{here_at}
use Rattle.hm_history.proofs.Tests.{true_false}
use Rattle.hm_history.proofs.Frames.{is_frame_from, is_frame_of}
use Rattle.hm_laws.specs.Past.{Past, past_next}
use Rattle.hm_laws.specs.Sound.{Sound}
use Rattle.hm_laws.specs.Allowed.{next}
use Rattle.hm_laws.specs.Facts.{HoldsAll, facts}
use Rattle.hm_laws.proofs.State.Search.{least_below}
use Rattle.hm_laws.proofs.Kept.PlaceLocks.{lowest_passes}
use Rattle.hm_laws.proofs.Kept.Sound.{kept}
use Rattle.hm_laws.proofs.Due.Spans.{this_page}
use Rattle.hm_laws.proofs.Due.Good.{Good, either, either_option}
use Rattle.hm_quiet_laws.proofs.measure.Left.{View, view, placed_view, left, told_left, direct_at, moving_at, frame_page, alone_left, frames_left, op_device, under_left, caught_left, past_frame, body_left}
use Rattle.hm_quiet_laws.proofs.measure.Counts.{Few}
use Rattle.hm_quiet_laws.proofs.measure.Shapes.{on_frames, on_frame_body, on_left, no_test}
use Rattle.hm_quiet_laws.proofs.alone.Ends.{StepsTo}
use Rattle.hm_quiet_laws.proofs.counts.CountsBelow.{told_few}
use Rattle.hm_quiet_laws.proofs.spans.TellingsFall.{told_falls}
use Rattle.hm_quiet_laws.proofs.counts.UsesOfAFrame.{direct_frozen, moving_frozen, page_is, home_fits}
use Rattle.hm_quiet_laws.proofs.faults.TakesFall.{if_true, if_false}
use Rattle.hm_quiet_laws.proofs.accesses.HomeFalls.{used_place, named_directly, others_fit, fewer_moving}
use Rattle.hm_laws.proofs.Kept.Frames.{names_stays}
use Rattle.hm_laws.proofs.Other.Emptied.{direct_of}

abbrev pub OnFrames : List Phase → Type 0
OnFrames st = on_frames st ≡ true

next_frame : (x v k h : ℕ) → v ≤ k → k < x → (x - (k + 1)) * h + h ≤ (x - v) * h
next_frame x v k h l m = omega (arith, mul-le-mul_right h (less x v k l m), one (x - (k + 1)) h)
  where
    less : (x v k : ℕ) → v ≤ k → k < x → (x - (k + 1)) + 1 ≤ x - v
    less x v k l m = omega arith

    one : (n h : ℕ) → (n + 1) * h ≡ n * h + h
    one n h = grind arith

-- guards
abbrev pub InGuardF : Program → After → Past → ℕ → Op → List Migrating → ℕ → Pages → Bool → Option ℕ → Body → List Phase → Kind → Type 0
InGuardF c s t a o xs p r met told body below k = Good c s t a o xs (Phase.Guard p r met told body) below (Do k) → StepsTo c s a o xs (Phase.Guard p r met told body) below OnFrames (Do k)

pub told_in_frames : (c : Program) (s : After) (t : Past) (a : ℕ) (o : Op) (xs : List Migrating) (p : ℕ) (r : Pages) (met : Bool) (told : Option ℕ) (body : Body) (below : List Phase) → Sound c s t → on_frame_body body below ≡ true →
    InGuardF c s t a o xs p r met told body below (body_or_end s p r (due_body s a o p r (s.places.place p r.first) body)) → InGuardF c s t a o xs p r met told body below (due_guard s a o p r met told body)
told_in_frames c s t a o xs p r met told body below so on h = either_option (InGuardF c s t a o xs p r met told body below) (to_tell s p r met told) _ _ (λ e. h) (λ m e g. (told_falls c s t a o xs p r met told body below m so e, on))

pub catch_in_frames : (c : Program) (s : After) (t : Past) (a : ℕ) (o : Op) (xs : List Migrating) (p : ℕ) (r : Pages) (met : Bool) (told : Option ℕ) (f : Frame) (v n : ℕ) → Sound c s t → is_evicting o ≡ true →
    InGuardF c s t a o xs p r met told (Body.Catch f) (Phase.Frames v n ∷ []) (body_or_end s p r (due_body s a o p r (s.places.place p r.first) (Body.Catch f)))
catch_in_frames c s t a o xs p r met told f v n so ev = by (is_frame (names_directly (s.places.place p r.first)) f && is_none (s.locks.frame f)) refl
  where
    w : Bool
    w = writable (s.places.place p r.first)

    k : Kind
    k = Kind.Place p r.first (Place.Moving f w)

    y : View
    y = placed_view (view s) p r.first (Place.Moving f w)

    before : (b : Bool) → is_evicting o ≡ true → (is_frame (names_directly (s.places.place p r.first)) f && is_none (s.locks.frame f)) ≡ b → body_left c (view s) s.locks.frame a o xs p r (s.places.place p r.first) (Body.Catch f) (Phase.Frames v n ∷ []) ≡ (if b then 2 + (alone_left c y f r.first + frames_left c y o (f.number + 1)) else (1 + frames_left c (view s) o v))
    before b ev e = ap (λ d. if d then 2 + caught_left c y a o xs f r.first (past_frame o f (Phase.Frames v n ∷ [])) else (1 + frames_left c (view s) o v)) e
        ∙ ap (λ d. if b then 2 + (alone_left c y f r.first + under_left c y a o xs (if d then frames_past f (Phase.Frames v n ∷ []) else (Phase.Frames v n ∷ []))) else (1 + frames_left c (view s) o v)) ev

    by : (b : Bool) → (is_frame (names_directly (s.places.place p r.first)) f && is_none (s.locks.frame f)) ≡ b → InGuardF c s t a o xs p r met told (Body.Catch f) (Phase.Frames v n ∷ []) (body_or_end s p r (if_so b k))
    by true e gd = at (is_evicting o) ev (orphan s.locks s.places k) gd.2
      where
        page : frame_page (view (next s a k)) f ≡ r.first
        page = page_is c (next s a k) (past_next t s.length a k) p r.first f (kept c s t a k so gd.0) (ap names (this_page s.places.place p r.first (Place.Moving f w)))

        less : told_left s p r met told + (1 + (alone_left c y f (frame_page y f) + frames_left c y o (f.number + 1))) < left c s a o xs (Phase.Guard p r met told (Body.Catch f) ∷ Phase.Frames v n ∷ [])
        less = omega (arith, before true ev e, ap (alone_left c y f) page)

        at : (b : Bool) → b ≡ true → (z : Option Frame) → HoldsAll (next s a k) (past_next t s.length a k) a (facts o xs (dropping z (Phase.Guard p r met told Body.Nothing ∷ (if b then Phase.Emptying f (KeptAt.Frame f) ∷ Phase.Frames (f.number + 1) n ∷ [] else (Phase.Emptying f (KeptAt.Page r.first) ∷ Phase.Frames v n ∷ []))))) →
            (left c (next s a k) a o xs (dropping z (Phase.Guard p r met told Body.Nothing ∷ (if b then Phase.Emptying f (KeptAt.Frame f) ∷ Phase.Frames (f.number + 1) n ∷ [] else (Phase.Emptying f (KeptAt.Page r.first) ∷ Phase.Frames v n ∷ [])))) < left c s a o xs (Phase.Guard p r met told (Body.Catch f) ∷ Phase.Frames v n ∷ [])) × OnFrames (dropping z (Phase.Guard p r met told Body.Nothing ∷ (if b then Phase.Emptying f (KeptAt.Frame f) ∷ Phase.Frames (f.number + 1) n ∷ [] else (Phase.Emptying f (KeptAt.Page r.first) ∷ Phase.Frames v n ∷ []))))
        at false i z h = cc
        at true i None h = (less, refl)
        at true i (Some g) h = absurd h.0
    by false e gd = (omega (arith, before false ev e), refl)

pub freeze_in_frames : (c : Program) (s : After) (t : Past) (a : ℕ) (o : Op) (xs : List Migrating) (p : ℕ) (r : Pages) (met : Bool) (told : Option ℕ) (f g : Frame) (w : KeptAt) (v n : ℕ) → Sound c s t → f ≡ g →
    InGuardF c s t a o xs p r met told (Body.Freeze f) (Phase.Emptying g w ∷ Phase.Frames v n ∷ []) (body_or_end s p r (due_body s a o p r (s.places.place p r.first) (Body.Freeze f)))
freeze_in_frames c s t a o xs p r met told f g w v n so same = by (is_frame (names_directly (s.places.place p r.first)) f) refl
  where
    k : Kind
    k = Kind.Place p r.first (Place.Moving f (writable (s.places.place p r.first)))

    y : View
    y = placed_view (view s) p r.first (Place.Moving f (writable (s.places.place p r.first)))

    by : (b : Bool) → is_frame (names_directly (s.places.place p r.first)) f ≡ b → InGuardF c s t a o xs p r met told (Body.Freeze f) (Phase.Emptying g w ∷ Phase.Frames v n ∷ []) (body_or_end s p r (if_so b k))
    by true e gd = at (orphan s.locks s.places k) gd.2
      where
        before : body_left c (view s) s.locks.frame a o xs p r (s.places.place p r.first) (Body.Freeze f) (Phase.Emptying g w ∷ Phase.Frames v n ∷ []) ≡ 2 + (alone_left c y g r.first + frames_left c y o v)
        before = if_true (is_frame (names_directly (s.places.place p r.first)) f) (2 + (alone_left c y g r.first + frames_left c y o v)) (1 + (alone_left c (view s) g (frame_page (view s) g) + frames_left c (view s) o v)) e

        page : frame_page (view (next s a k)) g ≡ r.first
        page = page_is c (next s a k) (past_next t s.length a k) p r.first g (kept c s t a k so gd.0) (ap names (this_page s.places.place p r.first (Place.Moving f (writable (s.places.place p r.first)))) ∙ ap Some same)

        at : (z : Option Frame) → HoldsAll (next s a k) (past_next t s.length a k) a (facts o xs (dropping z (Phase.Guard p r met told Body.Nothing ∷ Phase.Emptying g w ∷ Phase.Frames v n ∷ []))) → (left c (next s a k) a o xs (dropping z (Phase.Guard p r met told Body.Nothing ∷ Phase.Emptying g w ∷ Phase.Frames v n ∷ [])) < left c s a o xs (Phase.Guard p r met told (Body.Freeze f) ∷ Phase.Emptying g w ∷ Phase.Frames v n ∷ [])) × OnFrames (dropping z (Phase.Guard p r met told Body.Nothing ∷ Phase.Emptying g w ∷ Phase.Frames v n ∷ []))
        at None h = (omega (arith, before, ap (alone_left c y g) page), refl)
        at (Some i) h = absurd h.0
    by false e gd = (omega (arith, before), refl)
      where
        before : body_left c (view s) s.locks.frame a o xs p r (s.places.place p r.first) (Body.Freeze f) (Phase.Emptying g w ∷ Phase.Frames v n ∷ []) ≡ 1 + (alone_left c (view s) g (frame_page (view s) g) + frames_left c (view s) o v)
        before = if_false (is_frame (names_directly (s.places.place p r.first)) f) (2 + (alone_left c y g r.first + frames_left c y o v)) (1 + (alone_left c (view s) g (frame_page (view s) g) + frames_left c (view s) o v)) e

pub nothing_in_frames : (c : Program) (s : After) (t : Past) (a : ℕ) (o : Op) (xs : List Migrating) (p : ℕ) (r : Pages) (met : Bool) (told : Option ℕ) (f : Frame) (w : KeptAt) (v n : ℕ) → InGuardF c s t a o xs p r met told Body.Nothing (Phase.Emptying f w ∷ Phase.Frames v n ∷ []) (Kind.End p r (seq_ended s.sequences p))
nothing_in_frames c s t a o xs p r met told f w v n gd = (omega arith, refl)

-- one frame emptied
pub alone_in_frames : (c : Program) (s : After) (t : Past) (a : ℕ) (o : Op) (xs : List Migrating) (f : Frame) (w : KeptAt) (v n : ℕ) → Sound c s t → Few c s → StepsTo c s a o xs (Phase.Emptying f w) (Phase.Frames v n ∷ []) OnFrames (Do (due_emptying c s f w))
alone_in_frames c s t a o xs f w v n so fw = either_option P (lowest_direct s.places f) _ _
    (λ e. either_option P (lowest_free c s.places PoolId.System) _ _ (λ i. given (is_remove o)) (λ g i. (omega arith, refl)))
    (λ x e. start_at x e)
  where
    P : Kind → Type 0
    P k = StepsTo c s a o xs (Phase.Emptying f w) (Phase.Frames v n ∷ []) OnFrames (Do k)

    given : (b : Bool) → (left c (next s a (Kind.Kept w KeptWhy.NoFrame)) a o xs (Phase.Finish f None ∷ (elim (if b then Some (Phase.GiveUp None) else None) [ Some y ↦ y ∷ [] | None ↦ Phase.Frames v n ∷ [] ])) < left c s a o xs (Phase.Emptying f w ∷ Phase.Frames v n ∷ [])) × OnFrames (Phase.Finish f None ∷ (elim (if b then Some (Phase.GiveUp None) else None) [ Some y ↦ y ∷ [] | None ↦ Phase.Frames v n ∷ [] ]))
    given true = (omega arith, refl)
    given false = (omega arith, refl)

    start_at : (x : ℕ × ℕ) → lowest_direct s.places f ≡ Some x → P (start_entry s x.0 (one_page x.1))
    start_at x e = (less, refl)
      where
        z : Place
        z = s.places.place x.0 x.1

        passes : is_frame (names_directly z) f ≡ true
        passes = lowest_passes (λ p v. is_frame (names_directly (s.places.place p v)) f) s.places.placed x e

        direct : names_directly z ≡ Some f
        direct = is_frame_from (names_directly z) f passes

        y : View
        y = placed_view (view s) x.0 x.1 (Place.Moving f (writable z))

        page : frame_page (view s) f ≡ x.1
        page = page_is c s t x.0 x.1 f so (named_directly z f direct)

        process : x.0 < 32
        process = fw.few_processes x.0 x.1 (used_place z f direct)

        told : ℕ
        told = told_left (next s a (start_entry s x.0 (one_page x.1))) x.0 (one_page x.1) (some_overlap s.sequences x.0 (one_page x.1)) None

        few : told ≤ over_ops attaches c
        few = told_few (next s a (start_entry s x.0 (one_page x.1))) x.0 (one_page x.1) (some_overlap s.sequences x.0 (one_page x.1)) None (over_ops attaches c) fw.mirrors

        body : body_left c (view s) s.locks.frame a o xs x.0 (one_page x.1) z (Body.Freeze f) (Phase.Emptying f w ∷ Phase.Frames v n ∷ []) ≡ 2 + (alone_left c y f x.1 + frames_left c y o v)
        body = if_true (is_frame (names_directly z) f) (2 + (alone_left c y f x.1 + frames_left c y o v)) (1 + (alone_left c (view s) f (frame_page (view s) f) + frames_left c (view s) o v)) passes

        fits : told + (2 + alone_left c y f x.1) < alone_left c (view s) f x.1
        fits = others_fit told 0 (guard_cost c) (direct_at y f x.1) (direct_at (view s) f x.1) (moving_at y f x.1) (moving_at (view s) f x.1) (omega (arith, few)) (direct_frozen (view s) x.0 x.1 f (writable z) process passes) (moving_frozen (view s) x.0 x.1 f (Place.Moving f (writable z)))

        less : told + body_left c (view s) s.locks.frame a o xs x.0 (one_page x.1) z (Body.Freeze f) (Phase.Emptying f w ∷ Phase.Frames v n ∷ []) < alone_left c (view s) f (frame_page (view s) f) + frames_left c (view s) o v
        less = omega (arith, body, fits, ap (alone_left c (view s) f) page)

pub copy_in_frames : (c : Program) (s : After) (a : ℕ) (o : Op) (xs : List Migrating) (f g i j : Frame) (k v n : ℕ) → k ≤ 7 → StepsTo c s a o xs (Phase.Copy f g k) (Phase.Copied i j ∷ Phase.Frames v n ∷ []) OnFrames (Do (Kind.Copied f g (Some k)))
copy_in_frames c s a o xs f g i j k v n h = by (nat_lt k 7) refl
  where
    less : (b : Bool) → nat_lt k 7 ≡ b → b ≡ true → k < 7
    less b e i = grind (arith, nat_tests)

    one : (m : ℕ) → k < 7 → (8 - (k + 1)) + m < (8 - k) + m
    one m l = omega arith

    last : (m : ℕ) → m < (8 - k) + m
    last m = omega arith

    by : (b : Bool) → nat_lt k 7 ≡ b → (left c (next s a (Kind.Copied f g (Some k))) a o xs (if b then Phase.Copy f g (k + 1) ∷ Phase.Copied i j ∷ Phase.Frames v n ∷ [] else (Phase.Copied i j ∷ Phase.Frames v n ∷ [])) < left c s a o xs (Phase.Copy f g k ∷ Phase.Copied i j ∷ Phase.Frames v n ∷ [])) × OnFrames (if b then Phase.Copy f g (k + 1) ∷ Phase.Copied i j ∷ Phase.Frames v n ∷ [] else (Phase.Copied i j ∷ Phase.Frames v n ∷ []))
    by true e = (one (moving_at (view s) i (frame_page (view s) i) + 3 + frames_left c (view s) o v) (less true e refl), refl)
    by false e = (last (moving_at (view s) i (frame_page (view s) i) + 3 + frames_left c (view s) o v), refl)

pub copied_in_frames : (c : Program) (s : After) (a : ℕ) (o : Op) (xs : List Migrating) (f g : Frame) (v n : ℕ) → StepsTo c s a o xs (Phase.Copied f g) (Phase.Frames v n ∷ []) OnFrames (Do (Kind.Committed f g))
copied_in_frames c s a o xs f g v n = (omega arith, refl)

-- pages return
pub finish_in_frames : (c : Program) (s : After) (t : Past) (a : ℕ) (o : Op) (xs : List Migrating) (f : Frame) (to : Option Frame) (below : List Phase) → Sound c s t → Few c s → on_left to below ≡ true → Good c s t a o xs (Phase.Finish f to) below (Do (due_finish s f to)) → StepsTo c s a o xs (Phase.Finish f to) below OnFrames (Do (due_finish s f to))
finish_in_frames c s t a o xs f (Some g) (Phase.Frames v n ∷ []) so fw e = either_option P (lowest_moving s.places f) _ _ (λ i gd. (omega arith, refl))
    (λ x i gd. (omega (arith, fewer_moving c s t a f g (writable (s.places.place x.0 x.1)) x so fw (kept c s t a (Kind.Place x.0 x.1 (place_in g (writable (s.places.place x.0 x.1)))) so gd.0) i), refl))
  where
    P : Kind → Type 0
    P k = Good c s t a o xs (Phase.Finish f (Some g)) (Phase.Frames v n ∷ []) (Do k) → StepsTo c s a o xs (Phase.Finish f (Some g)) (Phase.Frames v n ∷ []) OnFrames (Do k)
finish_in_frames c s t a o xs f None (Phase.Frames v n ∷ []) so fw e = either_option P (lowest_moving s.places f) _ _ (λ i. either_option P (lowest_named s.places f) _ _ (λ j gd. (omega arith, refl)) (λ x j gd. (omega arith, refl)))
    (λ x i gd. (omega (arith, fewer_moving c s t a f f (writable (s.places.place x.0 x.1)) x so fw (kept c s t a (Kind.Place x.0 x.1 (place_in f (writable (s.places.place x.0 x.1)))) so gd.0) i), refl))
  where
    P : Kind → Type 0
    P k = Good c s t a o xs (Phase.Finish f None) (Phase.Frames v n ∷ []) (Do k) → StepsTo c s a o xs (Phase.Finish f None) (Phase.Frames v n ∷ []) OnFrames (Do k)
finish_in_frames c s t a o xs f None (Phase.GiveUp None ∷ []) so fw e = either_option P (lowest_moving s.places f) _ _ (λ i. either_option P (lowest_named s.places f) _ _ (λ j gd. (omega arith, refl)) (λ x j gd. (omega arith, refl)))
    (λ x i gd. (omega (arith, fewer_moving c s t a f f (writable (s.places.place x.0 x.1)) x so fw (kept c s t a (Kind.Place x.0 x.1 (place_in f (writable (s.places.place x.0 x.1)))) so gd.0) i), refl))
  where
    P : Kind → Type 0
    P k = Good c s t a o xs (Phase.Finish f None) (Phase.GiveUp None ∷ []) (Do k) → StepsTo c s a o xs (Phase.Finish f None) (Phase.GiveUp None ∷ []) OnFrames (Do k)
finish_in_frames c s t a o xs f to below so fw e = absurd (no_test e)

pub settle_in_frames : (c : Program) (s : After) (a : ℕ) (o : Op) (xs : List Migrating) (g : Frame) (v n : ℕ) → StepsTo c s a o xs (Phase.Settle g) (Phase.Frames v n ∷ []) OnFrames (Do (settle s g))
settle_in_frames c s a o xs g v n = either_option (λ k. StepsTo c s a o xs (Phase.Settle g) (Phase.Frames v n ∷ []) OnFrames (Do k)) (lowest_named s.places g) _ _ (λ e. (omega arith, refl)) (λ x e. (omega arith, refl))

-- the frames in order
abbrev StartsF : Program → After → ℕ → Op → List Migrating → ℕ → ℕ → ℕ × ℕ → Option Frame → Type 0
StartsF c s a o xs v n x z = (told_left (next s a (start_entry s x.0 (one_page x.1))) x.0 (one_page x.1) (some_overlap s.sequences x.0 (one_page x.1)) None + body_left c (view s) s.locks.frame a o xs x.0 (one_page x.1) (s.places.place x.0 x.1) (catching z) (Phase.Frames (number_of z) n ∷ []) < frames_left c (view s) o v)
    × OnFrames (Phase.Guard x.0 (one_page x.1) (some_overlap s.sequences x.0 (one_page x.1)) None (catching z) ∷ Phase.Frames (number_of z) n ∷ [])

start_in_frames : (c : Program) (s : After) (t : Past) (a : ℕ) (o : Op) (xs : List Migrating) (v n k : ℕ) (x : ℕ × ℕ) → Sound c s t → Few c s → is_evicting o ≡ true → s.locks.frame (dev_frame (op_device o) k) ≡ None → v ≤ k → k < slice_index c.devices (op_device o) → lowest_named s.places (dev_frame (op_device o) k) ≡ Some x →
    StepsTo c s a o xs (Phase.Frames v n) [] OnFrames (Do (start_entry s x.0 (one_page x.1)))
start_in_frames c s t a o xs v n k x so fw ev lk l m e = subst (StartsF c s a o xs v n x) (sym named) (less, refl)
  where
    f : Frame
    f = dev_frame (op_device o) k

    z : Place
    z = s.places.place x.0 x.1

    named : names z ≡ Some f
    named = is_frame_from (names z) f (lowest_passes (λ p u. is_frame (names (s.places.place p u)) f) s.places.placed x e)

    unmoved : moving_frame z ≡ Some f → ⊥
    unmoved h = locked (s.locks.frame f) lk (so.frames.moving_locked x.0 x.1 f h)
      where
        locked : (y : Option ℕ) → y ≡ None → is_some y ≡ true → ⊥
        locked None i j = true_false true refl (sym j)
        locked (Some b) i j = cc

    direct : is_frame (names_directly z) f ≡ true
    direct = is_frame_of (names_directly z) f (direct_of z f named unmoved)

    tests : (is_frame (names_directly z) f && is_none (s.locks.frame f)) ≡ true
    tests = and_from (is_frame (names_directly z) f) (is_none (s.locks.frame f)) direct (ap is_none lk)

    y : View
    y = placed_view (view s) x.0 x.1 (Place.Moving f (writable z))

    process : x.0 < 32
    process = fw.few_processes x.0 x.1 (names_stays z f named)

    told : ℕ
    told = told_left (next s a (start_entry s x.0 (one_page x.1))) x.0 (one_page x.1) (some_overlap s.sequences x.0 (one_page x.1)) None

    few : told ≤ over_ops attaches c
    few = told_few (next s a (start_entry s x.0 (one_page x.1))) x.0 (one_page x.1) (some_overlap s.sequences x.0 (one_page x.1)) None (over_ops attaches c) fw.mirrors

    body : body_left c (view s) s.locks.frame a o xs x.0 (one_page x.1) z (Body.Catch f) (Phase.Frames k n ∷ []) ≡ 2 + (alone_left c y f x.1 + frames_left c y o (k + 1))
    body = if_true (is_frame (names_directly z) f && is_none (s.locks.frame f)) (2 + caught_left c y a o xs f x.1 (past_frame o f (Phase.Frames k n ∷ []))) (1 + frames_left c (view s) o k) tests
        ∙ ap (λ b. 2 + (alone_left c y f x.1 + under_left c y a o xs (if b then frames_past f (Phase.Frames k n ∷ []) else (Phase.Frames k n ∷ [])))) ev

    fits : over_ops attaches c + 2 + alone_left c y f x.1 < home_cost c
    fits = home_fits (process_count c) (direct_at y f x.1) (moving_at y f x.1) (guard_cost c) (over_ops attaches c) (omega (arith, direct_frozen (view s) x.0 x.1 f (writable z) process direct, fw.uses f x.1)) (omega (arith, direct_frozen (view s) x.0 x.1 f (writable z) process direct, moving_frozen (view s) x.0 x.1 f (Place.Moving f (writable z)), fw.uses f x.1)) (omega arith)

    less : told + body_left c (view s) s.locks.frame a o xs x.0 (one_page x.1) z (Body.Catch f) (Phase.Frames k n ∷ []) < frames_left c (view s) o v
    less = omega (arith, body, fits, few, next_frame (slice_index c.devices (op_device o)) v k (home_cost c) l m)

frames_less : (c : Program) (s : After) (o : Op) (v k : ℕ) → v ≤ k → k < slice_index c.devices (op_device o) → frames_left c (view s) o (k + 1) < frames_left c (view s) o v
frames_less c s o v k l m = omega (arith, next_frame (slice_index c.devices (op_device o)) v k (home_cost c) l m)

withdrawn_less : (f : ℕ → Bool) (d m n : ℕ) (r : Bool) → (r && not (f d)) ≡ true → m + 1 + (if r && not (with_at f d true d) then 1 else 0) < m + 1 + (if r && not (f d) then 1 else 0)
withdrawn_less f d m n r e = by (f d) (with_at f d true d) r (here_at f d true) e
  where
    by : (x y r : Bool) → y ≡ true → (r && not x) ≡ true → m + 1 + (if r && not y then 1 else 0) < m + 1 + (if r && not x then 1 else 0)
    by false true true i j = omega arith
    by true y true i j = absurd (no_test j)
    by true y false i j = absurd (no_test j)
    by false false r i j = absurd (no_test i)
    by false true false i j = absurd (no_test j)

frames_of : (c : Program) (s : After) (t : Past) (a : ℕ) (o : Op) (xs : List Migrating) (remove : Bool) (v n : ℕ) → Sound c s t → Few c s → is_evicting o ≡ true → is_remove o ≡ remove → ((g : Frame) → s.locks.frame g ≡ None) → StepsTo c s a o xs (Phase.Frames v n) [] OnFrames (due_frames_of c s a (op_device o) remove v n)
frames_of c s t a o xs remove v n so fw ev rm lk = either P (remove && not (s.places.withdrawn d)) _ _
    (λ e. (withdrawn_less s.places.withdrawn d ((slice_index c.devices d - v) * home_cost c) 0 (is_remove o) (ap (λ b. b && not (s.places.withdrawn d)) rm ∙ e), refl))
    (λ e. either_option P (held_from c s.places d v) _ _ (λ i. either Pk remove _ _ (λ j. either Pk (s.places.removed d) _ _ (λ l. (omega arith, refl)) (λ l. (omega arith, refl))) (λ j. (omega arith, refl)))
    (λ k i. either_option P (other_locker s.locks (dev_frame d k) a) _ _ (λ j. either_option P (lowest_named s.places (dev_frame d k)) _ _ (λ l. (frames_less c s o v k (above k i) (below k i), refl)) (λ x l. start_in_frames c s t a o xs v n k x so fw ev (lk (dev_frame d k)) (above k i) (below k i) l))
    (λ b j. either P remove _ _ (λ l. tt) (λ l. (frames_less c s o v k (above k i) (below k i), refl)))))
  where
    d : ℕ
    d = op_device o

    P : Next → Type 0
    P = StepsTo c s a o xs (Phase.Frames v n) [] OnFrames

    Pk : Kind → Type 0
    Pk k = P (Do k)

    above : (k : ℕ) → held_from c s.places d v ≡ Some k → v ≤ k
    above k i = at_least (λ n. s.places.held (frame_of (PoolId.Device d) n)) v (pool_size c (PoolId.Device d) - v) k i

    below : (k : ℕ) → held_from c s.places d v ≡ Some k → k < slice_index c.devices d
    below k i = omega (arith, above k i, least_below (λ n. s.places.held (frame_of (PoolId.Device d) n)) v (pool_size c (PoolId.Device d) - v) k i)

pub frames_steps : (c : Program) (s : After) (t : Past) (a : ℕ) (o : Op) (xs : List Migrating) (v n : ℕ) → Sound c s t → Few c s → is_evicting o ≡ true → ((g : Frame) → s.locks.frame g ≡ None) → StepsTo c s a o xs (Phase.Frames v n) [] OnFrames (due_frames c s a o v n)
frames_steps c s t a (Op.Evict d) xs v n so fw ev lk = frames_of c s t a (Op.Evict d) xs false v n so fw refl refl lk
frames_steps c s t a (Op.Remove d) xs v n so fw ev lk = frames_of c s t a (Op.Remove d) xs true v n so fw refl refl lk
frames_steps c s t a o xs v n so fw ev lk = absurd (no_test ev)
