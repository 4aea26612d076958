-- A taken frame: its copy, and the guard in which it comes into its place.
use Rattle.std.proofs.Common.{◌≡◌, ℕ, ◌<◌, ◌⊎◌, inl, inr, Bool, true, false, ◌||◌, if◌then◌else◌, not, Option, Some, None, List, [], ◌∷◌, refl, sym, ap, ◌∙◌, subst, arith}
use Rattle.std.specs.List.{list_any}
use Rattle.std.proofs.lemmas.Bool.Decides.{nat_tests}
use Rattle.std.proofs.lemmas.Bool.{not-true}
use Rattle.std.proofs.lemmas.Option.{same_Some}
use Rattle.hm_base.specs.Pages.{Pages, one_page, covers}
use Rattle.hm_base.specs.Program.{Program}
use Rattle.hm_base.specs.declared.PoolId.{PoolId}
use Rattle.hm_base.specs.declared.Frame.{Frame}
use Rattle.hm_base.specs.declared.Place.{Place}
use Rattle.hm_base.specs.declared.ops.Op.{Op}
use Rattle.hm_history.specs.Memory.Places.{is_exclusive}
use Rattle.hm_laws.specs.Facts.{of_system}
use Rattle.hm_laws.proofs.Due.LeftFrames.{unfrozen}
use Rattle.hm_history.specs.Memory.Words.{same_pool, same_frame, sys_frame, with_frame, names, moving_frame, writable, place_in, same_place}
use Rattle.hm_history.specs.Memory.Plain.{rights_of, is_read_write}
use Rattle.hm_history.specs.Memory.Locks.{frame_placed}
use Rattle.hm_history.specs.Memory.Sequences.{seq_started, all_told}
use Rattle.hm_history.specs.Memory.Lookups.{loses, is_guarded}
use Rattle.hm_history.specs.Memory.Contents.{shown_by}
use Rattle.hm_history.specs.Memory.After.{After}
use Rattle.hm_history.specs.declared.Kind.{Kind}
use Rattle.hm_laws.specs.Stood.{stood, is_moving}
use Rattle.hm_laws.specs.Past.{Past}
use Rattle.hm_laws.specs.Sound.{Sound}
use Rattle.hm_laws.specs.Allowed.{next, ReadsThere, OwnsFrame, PlaceOk, Allowed}
use Rattle.hm_laws.proofs.Other.Frames.{frame_else, frame_here}
use Rattle.hm_laws.specs.Facts.{Fact, Is, Read_locked, May_store, No_guard, In_guard, Over_page, Locks_only, Owns, Zeroed, Copy_of, Touching, ShownIn, Holds, is_zero_place, facts, HoldsAll}
use Rattle.hm_history.specs.Memory.Plain.{proc_of}
use Rattle.hm_history.specs.Kernel.Operation.{op_who}
use Rattle.hm_history.specs.Kernel.Going.{touch_page}
use Rattle.hm_history.specs.Memory.Sequences.{seq_ended}
use Rattle.hm_laws.proofs.Other.Lookups.{touches_own}
use Rattle.hm_history.specs.Memory.Sequences.{all_told}
use Rattle.hm_history.specs.Kernel.Stacks.{dropping}
use Rattle.hm_history.specs.Kernel.Due.{start_entry, due_taken, due_guard, body_or_end}
use Rattle.hm_history.specs.declared.phases.Migrating.{Migrating}
use Rattle.hm_history.specs.declared.phases.Touch.{Touch}
use Rattle.hm_history.specs.declared.phases.Body.{Body}
use Rattle.hm_history.specs.declared.phases.Phase.{Phase}
use Rattle.hm_history.specs.declared.phases.Next.{Next}
use Rattle.hm_history.specs.declared.phases.Next.TheVariants.{Do}
use Rattle.hm_laws.specs.Facts.{is_core}
use Rattle.hm_laws.proofs.Due.Good.{Good, either, either_option, some_write, same_place_says}
use Rattle.hm_laws.proofs.Due.LeftFrames.{orphan_at, gains_own, gives_up, left_owned, no_left}
use Rattle.hm_laws.proofs.Due.Places.{core_lands, own_ok}
use Rattle.hm_laws.proofs.Due.Guards.{started, start_takes, is_covered, end_takes, guard_ok}
use Rattle.hm_laws.proofs.Due.Decide.{ranged}
use Rattle.hm_history.proofs.Updates.{here_at}
use Rattle.hm_history.proofs.Tests.{some_none}
use Rattle.hm_history.proofs.Frames.{frame_tells}

-- what is known from the taking of a frame until it is placed
abbrev pub taking : Op → Touch → Frame → List Fact → List Fact
taking o touch g l = Touching o touch ∷ May_store (op_who o) (touch_page o touch) ∷ No_guard ∷ Locks_only (g ∷ []) ∷ l

-- the frame is dropped
pub dropped_locks : (s : After) (t : Past) (a : ℕ) (f : Frame) → Holds s t a (Locks_only (f ∷ [])) → Holds (next s a (Kind.Drop f)) t a (Locks_only [])
dropped_locks s t a f h g e = by (same_frame g f) (h g) e
  where
    by : (b : Bool) → (s.locks.frame g ≡ Some a → (b || false) ≡ true) → ◌≡◌ {A = Option ℕ} (if b then None else s.locks.frame g) (Some a) → list_any (same_frame g) [] ≡ true
    by true k e = cc
    by false k e = k e

untouched_over : (x over : Place) → x ≡ over → is_core over ≡ true → is_zero_place over ≡ false → names over ≡ None → (y : Place) → loses x y ≡ true → ⊥
untouched_over Place.Empty over e co z n y l = grind arith
untouched_over Place.Zero over e co z n y l = grind (arith, ap is_zero_place e)
untouched_over (Place.Sys m w) over e co z n y l = grind (arith, ap names e)
untouched_over (Place.Own d m w) over e co z n y l = grind (arith, ap names e)
untouched_over (Place.Moving f w) over e co z n y l = grind (arith, ap names e)
untouched_over (Place.Exclusive m b) over e co z n y l = grind (arith, ap names e)

core_stands : (to : Frame → Option Frame) (x : Place) → is_core x ≡ true → stood to x ≡ names x
core_stands to Place.Empty co = refl
core_stands to Place.Zero co = refl
core_stands to (Place.Sys n w) co = refl
core_stands to x co = cc

-- a system frame in its place
is_system : (x : PoolId) → same_pool x PoolId.System ≡ true → x ≡ PoolId.System
is_system PoolId.System h = refl
is_system (PoolId.Device d) h = cc

in_system : (g : Frame) → g.pool ≡ PoolId.System → place_in g true ≡ Place.Sys g.number true
in_system g h = grind arith

sys_is : (g : Frame) → g.pool ≡ PoolId.System → sys_frame g.number ≡ g
sys_is g h = grind arith

pub own_in : (c : Program) (s : After) (t : Past) (a p v : ℕ) (g : Frame) → Sound c s t → g.pool ≡ PoolId.System → ReadsThere s a p → is_read_write (rights_of s.plain p v) ≡ true → OwnsFrame s a g → ShownIn s g (s.places.place p v) → is_core (s.places.place p v) ≡ true →
    ((x : Place) → loses (s.places.place p v) x ≡ true → is_guarded s.sequences a p v ≡ true) → PlaceOk s t a p v (place_in g true) × (is_exclusive (place_in g true) ≡ false) × (moving_frame (place_in g true) ≡ None) × (is_moving (place_in g true) ≡ false)
own_in c s t a p v g so sys h r own e co gd = (subst (PlaceOk s t a p v) (sym is) (own_ok c s t a p v g.number so h (ranged c s t p v so (some_write (rights_of s.plain p v) r)) r (subst (OwnsFrame s a) (sym frame) own) (subst (λ f. ShownIn s f (s.places.place p v)) (sym frame) e) co (gd (Place.Sys g.number true))), ap is_exclusive is, ap moving_frame is, ap is_moving is)
  where
    pool : g.pool ≡ PoolId.System
    pool = sys

    is : place_in g true ≡ Place.Sys g.number true
    is = in_system g pool

    frame : sys_frame g.number ≡ g
    frame = sys_is g pool

-- it is then no longer locked
pub own_locks : (s : After) (t : Past) (a p v : ℕ) (g : Frame) → g.pool ≡ PoolId.System → s.locks.frame g ≡ Some a → is_moving (s.places.place p v) ≡ false → Holds s t a (Locks_only (g ∷ [])) →
    (f : Frame) → (next s a (Kind.Place p v (place_in g true))).locks.frame f ≡ Some a → orphan_at s p v (place_in g true) ≡ Some f
own_locks s t a p v g sys mine nm h f k = by (gains_own s a p v (place_in g true) (unfrozen s (place_in g true) (ap moving_frame (in_system g sys))) f k)
  where
    only : (f : Frame) → list_any (same_frame f) (g ∷ []) ≡ true → f ≡ g
    only f h = grind (arith, frame_tells f g)

    free : frame_placed s.locks (s.places.place p v) a (place_in g true) g ≡ None
    free = ap (λ y. frame_placed s.locks (s.places.place p v) a y g) (in_system g sys) ∙ subst (λ i. frame_placed s.locks (s.places.place p v) a (Place.Sys g.number true) i ≡ None) (sys_is g sys) (gives_up s.locks (s.places.place p v) a g.number true nm (ap s.locks.frame (sys_is g sys) ∙ mine))

    by : (orphan_at s p v (place_in g true) ≡ Some f) ⊎ ((s.locks.frame f ≡ Some a) × (frame_placed s.locks (s.places.place p v) a (place_in g true) f ≡ Some a)) → orphan_at s p v (place_in g true) ≡ Some f
    by (inl e) = e
    by (inr e) = absurd (some_none (frame_placed s.locks (s.places.place p v) a (place_in g true) g) a (ap (frame_placed s.locks (s.places.place p v) a (place_in g true)) (sym (only f (h f e.0))) ∙ e.1) free)

pub taken_ok : (c : Program) (s : After) (t : Past) (a : ℕ) (o : Op) (xs : List Migrating) (touch : Touch) (g : Frame) (over : Place) → Sound c s t → is_zero_place over ≡ false →
    HoldsAll s t a (taking o touch g (Zeroed g ∷ Is (is_core over) ∷ Is (not (writable over)) ∷ Is (of_system g) ∷ [])) → Good c s t a o xs (Phase.Taken touch g over) [] (due_taken s g over (proc_of s.plain (op_who o)) (touch_page o touch))
taken_ok c s t a o xs touch g over so nz h = either P (same_place y over) _ _
    (λ e. either_option P (names over) _ _
    (λ n. ((placed e n).0, (placed e n).1, (touches_own c s t a (Kind.Place (proc_of s.plain (op_who o)) (touch_page o touch) (place_in g true)) so (placed e n).0 refl o touch h.0, ((h.1.0.0, h.1.0.1.0), (h.1.1.0, (place_locks e n, tt))))))
    (λ f n. (own.0, (proc_of s.plain (op_who o), touch_page o touch, ap names (is_over e) ∙ n), (touches_own c s t a (Kind.Copied f g None) so own.0 refl o touch h.0, (h.1.0, (h.1.1.0, (h.1.1.1.0, ((h.1.0.0, h.1.0.1, copy_own f, λ r i l. copies f (ap names (is_over e) ∙ n) e i), h.1.1.1.1.1))))))))
    (λ e. (own.0, tt, (touches_own c s t a (Kind.Drop g) so own.0 refl o touch h.0, ((h.1.0.0, h.1.0.1.0), (h.1.1.0, (dropped_locks s t a g h.1.1.1.0, tt))))))
  where
    sys : g.pool ≡ PoolId.System
    sys = is_system g.pool h.1.1.1.1.1.1.1.0

    y : Place
    y = s.places.place (proc_of s.plain (op_who o)) (touch_page o touch)

    P : Next → Type 0
    P = Good c s t a o xs (Phase.Taken touch g over) []

    own : OwnsFrame s a g
    own = h.1.1.1.1.0.0

    is_over : same_place (s.places.place (proc_of s.plain (op_who o)) (touch_page o touch)) over ≡ true → s.places.place (proc_of s.plain (op_who o)) (touch_page o touch) ≡ over
    is_over e = same_place_says (s.places.place (proc_of s.plain (op_who o)) (touch_page o touch)) over h.1.1.1.1.1.0 e

    lands : same_place (s.places.place (proc_of s.plain (op_who o)) (touch_page o touch)) over ≡ true → is_core (s.places.place (proc_of s.plain (op_who o)) (touch_page o touch)) ≡ true
    lands e = ap is_core (is_over e) ∙ h.1.1.1.1.1.0

    shown_zero : same_place (s.places.place (proc_of s.plain (op_who o)) (touch_page o touch)) over ≡ true → names over ≡ None → ShownIn s g (s.places.place (proc_of s.plain (op_who o)) (touch_page o touch))
    shown_zero e n i l = ap (λ (f : ℕ → ℕ). f i) h.1.1.1.1.0.1 ∙ sym (ap (λ j. shown_by s.contents j i) (ap (stood s.places.committed_to) (is_over e) ∙ core_stands s.places.committed_to over h.1.1.1.1.1.0 ∙ n))

    placed : same_place (s.places.place (proc_of s.plain (op_who o)) (touch_page o touch)) over ≡ true → names over ≡ None →
        PlaceOk s t a (proc_of s.plain (op_who o)) (touch_page o touch) (place_in g true) × (is_exclusive (place_in g true) ≡ false) × (moving_frame (place_in g true) ≡ None) × (is_moving (place_in g true) ≡ false)
    placed e n = own_in c s t a (proc_of s.plain (op_who o)) (touch_page o touch) g so sys h.1.0.1 h.1.0.2 own (shown_zero e n) (lands e) (λ x l. absurd (untouched_over (s.places.place (proc_of s.plain (op_who o)) (touch_page o touch)) over (is_over e) h.1.1.1.1.1.0 nz n x l))

    place_locks : same_place (s.places.place (proc_of s.plain (op_who o)) (touch_page o touch)) over ≡ true → names over ≡ None → Holds (next s a (Kind.Place (proc_of s.plain (op_who o)) (touch_page o touch) (place_in g true))) t a (Locks_only [])
    place_locks e n f l = absurd (no_left s (proc_of s.plain (op_who o)) (touch_page o touch) (place_in g true) f (ap names (is_over e) ∙ n) (own_locks s t a (proc_of s.plain (op_who o)) (touch_page o touch) g sys own.0.mine (core_lands (s.places.place (proc_of s.plain (op_who o)) (touch_page o touch)) (lands e)) h.1.1.1.0 f l))

    copy_own : (f : Frame) → OwnsFrame (next s a (Kind.Copied f g None)) a g
    copy_own f = (record { mine = own.0.mine; unnamed = own.0.unnamed; unstood = own.0.unstood }, own.1)

    copies : (f : Frame) → names (s.places.place (proc_of s.plain (op_who o)) (touch_page o touch)) ≡ Some f → same_place (s.places.place (proc_of s.plain (op_who o)) (touch_page o touch)) over ≡ true → (i : ℕ) → with_frame s.contents g (s.contents f) g i ≡ shown_by (with_frame s.contents g (s.contents f)) (stood s.places.committed_to (s.places.place (proc_of s.plain (op_who o)) (touch_page o touch))) i
    copies f n e i = ap (λ (j : ℕ → ℕ). j i) (frame_here s.contents g (s.contents f)) ∙ sym (ap (λ j. shown_by (with_frame s.contents g (s.contents f)) j i) (ap (stood s.places.committed_to) (is_over e) ∙ core_stands s.places.committed_to over h.1.1.1.1.1.0 ∙ sym (ap names (is_over e)) ∙ n) ∙ ap (λ (j : ℕ → ℕ). j i) (frame_else s.contents g f (s.contents f) (λ d. own.0.unnamed (proc_of s.plain (op_who o)) (touch_page o touch) (n ∙ ap Some d))))

pub armed_ok : (c : Program) (s : After) (t : Past) (a : ℕ) (o : Op) (xs : List Migrating) (touch : Touch) (g : Frame) (over : Place) → a < 16 → Sound c s t → HoldsAll s t a (taking o touch g (Copy_of g (op_who o) (touch_page o touch) ∷ Is (is_core over) ∷ Is (not (writable over)) ∷ Is (of_system g) ∷ [])) →
    Good c s t a o xs (Phase.Armed touch g over) [] (Do (start_entry s (proc_of s.plain (op_who o)) (one_page (touch_page o touch))))
armed_ok c s t a o xs touch g over few so h = (starts, tt, (started s a p (one_page v) (seq_started s.sequences p (one_page v)), (h.1.1.1.0, ((h.1.0.0, refl, refl), (touches_own c s t a (start_entry s p (one_page v)) so starts refl o touch h.0, (h.1.0, h.1.1.1.1))))))
  where
    p : ℕ
    p = proc_of s.plain (op_who o)

    v : ℕ
    v = touch_page o touch

    starts : Allowed c s t a (start_entry s (proc_of s.plain (op_who o)) (one_page (touch_page o touch)))
    starts = (few, start_takes s a (proc_of s.plain (op_who o)) (one_page (touch_page o touch)) h.1.1.0)

pub covers_one : (v : ℕ) → covers (one_page v) v ≡ true
covers_one v = grind (arith, nat_tests)

abbrev pub replacing : Op → Touch → Frame → Place → ℕ → Pages → Bool → Option ℕ → List Fact
replacing o touch g over q r met told =
    In_guard q r met told ∷ Locks_only (g ∷ []) ∷ Over_page q r (op_who o) (touch_page o touch) ∷ Touching o touch ∷ May_store (op_who o) (touch_page o touch) ∷ Copy_of g (op_who o) (touch_page o touch) ∷ Is (is_core over) ∷ Is (not (writable over)) ∷ Is (of_system g) ∷ []

abbrev on_page : Op → Touch → ℕ → Pages → List Fact
on_page o touch q r = Over_page q r (op_who o) (touch_page o touch) ∷ Touching o touch ∷ Read_locked (op_who o) ∷ []

-- what the page named before is dropped, where it was left behind
orphan_facts : (c : Program) (s : After) (t : Past) (a : ℕ) (o : Op) (xs : List Migrating) (p v : ℕ) (x : Place) (q : ℕ) (r : Pages) (met : Bool) (told : Option ℕ) (touch : Touch) → Sound c s t → Allowed c s t a (Kind.Place p v x) → is_moving x ≡ false → HoldsAll (next s a (Kind.Place p v x)) t a (on_page o touch q r) → Holds s t a (In_guard q r met told) →
    ((f : Frame) → (next s a (Kind.Place p v x)).locks.frame f ≡ Some a → orphan_at s p v x ≡ Some f) → (y : Option Frame) → orphan_at s p v x ≡ y →
    HoldsAll (next s a (Kind.Place p v x)) t a (facts o xs (dropping y (Phase.Guard q r met told Body.Nothing ∷ Phase.Decide touch ∷ [])))
orphan_facts c s t a o xs p v x q r met told touch so ok nm h g l None e = (g, ((λ f j. absurd (some_none (orphan_at s p v x) f (l f j) e)), h))
orphan_facts c s t a o xs p v x q r met told touch so ok nm h g l (Some f) e = (left_owned c s t a p v x so ok nm f e, (g, ((λ i j. only i (same_Some f i (sym e ∙ l i j))), h)))
  where
    only : (g : Frame) → f ≡ g → list_any (same_frame g) (f ∷ []) ≡ true
    only g h = grind (arith, frame_tells g f)

pub replace_ok : (c : Program) (s : After) (t : Past) (a : ℕ) (o : Op) (xs : List Migrating) (touch : Touch) (g : Frame) (over : Place) (met : Bool) (told : Option ℕ) → Sound c s t → HoldsAll s t a (replacing o touch g over (proc_of s.plain (op_who o)) (one_page (touch_page o touch)) met told) →
    Good c s t a o xs (Phase.Guard (proc_of s.plain (op_who o)) (one_page (touch_page o touch)) met told (Body.Replace over g)) (Phase.Decide touch ∷ []) (Do (due_guard s a o (proc_of s.plain (op_who o)) (one_page (touch_page o touch)) met told (Body.Replace over g)))
replace_ok c s t a o xs touch g over met told so h = guard_ok c s t a o xs (proc_of s.plain (op_who o)) (one_page (touch_page o touch)) met told (Body.Replace over g) (Phase.Decide touch ∷ []) so h.0 (λ m tk i. (i, (h.1.0, (h.1.1.0, (touches_own c s t a (Kind.Told m (one_page (touch_page o touch)) (s.sequences.seq (proc_of s.plain (op_who o)))) so tk refl o touch h.1.1.1.0, h.1.1.1.1)))))
    (λ al. either (λ y. P (body_or_end s (proc_of s.plain (op_who o)) (one_page (touch_page o touch)) y)) (same_place y over) _ _
    (λ e. (
      (placed al e).0,
      (placed al e).1,
      orphan_facts c s t a o xs (proc_of s.plain (op_who o)) (touch_page o touch) (place_in g true) (proc_of s.plain (op_who o)) (one_page (touch_page o touch)) met told touch so (placed al e).0 (placed al e).3 (h.1.1.0, (touches_own c s t a (Kind.Place (proc_of s.plain (op_who o)) (touch_page o touch) (place_in g true)) so (placed al e).0 refl o touch h.1.1.1.0, ((h.1.1.1.1.0.0, h.1.1.1.1.0.1.0), tt))) h.0
          (own_locks s t a (proc_of s.plain (op_who o)) (touch_page o touch) g sys own.0.mine (core_lands (s.places.place (proc_of s.plain (op_who o)) (touch_page o touch)) (lands e)) h.1.0) (orphan_at s (proc_of s.plain (op_who o)) (touch_page o touch) (place_in g true)) refl,
    ))
    (λ e. let ends : Allowed c s t a (Kind.End (proc_of s.plain (op_who o)) (one_page (touch_page o touch)) (seq_ended s.sequences (proc_of s.plain (op_who o)))) = end_takes s a (proc_of s.plain (op_who o)) (one_page (touch_page o touch)) met told h.0 al in
    (ends, tt, (own, (here_at s.sequences.guard a None, (h.1.0, (touches_own c s t a (Kind.End (proc_of s.plain (op_who o)) (one_page (touch_page o touch)) (seq_ended s.sequences (proc_of s.plain (op_who o)))) so ends refl o touch h.1.1.1.0, ((h.1.1.1.1.0.0, h.1.1.1.1.0.1.0), tt))))))))
  where
    sys : g.pool ≡ PoolId.System
    sys = is_system g.pool h.1.1.1.1.1.1.1.1.0

    y : Place
    y = s.places.place (proc_of s.plain (op_who o)) (touch_page o touch)

    P : Kind → Type 0
    P = λ i. Good c s t a o xs (Phase.Guard (proc_of s.plain (op_who o)) (one_page (touch_page o touch)) met told (Body.Replace over g)) (Phase.Decide touch ∷ []) (Do i)

    own : OwnsFrame s a g
    own = h.1.1.1.1.1.0.2

    is_over : same_place (s.places.place (proc_of s.plain (op_who o)) (touch_page o touch)) over ≡ true → s.places.place (proc_of s.plain (op_who o)) (touch_page o touch) ≡ over
    is_over e = same_place_says (s.places.place (proc_of s.plain (op_who o)) (touch_page o touch)) over h.1.1.1.1.1.1.0 e

    lands : same_place (s.places.place (proc_of s.plain (op_who o)) (touch_page o touch)) over ≡ true → is_core (s.places.place (proc_of s.plain (op_who o)) (touch_page o touch)) ≡ true
    lands e = ap is_core (is_over e) ∙ h.1.1.1.1.1.1.0

    placed : all_told h.0.given ≡ true → same_place (s.places.place (proc_of s.plain (op_who o)) (touch_page o touch)) over ≡ true →
        PlaceOk s t a (proc_of s.plain (op_who o)) (touch_page o touch) (place_in g true) × (is_exclusive (place_in g true) ≡ false) × (moving_frame (place_in g true) ≡ None) × (is_moving (place_in g true) ≡ false)
    placed al e = own_in c s t a (proc_of s.plain (op_who o)) (touch_page o touch) g so sys h.1.1.1.1.0.1 h.1.1.1.1.0.2 own (h.1.1.1.1.1.0.3 (ap writable (is_over e) ∙ not-true (writable over) h.1.1.1.1.1.1.1.0)) (lands e)
        (λ x l. is_covered s a (proc_of s.plain (op_who o)) (touch_page o touch) (one_page (touch_page o touch)) met told h.0 al (covers_one (touch_page o touch)))

pub replace_at : (c : Program) (s : After) (t : Past) (a : ℕ) (o : Op) (xs : List Migrating) (touch : Touch) (g : Frame) (over : Place) (met : Bool) (told : Option ℕ) (q : ℕ) (r : Pages) → Sound c s t → HoldsAll s t a (replacing o touch g over q r met told) →
    Good c s t a o xs (Phase.Guard q r met told (Body.Replace over g)) (Phase.Decide touch ∷ []) (Do (due_guard s a o q r met told (Body.Replace over g)))
replace_at c s t a o xs touch g over met told q r so h =
    subst (λ z. HoldsAll s t a (replacing o touch g over z r met told) → Good c s t a o xs (Phase.Guard z r met told (Body.Replace over g)) (Phase.Decide touch ∷ []) (Do (due_guard s a o z r met told (Body.Replace over g)))) (sym h.1.1.0.1)
    (subst (λ z. HoldsAll s t a (replacing o touch g over (proc_of s.plain (op_who o)) z met told) → Good c s t a o xs (Phase.Guard (proc_of s.plain (op_who o)) z met told (Body.Replace over g)) (Phase.Decide touch ∷ []) (Do (due_guard s a o (proc_of s.plain (op_who o)) z met told (Body.Replace over g)))) (sym h.1.1.0.2)
    (λ j. replace_ok c s t a o xs touch g over met told so j)) h

pub nothing_at : (c : Program) (s : After) (t : Past) (a : ℕ) (o : Op) (xs : List Migrating) (touch : Touch) (q : ℕ) (r : Pages) (met : Bool) (told : Option ℕ) → Sound c s t → HoldsAll s t a (In_guard q r met told ∷ Locks_only [] ∷ on_page o touch q r) →
    Good c s t a o xs (Phase.Guard q r met told Body.Nothing) (Phase.Decide touch ∷ []) (Do (due_guard s a o q r met told Body.Nothing))
nothing_at c s t a o xs touch q r met told so h = guard_ok c s t a o xs q r met told Body.Nothing (Phase.Decide touch ∷ []) so h.0 (λ m tk i. (i, (h.1.0, (h.1.1.0, (touches_own c s t a (Kind.Told m r (s.sequences.seq q)) so tk refl o touch h.1.1.1.0, h.1.1.1.1)))))
    (λ al. let ends : Allowed c s t a (Kind.End q r (seq_ended s.sequences q)) = end_takes s a q r met told h.0 al in
    (ends, tt, (touches_own c s t a (Kind.End q r (seq_ended s.sequences q)) so ends refl o touch h.1.1.1.0, (h.1.1.1.1.0, (here_at s.sequences.guard a None, (h.1.0, tt))))))

pub drop_in_guard : (c : Program) (s : After) (t : Past) (a : ℕ) (o : Op) (xs : List Migrating) (f : Frame) (q : ℕ) (r : Pages) (met : Bool) (told : Option ℕ) (touch : Touch) → Sound c s t → HoldsAll s t a (Owns f ∷ In_guard q r met told ∷ Locks_only (f ∷ []) ∷ on_page o touch q r) →
    Good c s t a o xs (Phase.Drop f) (Phase.Guard q r met told Body.Nothing ∷ Phase.Decide touch ∷ []) (Do (Kind.Drop f))
drop_in_guard c s t a o xs f q r met told touch so h = (h.0.0, tt, (h.1.0, (dropped_locks s t a f h.1.1.0, (h.1.1.1.0, (touches_own c s t a (Kind.Drop f) so h.0.0 refl o touch h.1.1.1.1.0, h.1.1.1.1.1)))))

pub drop_ok : (c : Program) (s : After) (t : Past) (a : ℕ) (o : Op) (xs : List Migrating) (f : Frame) (touch : Touch) → Sound c s t → HoldsAll s t a (Owns f ∷ No_guard ∷ Locks_only (f ∷ []) ∷ Touching o touch ∷ Read_locked (op_who o) ∷ []) → Good c s t a o xs (Phase.Drop f) (Phase.Decide touch ∷ []) (Do (Kind.Drop f))
drop_ok c s t a o xs f touch so h = (h.0.0, tt, (touches_own c s t a (Kind.Drop f) so h.0.0 refl o touch h.1.1.1.0, (h.1.1.1.1.0, (h.1.0, (dropped_locks s t a f h.1.1.0, tt)))))
