-- A page is taken for one actor alone, and given back: in a guard its place is turned, and its frame stays.
use Rattle.std.proofs.Common.{◌≡◌, ℕ, ◌%◌, inr, Bool, true, false, Option, Some, None, List, [], ◌∷◌, refl, sym, ap, ◌∙◌, subst, arith}
use Rattle.std.proofs.lemmas.Bool.Decides.{nat_tests}
use Rattle.hm_base.specs.Pages.{Pages, one_page, covers}
use Rattle.hm_base.specs.Program.{Program}
use Rattle.hm_base.specs.declared.Frame.{Frame}
use Rattle.hm_base.specs.declared.Place.{Place}
use Rattle.hm_base.specs.declared.ops.Op.{Op}
use Rattle.hm_history.specs.Memory.Words.{sys_frame, names, names_directly, moving_frame, writable, is_empty_place, same_place}
use Rattle.hm_history.specs.Memory.Sequences.{seq_ended, all_told}
use Rattle.hm_history.specs.Memory.Lookups.{is_guarded}
use Rattle.hm_history.specs.Memory.Contents.{shown_by}
use Rattle.hm_history.specs.Memory.After.{After}
use Rattle.hm_history.specs.Kernel.Operation.{op_who}
use Rattle.hm_history.specs.Kernel.Going.{touch_page}
use Rattle.hm_history.specs.Kernel.Stacks.{dropping}
use Rattle.hm_history.specs.Kernel.Due.{due_guard, body_or_end, restore_at}
use Rattle.hm_history.specs.declared.Kind.{Kind}
use Rattle.hm_history.specs.declared.phases.Migrating.{Migrating}
use Rattle.hm_history.specs.declared.phases.Touch.{Touch}
use Rattle.hm_history.specs.declared.phases.Body.{Body}
use Rattle.hm_history.specs.declared.phases.Phase.{Phase}
use Rattle.hm_history.specs.declared.phases.Next.TheVariants.{Do}
use Rattle.hm_laws.specs.Stood.{lock_on, stood, is_moving}
use Rattle.hm_laws.specs.Past.{Past, past_next}
use Rattle.hm_laws.specs.Sound.{Sound}
use Rattle.hm_laws.specs.Allowed.{next, shows, Reader, PlaceOk, Allowed}
use Rattle.hm_laws.specs.Facts.{Fact, Read_locked, In_guard, Over_page, Locks_only, Touching, Guarding, Holds, facts, HoldsAll}
use Rattle.hm_laws.proofs.Kept.Frames.{names_stays, moving_names, direct_names, untouched_unnamed}
use Rattle.hm_laws.proofs.Migration.Places.{stood_direct}
use Rattle.hm_laws.proofs.Other.Lookups.{touches_own}
use Rattle.hm_laws.proofs.Due.LeftFrames.{orphan_at, unfrozen, none_left}
use Rattle.hm_laws.proofs.Due.Good.{Good, either, same_place_says}
use Rattle.hm_laws.proofs.Due.Decide.{still_none, empty_locks}
use Rattle.hm_laws.proofs.Due.Spans.{goes_on}
use Rattle.hm_laws.proofs.Due.Guards.{is_covered, end_takes, guard_ok}
use Rattle.hm_history.proofs.Updates.{here_at}
use Rattle.hm_history.proofs.Tests.{some_none, true_false}

-- another place of the same frame, with the same right, under a guard of a reader who has no frame locked
pub turned_ok : (c : Program) (s : After) (t : Past) (a p v : ℕ) (f : Frame) (x : Place) → Sound c s t → s.locks.map a ≡ lock_on p false → Holds s t a (Locks_only []) → is_guarded s.sequences a p v ≡ true → names_directly (s.places.place p v) ≡ Some f → names_directly x ≡ Some f → writable (s.places.place p v) ≡ true → writable x ≡ true →
    ((d n : ℕ) (w : Bool) → s.places.place p v ≡ Place.Own d n w → ⊥) → PlaceOk s t a p v x
turned_ok c s t a p v f x so lock none guard old new w z at_home = record {
  who = Reader (lock, (so.areas.may_write p v w).0) (names_stays x f named.0) (λ o l. ap (λ y. shown y o) st) (λ k. z);
  ranged = λ k. so.places.ranged p v was;
  frames = record {
    names_held = λ i n. so.frames.names_held p v i (is ∙ n);
    stands_held = λ i n. so.frames.stands_held p v i (sym st ∙ n);
    one_page = λ q u i n m. so.frames.one_page p v q u i (is ∙ n) m;
    stood_page = λ q u i n m. so.frames.stood_page p v q u i (sym st ∙ n) m;
    alone = λ q u i k n m. so.frames.alone p v q u i w (sym st ∙ n) m;
    others = λ q u i k n m. so.frames.alone p v q u i w (sym st ∙ n) m;
    direct_fresh = λ i n. so.frames.direct_fresh p v i (old ∙ sym new ∙ n);
  };
  hand_over = record {
    fresh_names = λ i n. inr (p, v, is ∙ n, λ m. was_named.1);
    fresh_stands = λ i n. inr (p, v, sym st ∙ n, sym is);
    freezes = λ i n. absurd (true_false (is_moving x) (moving_names x i n).1 named.1);
    finishes = λ i n. absurd (true_false (is_moving (s.places.place p v)) (moving_names (s.places.place p v) i n).1 was_named.1);
    owned = λ d n y k. absurd (at_home d n y k);
    touched = λ k. absurd (some_none (names x) f named.0 (untouched_unnamed x k));
    settles = λ n y k m i. absurd (empty_locks (sys_frame n) (none (sys_frame n) i));
    stays_locked = λ i m n. absurd (true_false (is_moving x) m named.1);
  };
  process = record {
    in_area = λ th k. so.areas.in_area p v th was;
    may_write = λ k. so.areas.may_write p v w;
    contents = λ y k th e. ap (λ i. shown i (y % 4096)) st ∙ ap (λ j. shows s (s.places.place p j) (y % 4096)) (sym k) ∙ so.reads.reads p y th (ap (λ j. is_empty_place (s.places.place p j)) k ∙ was);
    empties = λ k. absurd (true_false (is_empty_place x) k (names_stays x f named.0));
  };
  mirrors = record {
    guarded = λ l. guard;
    lands = λ m l. absurd (true_false (is_moving (s.places.place p v)) m was_named.1);
  };
}
  where
    shown : Option Frame → ℕ → ℕ
    shown = shown_by s.contents

    named : (names x ≡ Some f) × (is_moving x ≡ false)
    named = direct_names x f new

    was_named : (names (s.places.place p v) ≡ Some f) × (is_moving (s.places.place p v) ≡ false)
    was_named = direct_names (s.places.place p v) f old

    was : is_empty_place (s.places.place p v) ≡ false
    was = names_stays (s.places.place p v) f was_named.0

    is : names (s.places.place p v) ≡ names x
    is = was_named.0 ∙ sym named.0

    st : stood s.places.committed_to x ≡ stood s.places.committed_to (s.places.place p v)
    st = stood_direct s.places.committed_to x f new ∙ sym (stood_direct s.places.committed_to (s.places.place p v) f old)

abbrev not_own : Place → Bool
not_own (Place.Own d n w) = false
not_own x = true

home : (x y : Place) → x ≡ y → not_own y ≡ true → (d n : ℕ) (w : Bool) → x ≡ Place.Own d n w → ⊥
home x y e h d n w k = true_false (not_own y) h (ap not_own (sym e ∙ k))

abbrev owner : Place → ℕ
owner (Place.Exclusive n b) = b
owner x = 0

covers_first : (v : ℕ) → covers (one_page v) (one_page v).first ≡ true
covers_first v = grind (arith, nat_tests)

-- a page in its guard, of the touch
abbrev pub turning : Op → Touch → ℕ → Pages → Bool → Option ℕ → List Fact
turning o touch q r met told = In_guard q r met told ∷ Locks_only [] ∷ Over_page q r (op_who o) (touch_page o touch) ∷ Touching o touch ∷ Read_locked (op_who o) ∷ []

-- the page is turned, and the guard has nothing more to do
turns : (c : Program) (s : After) (t : Past) (a : ℕ) (o : Op) (xs : List Migrating) (touch : Touch) (q : ℕ) (r : Pages) (met : Bool) (told : Option ℕ) (f : Frame) (x : Place) → Sound c s t → (h : HoldsAll s t a (turning o touch q r met told)) → all_told h.0.given ≡ true → names_directly (s.places.place q r.first) ≡ Some f → names_directly x ≡ Some f → writable (s.places.place q r.first) ≡ true → writable x ≡ true →
    ((d n : ℕ) (w : Bool) → s.places.place q r.first ≡ Place.Own d n w → ⊥) → moving_frame x ≡ None →
    Allowed c s t a (Kind.Place q r.first x) × HoldsAll (next s a (Kind.Place q r.first x)) t a (facts o xs (dropping (orphan_at s q r.first x) (Phase.Guard q r met told Body.Nothing ∷ Phase.Decide touch ∷ [])))
turns c s t a o xs touch q r met told f x so h al old new w z own still = (
  ok,
  goes_on s t a o xs (Kind.Place q r.first x) q r.first x (Phase.Guard q r met told Body.Nothing ∷ Phase.Decide touch ∷ []) left
      (h.0, (still_none s t a q r.first x (unfrozen s x still) left h.1.0, (h.1.1.0, (touches_own c s t a (Kind.Place q r.first x) so ok refl o touch h.1.1.1.0, (h.1.1.1.1.0, tt))))) (orphan_at s q r.first x) refl,
)
  where
    lock : s.locks.map a ≡ lock_on q false
    lock = h.1.1.1.1.0.1 ∙ ap (λ i. lock_on i false) (sym h.1.1.0.1)

    guard : is_guarded s.sequences a q r.first ≡ true
    guard = is_covered s a q r.first r met told h.0 al (subst (λ i. covers i i.first ≡ true) (sym h.1.1.0.2) (covers_first (touch_page o touch)))

    ok : Allowed c s t a (Kind.Place q r.first x)
    ok = turned_ok c s t a q r.first f x so lock h.1.0 guard old new w z own

    left : (i : Frame) → orphan_at s q r.first x ≡ Some i → ⊥
    left = none_left c s t a q r.first x so ok ((direct_names x f new).0 ∙ sym (direct_names (s.places.place q r.first) f old).0)

-- the guard ends
over_ok : (c : Program) (s : After) (t : Past) (a : ℕ) (o : Op) (xs : List Migrating) (touch : Touch) (q : ℕ) (r : Pages) (met : Bool) (told : Option ℕ) → Sound c s t → (h : HoldsAll s t a (turning o touch q r met told)) → all_told h.0.given ≡ true →
    Allowed c s t a (Kind.End q r (seq_ended s.sequences q)) × HoldsAll (next s a (Kind.End q r (seq_ended s.sequences q))) t a (facts o xs (Phase.Decide touch ∷ []))
over_ok c s t a o xs touch q r met told so h al = (ends, (touches_own c s t a (Kind.End q r (seq_ended s.sequences q)) so ends refl o touch h.1.1.1.0, (h.1.1.1.1.0, (here_at s.sequences.guard a None, (h.1.0, tt)))))
  where
    ends : Allowed c s t a (Kind.End q r (seq_ended s.sequences q))
    ends = end_takes s a q r met told h.0 al

told_still : (c : Program) (s : After) (t : Past) (a : ℕ) (o : Op) (touch : Touch) (q : ℕ) (r : Pages) (met : Bool) (told : Option ℕ) (m : ℕ) → Sound c s t → HoldsAll s t a (turning o touch q r met told) → (ok : Allowed c s t a (Kind.Told m r (s.sequences.seq q))) →
    Guarding (next s a (Kind.Told m r (s.sequences.seq q))).sequences.guard a q r met (Some m) → HoldsAll (next s a (Kind.Told m r (s.sequences.seq q))) (past_next t s.length a (Kind.Told m r (s.sequences.seq q))) a (turning o touch q r met (Some m))
told_still c s t a o touch q r met told m so h ok i = (i, (h.1.0, (h.1.1.0, (touches_own c s t a (Kind.Told m r (s.sequences.seq q)) so ok refl o touch h.1.1.1.0, (h.1.1.1.1.0, tt)))))

-- a page that somebody has alone is given back
pub restore_ok : (c : Program) (s : After) (t : Past) (a : ℕ) (o : Op) (xs : List Migrating) (touch : Touch) (q : ℕ) (r : Pages) (met : Bool) (told : Option ℕ) → Sound c s t → HoldsAll s t a (turning o touch q r met told) →
    Good c s t a o xs (Phase.Guard q r met told Body.Restore) (Phase.Decide touch ∷ []) (Do (due_guard s a o q r met told Body.Restore))
restore_ok c s t a o xs touch q r met told so h = guard_ok c s t a o xs q r met told Body.Restore (Phase.Decide touch ∷ []) so h.0 (λ m tk i. told_still c s t a o touch q r met told m so h tk i)
    (λ al. by al (s.places.place q r.first) refl)
  where
    P : Option Kind → Type 0
    P = λ y. Good c s t a o xs (Phase.Guard q r met told Body.Restore) (Phase.Decide touch ∷ []) (Do (body_or_end s q r y))

    ends : all_told h.0.given ≡ true → P None
    ends al = let e = over_ok c s t a o xs touch q r met told so h al in (e.0, tt, e.1)

    by : all_told h.0.given ≡ true → (x : Place) → s.places.place q r.first ≡ x → P (restore_at q r.first x)
    by al (Place.Exclusive n b) e = let z = turns c s t a o xs touch q r met told (sys_frame n) (Place.Sys n true) so h al (ap names_directly e) refl (ap writable e) refl (home (s.places.place q r.first) (Place.Exclusive n b) e refl) refl in (z.0, refl, z.1)
    by al Place.Empty e = ends al
    by al Place.Zero e = ends al
    by al (Place.Sys n w) e = ends al
    by al (Place.Own d n w) e = ends al
    by al (Place.Moving f w) e = ends al

-- a page is taken for the actor alone, where it is still as it was
pub seize_ok : (c : Program) (s : After) (t : Past) (a : ℕ) (o : Op) (xs : List Migrating) (touch : Touch) (f : Frame) (q : ℕ) (r : Pages) (met : Bool) (told : Option ℕ) → Sound c s t → HoldsAll s t a (turning o touch q r met told) →
    Good c s t a o xs (Phase.Guard q r met told (Body.Seize f)) (Phase.Decide touch ∷ []) (Do (due_guard s a o q r met told (Body.Seize f)))
seize_ok c s t a o xs touch f q r met told so h = guard_ok c s t a o xs q r met told (Body.Seize f) (Phase.Decide touch ∷ []) so h.0 (λ m tk i. told_still c s t a o touch q r met told m so h tk i)
    (λ al. either (λ y. P (body_or_end s q r y)) (same_place (s.places.place q r.first) (Place.Sys f.number true)) _ _
    (λ e. let is : s.places.place q r.first ≡ Place.Sys f.number true = same_place_says (s.places.place q r.first) (Place.Sys f.number true) refl e in
    let z = turns c s t a o xs touch q r met told (sys_frame f.number) (Place.Exclusive f.number a) so h al (ap names_directly is) refl (ap writable is) refl (home (s.places.place q r.first) (Place.Sys f.number true) is refl) refl in (z.0, (λ n b k. ap owner k), z.1))
    (λ e. let z = over_ok c s t a o xs touch q r met told so h al in (z.0, tt, z.1)))
  where
    P : Kind → Type 0
    P = λ i. Good c s t a o xs (Phase.Guard q r met told (Body.Seize f)) (Phase.Decide touch ∷ []) (Do i)
