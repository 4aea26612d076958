-- Pages are frozen, each in a guard.
use Rattle.std.proofs.Common.{◌≡◌, ℕ, ◌⊎◌, inl, inr, Bool, true, false, ◌&&◌, nat_lt, if◌then◌else◌, is_some, is_none, Option, Some, None, List, [], ◌∷◌, refl, sym, ap, ◌∙◌, subst, arith}
use Rattle.std.specs.List.{list_any}
use Rattle.std.proofs.lemmas.Bool.Decides.{nat_tests}
use Rattle.std.proofs.lemmas.Bool.{and_parts}
use Rattle.std.proofs.lemmas.Option.{same_Some}
use Rattle.hm_base.specs.Pages.{Pages, covers}
use Rattle.hm_base.specs.Program.{Program}
use Rattle.hm_base.specs.declared.Frame.{Frame}
use Rattle.hm_base.specs.declared.Place.{Place}
use Rattle.hm_base.specs.declared.ops.Op.{Op}
use Rattle.hm_history.specs.Memory.Words.{same_frame, is_frame, names, names_directly, writable}
use Rattle.hm_history.specs.Memory.Places.{with_place}
use Rattle.hm_history.specs.Memory.Sequences.{seq_ended, all_told}
use Rattle.hm_history.specs.Memory.Lookups.{is_guarded}
use Rattle.hm_history.specs.Memory.After.{After}
use Rattle.hm_history.specs.Kernel.Operation.{is_evicting}
use Rattle.hm_history.specs.Kernel.Stacks.{frames_past}
use Rattle.hm_history.specs.Kernel.Due.{due_guard, body_or_end}
use Rattle.hm_history.specs.declared.KeptAt.{KeptAt}
use Rattle.hm_history.specs.declared.Kind.{Kind}
use Rattle.hm_history.specs.declared.phases.Migrating.{Migrating}
use Rattle.hm_history.specs.declared.phases.Body.{Body}
use Rattle.hm_history.specs.declared.phases.Phase.{Phase}
use Rattle.hm_history.specs.declared.phases.Next.TheVariants.{Do}
use Rattle.hm_laws.specs.Stood.{stood}
use Rattle.hm_laws.specs.Past.{Past}
use Rattle.hm_laws.specs.Sound.{Sound}
use Rattle.hm_laws.specs.Allowed.{next, IsSource, Allowed}
use Rattle.hm_laws.specs.Facts.{Clear, catches, Is, In_guard, Locks_only, Sourced, Holds, under, facts, HoldsAll}
use Rattle.hm_laws.proofs.Kept.PlaceLocks.{LockMove, Stays, Settles, Freezes, Leaves}
use Rattle.hm_laws.proofs.Kept.Areas.{placed_cases}
use Rattle.hm_laws.proofs.Kept.Frames.{direct_names}
use Rattle.hm_laws.proofs.Other.Frames.{move_of}
use Rattle.hm_laws.proofs.Due.LeftFrames.{orphan_at, unlocked_stands, none_left}
use Rattle.hm_laws.proofs.Due.Good.{Good, either}
use Rattle.hm_laws.proofs.Due.Guards.{is_covered, end_takes, guard_ok}
use Rattle.hm_laws.proofs.Due.Spans.{goes_on}
use Rattle.hm_laws.proofs.Due.Decide.{empty_locks}
use Rattle.hm_laws.proofs.Migration.Places.{freeze_ok}
use Rattle.hm_laws.proofs.Own.WhileEmptying.{under_on, resting, under_past}
use Rattle.hm_laws.proofs.Own.Places.{locked_still, locks_after}
use Rattle.hm_history.proofs.Updates.{here_at}
use Rattle.hm_history.proofs.Tests.{true_false}
use Rattle.hm_history.proofs.Frames.{frame_tells, is_frame_from, frame_same}

only_it : (i f : Frame) → i ≡ f → list_any (same_frame i) (f ∷ []) ≡ true
only_it i f e = grind (arith, frame_tells i f)

pub first_covered : (r : Pages) → nat_lt 0 r.count ≡ true → covers r r.first ≡ true
first_covered r h = grind (arith, nat_tests)

free_is : (x : Option ℕ) → is_none x ≡ true → x ≡ None
free_is None h = refl
free_is (Some a) h = cc

-- the frame of a page that was just frozen
lock_frozen : (c : Program) (s : After) (t : Past) (a p v : ℕ) (f : Frame) (w : Bool) → Sound c s t → Allowed c s t a (Kind.Place p v (Place.Moving f w)) → (s.locks.frame f ≡ None) ⊎ (s.locks.frame f ≡ Some a) → (next s a (Kind.Place p v (Place.Moving f w))).locks.frame f ≡ Some a
lock_frozen c s t a p v f w so ok (inr h) = locked_still c s t a p v (Place.Moving f w) so ok (inl refl) f a h
lock_frozen c s t a p v f w so ok (inl h) = by ((next s a (Kind.Place p v (Place.Moving f w))).locks.frame f) (move_of c s t a p v (Place.Moving f w) so ok f)
  where
    by : (l : Option ℕ) → LockMove s.places.place s.locks.frame a p v (Place.Moving f w) f l → l ≡ Some a
    by l (Stays i u z) = absurd (true_false (is_some (s.locks.frame f)) (z refl) (ap is_some h))
    by l (Settles n y i j o m k) = cc
    by l (Freezes i m k) = k
    by l (Leaves i m u k) = k

source_frozen : (c : Program) (s : After) (t : Past) (a p v : ℕ) (f : Frame) (w : Bool) → Sound c s t → Allowed c s t a (Kind.Place p v (Place.Moving f w)) → (s.locks.frame f ≡ None) ⊎ (s.locks.frame f ≡ Some a) → s.places.committed_to f ≡ None → ((q u : ℕ) → stood s.places.committed_to (s.places.place q u) ≡ Some f → names (s.places.place q u) ≡ Some f) →
    IsSource (next s a (Kind.Place p v (Place.Moving f w))) a f
source_frozen c s t a p v f w so ok lock fresh stood_by = record {
  mine = lock_frozen c s t a p v f w so ok lock;
  fresh = fresh;
  stood_by = λ q u n. at q u n (placed_cases s.places.place p v (Place.Moving f w) q u);
}
  where
    at : (q u : ℕ) → stood s.places.committed_to (with_place s.places.place p v (Place.Moving f w) q u) ≡ Some f → ((q ≡ p) × (u ≡ v) × (with_place s.places.place p v (Place.Moving f w) q u ≡ Place.Moving f w)) ⊎ (with_place s.places.place p v (Place.Moving f w) q u ≡ s.places.place q u) → names (with_place s.places.place p v (Place.Moving f w) q u) ≡ Some f
    at q u n (inl e) = ap names e.2
    at q u n (inr e) = ap names e ∙ stood_by q u (sym (ap (stood s.places.committed_to) e) ∙ n)

-- the page that is frozen, its lock and what is known then
pub record Froze (c : Program) (s : After) (t : Past) (a p v : ℕ) (f : Frame) (l : List Frame) : Type 0 where
  pub ok : Allowed c s t a (Kind.Place p v (Place.Moving f (writable (s.places.place p v))))
  pub source : IsSource (next s a (Kind.Place p v (Place.Moving f (writable (s.places.place p v))))) a f
  pub stays : (i : Frame) → orphan_at s p v (Place.Moving f (writable (s.places.place p v))) ≡ Some i → ⊥
  pub locks : (i : Frame) → (next s a (Kind.Place p v (Place.Moving f (writable (s.places.place p v))))).locks.frame i ≡ Some a → list_any (same_frame i) l ≡ true

pub froze : (c : Program) (s : After) (t : Past) (a p v : ℕ) (f : Frame) (l : List Frame) → Sound c s t → names_directly (s.places.place p v) ≡ Some f → (s.locks.frame f ≡ None) ⊎ (s.locks.frame f ≡ Some a) → is_guarded s.sequences a p v ≡ true →
    ((q u : ℕ) → stood s.places.committed_to (s.places.place q u) ≡ Some f → names (s.places.place q u) ≡ Some f) → ((i : Frame) → s.locks.frame i ≡ Some a → list_any (same_frame i) l ≡ true) → list_any (same_frame f) l ≡ true → Froze c s t a p v f l
froze c s t a p v f l so direct lock guard stood_by only listed = record {
  ok = ok;
  source = source_frozen c s t a p v f (writable (s.places.place p v)) so ok lock (so.frames.direct_fresh p v f direct) stood_by;
  stays = none_left c s t a p v (Place.Moving f (writable (s.places.place p v))) so ok (sym named);
  locks = λ i h. at i (locks_after c s t a p v (Place.Moving f (writable (s.places.place p v))) so ok (λ j n. inr (sym named ∙ n)) i h);
}
  where
    ok : Allowed c s t a (Kind.Place p v (Place.Moving f (writable (s.places.place p v))))
    ok = freeze_ok c s t a p v f so direct lock guard

    named : names (s.places.place p v) ≡ Some f
    named = (direct_names (s.places.place p v) f direct).0

    at : (i : Frame) → (s.locks.frame i ≡ Some a) ⊎ ((Some f ≡ Some i) × (s.locks.frame i ≡ None)) → list_any (same_frame i) l ≡ true
    at i (inl k) = only i k
    at i (inr k) = subst (λ j. list_any (same_frame j) l ≡ true) (same_Some f i k.0) listed

frozen_clear : (c : Program) (s : After) (t : Past) (a p v : ℕ) (f : Frame) → Sound c s t → Allowed c s t a (Kind.Place p v (Place.Moving f (writable (s.places.place p v)))) → (i : Frame) → Clear s a i → Clear (next s a (Kind.Place p v (Place.Moving f (writable (s.places.place p v))))) a i
frozen_clear c s t a p v f so ok i (inl h) = inl h
frozen_clear c s t a p v f so ok i (inr h) = inr (locked_still c s t a p v (Place.Moving f (writable (s.places.place p v))) so ok (inl refl) i a h)

pub catch_ok : (c : Program) (s : After) (t : Past) (a : ℕ) (o : Op) (xs : List Migrating) (q : ℕ) (r : Pages) (met : Bool) (told : Option ℕ) (f : Frame) (below : List Phase) → Sound c s t → HoldsAll s t a (In_guard q r met told ∷ Locks_only [] ∷ Is (nat_lt 0 r.count) ∷ Is (catches o f below) ∷ under o below) →
    Good c s t a o xs (Phase.Guard q r met told (Body.Catch f)) below (Do (due_guard s a o q r met told (Body.Catch f)))
catch_ok c s t a o xs q r met told f below so h = guard_ok c s t a o xs q r met told (Body.Catch f) below so h.0 (λ m tk i. (i, (h.1.0, (h.1.1.0, (h.1.1.1.0, under_on c s t a (Kind.Told m r (s.sequences.seq q)) so tk (record { clear = λ f h n. h; no_begin = refl; map = refl; there = λ p. refl; areas = λ p. refl }) o below (λ d j v n e i. cc) h.1.1.1.1)))))
    (λ al. either (λ y. P (body_or_end s q r y)) (is_frame (names_directly x) f && is_none (s.locks.frame f)) _ _ (λ e. placed al (and_parts (is_frame (names_directly x) f) (is_none (s.locks.frame f)) e)) (λ e. ends (end_takes s a q r met told h.0 al)))
  where
    x : Place
    x = s.places.place q r.first

    P : Kind → Type 0
    P = λ k. Good c s t a o xs (Phase.Guard q r met told (Body.Catch f)) below (Do k)

    ends : Allowed c s t a (Kind.End q r (seq_ended s.sequences q)) → P (Kind.End q r (seq_ended s.sequences q))
    ends ok = (ok, tt, resting (next s a (Kind.End q r (seq_ended s.sequences q))) t a o xs below (under_on c s t a (Kind.End q r (seq_ended s.sequences q)) so ok (record { clear = λ f h n. h; no_begin = refl; map = refl; there = λ p. refl; areas = λ p. refl }) o below (λ d j v n e i. cc) h.1.1.1.1) (here_at s.sequences.guard a None) h.1.0)

    placed : all_told h.0.given ≡ true → (is_frame (names_directly (s.places.place q r.first)) f ≡ true) × (is_none (s.locks.frame f) ≡ true) → P (Kind.Place q r.first (Place.Moving f (writable (s.places.place q r.first))))
    placed al e = (z.ok, refl, goes_on s t a o xs k q r.first (Place.Moving f (writable (s.places.place q r.first))) _ z.stays (by (is_evicting o)) (orphan_at s q r.first (Place.Moving f (writable (s.places.place q r.first)))) refl)
      where
        free : s.locks.frame f ≡ None
        free = free_is (s.locks.frame f) e.1

        k : Kind
        k = Kind.Place q r.first (Place.Moving f (writable (s.places.place q r.first)))

        z : Froze c s t a q r.first f (f ∷ [])
        z = froze c s t a q r.first f (f ∷ []) so (is_frame_from (names_directly (s.places.place q r.first)) f e.0) (inl free) (is_covered s a q r.first r met told h.0 al (first_covered r h.1.1.0))
            (λ i u n. unlocked_stands c s t so f free (s.places.place i u) (so.frames.stands_locked i u f) n) (λ i l. absurd (empty_locks i (h.1.0 i l))) (only_it f f refl)

        rest : HoldsAll (next s a (Kind.Place q r.first (Place.Moving f (writable (s.places.place q r.first))))) t a (under o below)
        rest = under_on c s t a (Kind.Place q r.first (Place.Moving f (writable (s.places.place q r.first)))) so z.ok (record { clear = λ i y n. frozen_clear c s t a q r.first f so z.ok i y; no_begin = refl; map = refl; there = λ p. refl; areas = λ p. refl }) o below (λ d j v n e i. cc) h.1.1.1.1

        by : (b : Bool) → HoldsAll (next s a (Kind.Place q r.first (Place.Moving f (writable (s.places.place q r.first))))) t a (facts o xs (Phase.Guard q r met told Body.Nothing ∷ (if b then Phase.Emptying f (KeptAt.Frame f) ∷ frames_past f below else (Phase.Emptying f (KeptAt.Page r.first) ∷ below))))
        by true = (h.0, (z.locks, (z.source, under_past (next s a (Kind.Place q r.first (Place.Moving f (writable (s.places.place q r.first))))) t a o f below z.source.mine h.1.1.1.0 rest)))
        by false = (h.0, (z.locks, (z.source, rest)))

pub freezing_ok : (c : Program) (s : After) (t : Past) (a : ℕ) (o : Op) (xs : List Migrating) (q : ℕ) (r : Pages) (met : Bool) (told : Option ℕ) (f g : Frame) (at : KeptAt) (below : List Phase) → Sound c s t → HoldsAll s t a (In_guard q r met told ∷ Locks_only (g ∷ []) ∷ Is (nat_lt 0 r.count) ∷ Is (same_frame f g) ∷ Sourced g ∷ under o below) →
    Good c s t a o xs (Phase.Guard q r met told (Body.Freeze f)) (Phase.Emptying g at ∷ below) (Do (due_guard s a o q r met told (Body.Freeze f)))
freezing_ok c s t a o xs q r met told f g at below so h = guard_ok c s t a o xs q r met told (Body.Freeze f) (Phase.Emptying g at ∷ below) so h.0 (λ m tk i. (i, (h.1.0, (h.1.1.0, (h.1.1.1.0, (h.1.1.1.1.0, under_on c s t a (Kind.Told m r (s.sequences.seq q)) so tk (record { clear = λ f h n. h; no_begin = refl; map = refl; there = λ p. refl; areas = λ p. refl }) o below (λ d j v n e i. cc) h.1.1.1.1.1))))))
    (λ al. either (λ y. P (body_or_end s q r y)) (is_frame (names_directly x) f) _ _ (λ e. placed al e) (λ e. ends (end_takes s a q r met told h.0 al)))
  where
    x : Place
    x = s.places.place q r.first

    P : Kind → Type 0
    P = λ k. Good c s t a o xs (Phase.Guard q r met told (Body.Freeze f)) (Phase.Emptying g at ∷ below) (Do k)

    same : f ≡ g
    same = frame_same f g h.1.1.1.0

    ends : Allowed c s t a (Kind.End q r (seq_ended s.sequences q)) → P (Kind.End q r (seq_ended s.sequences q))
    ends ok = (ok, tt, (here_at s.sequences.guard a None, (h.1.0, (h.1.1.1.1.0, under_on c s t a (Kind.End q r (seq_ended s.sequences q)) so ok (record { clear = λ f h n. h; no_begin = refl; map = refl; there = λ p. refl; areas = λ p. refl }) o below (λ d j v n e i. cc) h.1.1.1.1.1))))

    placed : all_told h.0.given ≡ true → is_frame (names_directly (s.places.place q r.first)) f ≡ true → P (Kind.Place q r.first (Place.Moving f (writable (s.places.place q r.first))))
    placed al e = (z.ok, refl, goes_on s t a o xs (Kind.Place q r.first (Place.Moving f (writable (s.places.place q r.first)))) q r.first (Place.Moving f (writable (s.places.place q r.first))) _ z.stays (h.0, (subst (λ i. Holds (next s a (Kind.Place q r.first (Place.Moving f (writable (s.places.place q r.first))))) t a (Locks_only (i ∷ []))) same z.locks, (subst (IsSource (next s a (Kind.Place q r.first (Place.Moving f (writable (s.places.place q r.first))))) a) same z.source, rest))) (orphan_at s q r.first (Place.Moving f (writable (s.places.place q r.first)))) refl)
      where
        source : IsSource s a f
        source = subst (IsSource s a) (sym same) h.1.1.1.1.0

        z : Froze c s t a q r.first f (f ∷ [])
        z = froze c s t a q r.first f (f ∷ []) so (is_frame_from (names_directly (s.places.place q r.first)) f e) (inr source.mine) (is_covered s a q r.first r met told h.0 al (first_covered r h.1.1.0)) source.stood_by (subst (λ j. (i : Frame) → s.locks.frame i ≡ Some a → list_any (same_frame i) (j ∷ []) ≡ true) (sym same) h.1.0) (only_it f f refl)

        rest : HoldsAll (next s a (Kind.Place q r.first (Place.Moving f (writable (s.places.place q r.first))))) t a (under o below)
        rest = under_on c s t a (Kind.Place q r.first (Place.Moving f (writable (s.places.place q r.first)))) so z.ok (record { clear = λ i y n. frozen_clear c s t a q r.first f so z.ok i y; no_begin = refl; map = refl; there = λ p. refl; areas = λ p. refl }) o below (λ d j v n e i. cc) h.1.1.1.1.1

pub frozen_end_ok : (c : Program) (s : After) (t : Past) (a : ℕ) (o : Op) (xs : List Migrating) (q : ℕ) (r : Pages) (met : Bool) (told : Option ℕ) (f : Frame) (at : KeptAt) (below : List Phase) → Sound c s t → HoldsAll s t a (In_guard q r met told ∷ Locks_only (f ∷ []) ∷ Sourced f ∷ under o below) →
    Good c s t a o xs (Phase.Guard q r met told Body.Nothing) (Phase.Emptying f at ∷ below) (Do (due_guard s a o q r met told Body.Nothing))
frozen_end_ok c s t a o xs q r met told f at below so h = guard_ok c s t a o xs q r met told Body.Nothing (Phase.Emptying f at ∷ below) so h.0 (λ m tk i. (i, (h.1.0, (h.1.1.0, under_on c s t a (Kind.Told m r (s.sequences.seq q)) so tk (record { clear = λ f h n. h; no_begin = refl; map = refl; there = λ p. refl; areas = λ p. refl }) o below (λ d j v n e i. cc) h.1.1.1))))
    (λ al. let ok : Allowed c s t a (Kind.End q r (seq_ended s.sequences q)) = end_takes s a q r met told h.0 al in
    (ok, tt, (here_at s.sequences.guard a None, (h.1.0, (h.1.1.0, under_on c s t a (Kind.End q r (seq_ended s.sequences q)) so ok (record { clear = λ f h n. h; no_begin = refl; map = refl; there = λ p. refl; areas = λ p. refl }) o below (λ d j v n e i. cc) h.1.1.1)))))
