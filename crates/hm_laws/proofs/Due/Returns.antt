-- Pages return to a frame, which is then given free.
use Rattle.std.proofs.Common.{◌≡◌, ℕ, ◌⊎◌, inl, inr, Bool, true, false, ◌||◌, if◌then◌else◌, is_some, Option, Some, None, List, [], ◌∷◌, refl, sym, ap, ◌∙◌, subst, arith, unwrap_or}
use Rattle.std.specs.List.{list_any}
use Rattle.std.proofs.lemmas.Option.{same_Some}
use Rattle.hm_base.specs.Program.{Program}
use Rattle.hm_base.specs.declared.Frame.{Frame}
use Rattle.hm_base.specs.declared.Place.{Place}
use Rattle.hm_base.specs.declared.ops.Op.{Op}
use Rattle.hm_history.specs.Memory.Words.{dev_frame, same_frame, is_frame, with_frame, names, names_directly, moving_frame, writable, place_in}
use Rattle.hm_history.specs.Memory.Places.{lowest_moving, lowest_named, with_place, is_exclusive}
use Rattle.hm_history.specs.Memory.After.{After}
use Rattle.hm_history.specs.Kernel.Due.{due_finish, settle}
use Rattle.hm_history.specs.declared.Kind.{Kind}
use Rattle.hm_history.specs.declared.phases.Migrating.{Migrating}
use Rattle.hm_history.specs.declared.phases.Phase.{Phase}
use Rattle.hm_history.specs.declared.phases.Next.TheVariants.{Do}
use Rattle.hm_laws.specs.Stood.{stood, is_moving}
use Rattle.hm_laws.specs.Past.{Past, past_next}
use Rattle.hm_laws.specs.Sound.{Sound}
use Rattle.hm_laws.specs.Allowed.{next, IsSource, Allowed}
use Rattle.hm_laws.specs.Moves.{IsReturning, IsReturned}
use Rattle.hm_laws.specs.Facts.{Is, Clear, keeps_on, of_system, No_guard, Locks_only, Sourced, Coming_back, Back, returns_to, held_under, beneath, Holds, facts, HoldsAll}
use Rattle.hm_laws.proofs.State.Search.{lowest_none}
use Rattle.hm_laws.proofs.Kept.PlaceLocks.{lowest_passes}
use Rattle.hm_laws.proofs.Kept.Areas.{placed_cases}
use Rattle.hm_laws.proofs.Kept.Frames.{names_stays, moving_names, names_moving, direct_names}
use Rattle.hm_laws.proofs.Other.Frames.{frame_else}
use Rattle.hm_laws.proofs.Due.Good.{Good, either_option}
use Rattle.hm_laws.proofs.Migration.Places.{stood_direct, InFrame, in_frame, return_ok}
use Rattle.hm_history.specs.Kernel.Operation.{is_remove}
use Rattle.hm_laws.proofs.Other.Cleared.{clear_drop, clear_done}
use Rattle.hm_laws.specs.Spares.{Apart}
use Rattle.hm_laws.proofs.Own.WhileEmptying.{not_removing, beneath_less, apart_below, beneath_on, resting_beneath, to_system}
use Rattle.hm_laws.proofs.Own.Places.{locked_still, KeepsName, locks_after}
use Rattle.hm_laws.proofs.Other.Emptied.{direct_of}
use Rattle.hm_history.proofs.Tests.{some_none, true_false}
use Rattle.hm_history.proofs.Frames.{frame_tells, is_frame_from, is_frame_of}

is_frozen : (x : Place) (f : Frame) → moving_frame x ≡ Some f → x ≡ Place.Moving f (writable x)
is_frozen Place.Empty f e = cc
is_frozen Place.Zero f e = cc
is_frozen (Place.Sys n w) f e = cc
is_frozen (Place.Own d n w) f e = cc
is_frozen (Place.Moving g w) f e = ap (λ i. Place.Moving i w) (same_Some g f e)
is_frozen (Place.Exclusive n b) f e = cc

found_frozen : (s : After) (f : Frame) (x : ℕ × ℕ) → lowest_moving s.places f ≡ Some x → s.places.place x.0 x.1 ≡ Place.Moving f (writable (s.places.place x.0 x.1))
found_frozen s f x e = is_frozen (s.places.place x.0 x.1) f (is_frame_from (moving_frame (s.places.place x.0 x.1)) f (lowest_passes (λ i j. is_frame (moving_frame (s.places.place i j)) f) s.places.placed x e))

none_frozen : (c : Program) (s : After) (t : Past) (f : Frame) → Sound c s t → lowest_moving s.places f ≡ None → (q u : ℕ) → moving_frame (s.places.place q u) ≡ Some f → ⊥
none_frozen c s t f so e q u m = true_false (is_frame (moving_frame (s.places.place q u)) f) (is_frame_of (moving_frame (s.places.place q u)) f m) (lowest_none (λ i j. is_frame (moving_frame (s.places.place i j)) f) s.places.placed q u e (so.places.listed q u (names_stays (s.places.place q u) f (moving_names (s.places.place q u) f m).0)))

none_named : (c : Program) (s : After) (t : Past) (f : Frame) → Sound c s t → lowest_named s.places f ≡ None → (q u : ℕ) → names (s.places.place q u) ≡ Some f → ⊥
none_named c s t f so e q u n = true_false (is_frame (names (s.places.place q u)) f) (is_frame_of (names (s.places.place q u)) f n) (lowest_none (λ i j. is_frame (names (s.places.place i j)) f) s.places.placed q u e (so.places.listed q u (names_stays (s.places.place q u) f n)))

-- a frame that is given free
pub freed_locks : (s : After) (a : ℕ) (g : Frame) (l : List Frame) → ((i : Frame) → s.locks.frame i ≡ Some a → list_any (same_frame i) (g ∷ l) ≡ true) → (i : Frame) → with_frame s.locks.frame g None i ≡ Some a → list_any (same_frame i) l ≡ true
freed_locks s a g l h i k = by (same_frame i g) (h i) k
  where
    by : (b : Bool) → (s.locks.frame i ≡ Some a → (b || list_any (same_frame i) l) ≡ true) → ◌≡◌ {A = Option ℕ} (if b then None else s.locks.frame i) (Some a) → list_any (same_frame i) l ≡ true
    by true m k = cc
    by false m k = m k

-- what is done with a frame that is given free
only_it : (f : Frame) → list_any (same_frame f) (f ∷ []) ≡ true
only_it f = grind (arith, frame_tells f f)

abbrev Rests : Program → After → Past → ℕ → Op → List Migrating → List Phase → Kind → Type 0
Rests c s t a o xs below k = Allowed c s t a k × HoldsAll (next s a k) (past_next t s.length a k) a (facts o xs below)

settles_done : (c : Program) (s : After) (t : Past) (a : ℕ) (o : Op) (xs : List Migrating) (g : Frame) (below : List Phase) (x : ℕ × ℕ) → Sound c s t → IsReturned s a g → Holds s t a No_guard → Holds s t a (Locks_only (g ∷ held_under o xs below)) → HoldsAll s t a (beneath o xs (g ∷ []) below) → ((d j v n : ℕ) → Kind.Done g ≡ Kind.Done (dev_frame d j) → below ≡ Phase.Frames v n ∷ [] → is_remove o ≡ false) → lowest_named s.places g ≡ Some x → Rests c s t a o xs below (Kind.Done g)
settles_done c s t a o xs g below x so r n l u done e = (ok, resting_beneath (next s a (Kind.Done g)) t a o xs (g ∷ []) below (beneath_on c s t a (Kind.Done g) so ok (record { clear = λ f h n. clear_done s a g f h n; no_begin = refl; map = refl; there = λ p. refl; areas = λ p. refl }) o xs (g ∷ []) below done (λ i m e. apart_below s t a o xs (g ∷ []) below u g i (only_it g) m e) u) n (freed_locks s a g (held_under o xs below) l))
  where
    lands : (q u : ℕ) → names (s.places.place q u) ≡ Some g → (b : Bool) → is_moving (s.places.place q u) ≡ b → b ≡ false
    lands q u n true m = absurd (r.lands q u (names_moving (s.places.place q u) g n m))
    lands q u n false m = refl

    ok : Allowed c s t a (Kind.Done g)
    ok = (record { mine = r.dest; lands = λ q u n. lands q u n (is_moving (s.places.place q u)) refl; stood_by = λ q u n. (direct_names (s.places.place q u) g (r.stood_by q u n)).1 }, (x.0, x.1, is_frame_from (names (s.places.place x.0 x.1)) g (lowest_passes (λ i j. is_frame (names (s.places.place i j)) g) s.places.placed x e)))

settles_drop : (c : Program) (s : After) (t : Past) (a : ℕ) (o : Op) (xs : List Migrating) (g : Frame) (below : List Phase) → Sound c s t → IsReturned s a g → Holds s t a No_guard → Holds s t a (Locks_only (g ∷ held_under o xs below)) → HoldsAll s t a (beneath o xs (g ∷ []) below) → lowest_named s.places g ≡ None → Rests c s t a o xs below (Kind.Drop g)
settles_drop c s t a o xs g below so r n l u e = (ok, resting_beneath (next s a (Kind.Drop g)) t a o xs (g ∷ []) below (beneath_on c s t a (Kind.Drop g) so ok (record { clear = λ f h n. clear_drop s a g f h; no_begin = refl; map = refl; there = λ p. refl; areas = λ p. refl }) o xs (g ∷ []) below (λ d j v n e i. cc) (λ i m e. apart_below s t a o xs (g ∷ []) below u g i (only_it g) m e) u) n (freed_locks s a g (held_under o xs below) l))
  where
    ok : Allowed c s t a (Kind.Drop g)
    ok = record { mine = r.dest; unnamed = none_named c s t g so e; unstood = λ q u n. none_named c s t g so e q u (direct_names (s.places.place q u) g (r.stood_by q u n)).0 }

not_device : (g : Frame) (d j : ℕ) → of_system g ≡ true → Kind.Done g ≡ Kind.Done (dev_frame d j) → ⊥
not_device g d j m e = true_false (of_system g) m (ap of_system (done_is g (dev_frame d j) e))
  where
    done_is : (g i : Frame) → Kind.Done g ≡ Kind.Done i → g ≡ i
    done_is g i e = cc

clear_placed : (s : After) (a p v : ℕ) (x : Place) (i : Frame) → ((j : Frame) → s.locks.frame j ≡ Some a → (next s a (Kind.Place p v x)).locks.frame j ≡ Some a) → Clear s a i → Clear (next s a (Kind.Place p v x)) a i
clear_placed s a p v x i mine (inl h) = inl h
clear_placed s a p v x i mine (inr h) = inr (mine i h)

pub settle_ok : (c : Program) (s : After) (t : Past) (a : ℕ) (o : Op) (xs : List Migrating) (g : Frame) (below : List Phase) → Sound c s t → HoldsAll s t a (No_guard ∷ Locks_only (g ∷ held_under o xs below) ∷ Back g ∷ Is (returns_to o g) ∷ beneath o xs (g ∷ []) below) → Good c s t a o xs (Phase.Settle g) below (Do (settle s g))
settle_ok c s t a o xs g below so h = either_option (λ k. Good c s t a o xs (Phase.Settle g) below (Do k)) (lowest_named s.places g) (Kind.Drop g) (λ x. Kind.Done g)
    (λ e. let z : Rests c s t a o xs below (Kind.Drop g) = settles_drop c s t a o xs g below so h.1.1.0 h.0 h.1.0 h.1.1.1.1 e in (z.0, tt, z.1))
    (λ x e. let z : Rests c s t a o xs below (Kind.Done g) = settles_done c s t a o xs g below x so h.1.1.0 h.0 h.1.0 h.1.1.1.1 (λ d j v n e i. absurd (not_device g d j (to_system s t a o xs (g ∷ []) g v n below h.1.1.1.1 h.1.1.1.0 i) e)) e in (z.0, tt, z.1))

-- a page returns
record Return (c : Program) (s : After) (t : Past) (a p v : ℕ) (f h : Frame) (l : List Frame) : Type 0 where
  ok : Allowed c s t a (Kind.Place p v (place_in h (writable (s.places.place p v))))
  shared : is_exclusive (place_in h (writable (s.places.place p v))) ≡ false
  locks : (i : Frame) → (next s a (Kind.Place p v (place_in h (writable (s.places.place p v))))).locks.frame i ≡ Some a → list_any (same_frame i) l ≡ true
  mine : (i : Frame) → s.locks.frame i ≡ Some a → (next s a (Kind.Place p v (place_in h (writable (s.places.place p v))))).locks.frame i ≡ Some a

returns : (c : Program) (s : After) (t : Past) (a p v : ℕ) (f h : Frame) (l : List Frame) → Sound c s t → s.places.place p v ≡ Place.Moving f (writable (s.places.place p v)) → stood s.places.committed_to (Place.Moving f (writable (s.places.place p v))) ≡ Some h → s.locks.frame f ≡ Some a → s.locks.frame h ≡ Some a → s.places.committed_to h ≡ None →
    ((q u : ℕ) → names (s.places.place q u) ≡ Some h → u ≡ v) → ((i : Frame) → s.locks.frame i ≡ Some a → list_any (same_frame i) l ≡ true) → Return c s t a p v f h l
returns c s t a p v f h l so e stands mine dest fresh pages only = record {
  ok = ok;
  shared = x.shared;
  locks = λ i k. at i (locks_after c s t a p v (place_in h (writable (s.places.place p v))) so ok keeps i k);
  mine = λ i k. locked_still c s t a p v (place_in h (writable (s.places.place p v))) so ok (inr (ap is_moving e)) i a k;
}
  where
    x : InFrame h (writable (s.places.place p v)) (place_in h (writable (s.places.place p v)))
    x = in_frame h (writable (s.places.place p v))

    ok : Allowed c s t a (Kind.Place p v (place_in h (writable (s.places.place p v))))
    ok = return_ok c s t a p v f h (writable (s.places.place p v)) (place_in h (writable (s.places.place p v))) so e x stands mine dest fresh pages

    keeps : KeepsName s p v (place_in h (writable (s.places.place p v)))
    keeps i n = inl (ap is_some (ap s.locks.frame (sym (same_Some f i (sym (ap names e) ∙ n))) ∙ mine))

    at : (i : Frame) → (s.locks.frame i ≡ Some a) ⊎ ((moving_frame (place_in h (writable (s.places.place p v))) ≡ Some i) × (s.locks.frame i ≡ None)) → list_any (same_frame i) l ≡ true
    at i (inl k) = only i k
    at i (inr k) = absurd (some_none (moving_frame (place_in h (writable (s.places.place p v)))) i k.0 x.unfrozen)

-- it has nothing to do with another frame
first_of : (f g : Frame) → list_any (same_frame f) (f ∷ g ∷ []) ≡ true
first_of f g = grind (arith, frame_tells f f)

second_of : (f g : Frame) → list_any (same_frame g) (f ∷ g ∷ []) ≡ true
second_of f g = grind (arith, frame_tells g g)

returns_apart : (s : After) (p v : ℕ) (f h i : Frame) → s.places.place p v ≡ Place.Moving f (writable (s.places.place p v)) → (i ≡ f → ⊥) → (i ≡ h → ⊥) → Apart s (Kind.Place p v (place_in h (writable (s.places.place p v)))) i
returns_apart s p v f h i e nf nh = (
  λ n. nf (same_Some i f (sym n ∙ ap names e)),
  λ n. nh (same_Some i h (sym n ∙ (direct_names (place_in h (writable (s.places.place p v))) h new.direct).0)),
  λ n. nh (same_Some i h (sym n ∙ stood_direct s.places.committed_to (place_in h (writable (s.places.place p v))) h new.direct)),
)
  where
    new : InFrame h (writable (s.places.place p v)) (place_in h (writable (s.places.place p v)))
    new = in_frame h (writable (s.places.place p v))

-- to the frame that it was committed to
pub return_to_ok : (c : Program) (s : After) (t : Past) (a : ℕ) (o : Op) (xs : List Migrating) (f g : Frame) (below : List Phase) → Sound c s t → HoldsAll s t a (No_guard ∷ Locks_only (f ∷ g ∷ held_under o xs below) ∷ Coming_back f g ∷ Is (returns_to o g) ∷ beneath o xs (f ∷ g ∷ []) below) → Good c s t a o xs (Phase.Finish f (Some g)) below (Do (due_finish s f (Some g)))
return_to_ok c s t a o xs f g below so h = either_option P (lowest_moving s.places f) _ _ last more
  where
    P : Kind → Type 0
    P = λ k. Good c s t a o xs (Phase.Finish f (Some g)) below (Do k)

    r : IsReturning s a f g
    r = h.1.1.0

    off : (i : Frame) → list_any (same_frame i) (held_under o xs below) ≡ true → (i ≡ f → ⊥) × (i ≡ g → ⊥)
    off i m = (apart_below s t a o xs (f ∷ g ∷ []) below h.1.1.1.1 f i (first_of f g) m, apart_below s t a o xs (f ∷ g ∷ []) below h.1.1.1.1 g i (second_of f g) m)

    apart : g ≡ f → ⊥
    apart e = some_none (s.places.committed_to f) g r.moved (ap s.places.committed_to (sym e) ∙ r.fresh)

    last : lowest_moving s.places f ≡ None → P (Kind.Drop f)
    last e = (ok, tt, (h.0, (freed_locks s a f (g ∷ held_under o xs below) h.1.0, (back, (h.1.1.1.0, beneath_on c s t a (Kind.Drop f) so ok (record { clear = λ i h n. clear_drop s a f i h; no_begin = refl; map = refl; there = λ p. refl; areas = λ p. refl }) o xs (g ∷ []) below (λ d j v n e i. cc) (λ i m. (off i m).0) (beneath_less s t a o xs f (g ∷ []) below h.1.1.1.1))))))
      where
        ok : Allowed c s t a (Kind.Drop f)
        ok = record { mine = r.mine; unnamed = λ q u n. none_frozen c s t f so e q u (names_moving (s.places.place q u) f n (r.frozen q u n)); unstood = r.unstood }

        back : IsReturned (next s a (Kind.Drop f)) a g
        back = record { dest = frame_else s.locks.frame f g None apart ∙ r.dest; lands = r.lands; stood_by = λ q u n. by q u (r.stood_by q u n) }
          where
            by : (q u : ℕ) → (moving_frame (s.places.place q u) ≡ Some f) ⊎ (names_directly (s.places.place q u) ≡ Some g) → names_directly (s.places.place q u) ≡ Some g
            by q u (inl m) = absurd (none_frozen c s t f so e q u m)
            by q u (inr d) = d

    more : (x : ℕ × ℕ) → lowest_moving s.places f ≡ Some x → P (Kind.Place x.0 x.1 (place_in g (writable (s.places.place x.0 x.1))))
    more x e = (z.ok, z.shared, (h.0, (z.locks, (still, (h.1.1.1.0, beneath_on c s t a (Kind.Place x.0 x.1 (place_in g (writable (s.places.place x.0 x.1)))) so z.ok (record { clear = λ i y n. clear_placed s a x.0 x.1 _ i z.mine y; no_begin = refl; map = refl; there = λ p. refl; areas = λ p. refl }) o xs (f ∷ g ∷ []) below (λ d j v n e i. cc) (λ i m. returns_apart s x.0 x.1 f g i is (off i m).0 (off i m).1) h.1.1.1.1)))))
      where
        is : s.places.place x.0 x.1 ≡ Place.Moving f (writable (s.places.place x.0 x.1))
        is = found_frozen s f x e

        stands : stood s.places.committed_to (Place.Moving f (writable (s.places.place x.0 x.1))) ≡ Some g
        stands = ap (λ y. Some (unwrap_or y f)) r.moved

        new : InFrame g (writable (s.places.place x.0 x.1)) (place_in g (writable (s.places.place x.0 x.1)))
        new = in_frame g (writable (s.places.place x.0 x.1))

        z : Return c s t a x.0 x.1 f g (f ∷ g ∷ held_under o xs below)
        z = returns c s t a x.0 x.1 f g (f ∷ g ∷ held_under o xs below) so is stands r.mine r.dest r.fresh
            (λ q u n. so.frames.stood_page x.0 x.1 q u g (ap (stood s.places.committed_to) is ∙ stands) (stood_direct s.places.committed_to (s.places.place q u) g (direct_of (s.places.place q u) g n (r.lands q u)))) h.1.0

        by : (P : Place → Type 0) → P (place_in g (writable (s.places.place x.0 x.1))) → (q u : ℕ) → P (s.places.place q u) → P (with_place s.places.place x.0 x.1 (place_in g (writable (s.places.place x.0 x.1))) q u)
        by P m q u n = at (placed_cases s.places.place x.0 x.1 (place_in g (writable (s.places.place x.0 x.1))) q u)
          where
            at : ((q ≡ x.0) × (u ≡ x.1) × (with_place s.places.place x.0 x.1 (place_in g (writable (s.places.place x.0 x.1))) q u ≡ place_in g (writable (s.places.place x.0 x.1)))) ⊎ (with_place s.places.place x.0 x.1 (place_in g (writable (s.places.place x.0 x.1))) q u ≡ s.places.place q u) → P (with_place s.places.place x.0 x.1 (place_in g (writable (s.places.place x.0 x.1))) q u)
            at (inl i) = subst P (sym i.2) m
            at (inr i) = subst P (sym i) n

        still : IsReturning (next s a (Kind.Place x.0 x.1 (place_in g (writable (s.places.place x.0 x.1))))) a f g
        still = record {
          mine = z.mine f r.mine;
          moved = r.moved;
          frozen = λ q u. by (λ y. names y ≡ Some f → is_moving y ≡ true) (λ n. absurd (apart (same_Some g f (sym (direct_names (place_in g (writable (s.places.place x.0 x.1))) g new.direct).0 ∙ n)))) q u (r.frozen q u);
          unstood = λ q u. by (λ y. stood s.places.committed_to y ≡ Some f → ⊥) (λ n. apart (same_Some g f (sym (stood_direct s.places.committed_to (place_in g (writable (s.places.place x.0 x.1))) g new.direct) ∙ n))) q u (r.unstood q u);
          dest = z.mine g r.dest;
          fresh = r.fresh;
          lands = λ q u. by (λ y. moving_frame y ≡ Some g → ⊥) (λ n. some_none (moving_frame (place_in g (writable (s.places.place x.0 x.1)))) g n new.unfrozen) q u (r.lands q u);
          stood_by = λ q u. by (λ y. stood s.places.committed_to y ≡ Some g → (moving_frame y ≡ Some f) ⊎ (names_directly y ≡ Some g)) (λ n. inr new.direct) q u (r.stood_by q u);
        }

-- or to its own, which was not committed
pub give_back_ok : (c : Program) (s : After) (t : Past) (a : ℕ) (o : Op) (xs : List Migrating) (f : Frame) (below : List Phase) → Sound c s t → HoldsAll s t a (No_guard ∷ Locks_only (f ∷ held_under o xs below) ∷ Sourced f ∷ Is (keeps_on o below) ∷ beneath o xs (f ∷ []) below) → Good c s t a o xs (Phase.Finish f None) below (Do (due_finish s f None))
give_back_ok c s t a o xs f below so h = either_option P (lowest_moving s.places f) _ _ last more
  where
    P : Kind → Type 0
    P = λ k. Good c s t a o xs (Phase.Finish f None) below (Do k)

    goes : (d j v n : ℕ) → Kind.Done f ≡ Kind.Done (dev_frame d j) → below ≡ Phase.Frames v n ∷ [] → is_remove o ≡ false
    goes d j v n e i = at (not_removing s t a o xs (f ∷ []) below h.1.1.1.1 h.1.1.1.0)
      where
        at : (is_remove o ≡ false) ⊎ ((v n : ℕ) → below ≡ Phase.Frames v n ∷ [] → ⊥) → is_remove o ≡ false
        at (inl k) = k
        at (inr k) = absurd (k v n i)

    r : IsSource s a f
    r = h.1.1.0

    last : lowest_moving s.places f ≡ None → P (settle s f)
    last e = either_option P (lowest_named s.places f) (Kind.Drop f) (λ x. Kind.Done f)
        (λ i. let z : Rests c s t a o xs below (Kind.Drop f) = settles_drop c s t a o xs f below so back h.0 h.1.0 h.1.1.1.1 i in (z.0, tt, z.1))
        (λ x i. let z : Rests c s t a o xs below (Kind.Done f) = settles_done c s t a o xs f below x so back h.0 h.1.0 h.1.1.1.1 goes i in (z.0, tt, z.1))
      where
        back : IsReturned s a f
        back = record { dest = r.mine; lands = none_frozen c s t f so e; stood_by = λ q u n. direct_of (s.places.place q u) f (r.stood_by q u n) (none_frozen c s t f so e q u) }

    more : (x : ℕ × ℕ) → lowest_moving s.places f ≡ Some x → P (Kind.Place x.0 x.1 (place_in f (writable (s.places.place x.0 x.1))))
    more x e = (z.ok, z.shared, (h.0, (z.locks, (still, (h.1.1.1.0, beneath_on c s t a (Kind.Place x.0 x.1 (place_in f (writable (s.places.place x.0 x.1)))) so z.ok (record { clear = λ i y n. clear_placed s a x.0 x.1 _ i z.mine y; no_begin = refl; map = refl; there = λ p. refl; areas = λ p. refl }) o xs (f ∷ []) below (λ d j v n e i. cc) (λ i m. let ne : (i ≡ f → ⊥) = apart_below s t a o xs (f ∷ []) below h.1.1.1.1 f i (only_it f) m in returns_apart s x.0 x.1 f f i is ne ne) h.1.1.1.1)))))
      where
        is : s.places.place x.0 x.1 ≡ Place.Moving f (writable (s.places.place x.0 x.1))
        is = found_frozen s f x e

        z : Return c s t a x.0 x.1 f f (f ∷ held_under o xs below)
        z = returns c s t a x.0 x.1 f f (f ∷ held_under o xs below) so is (ap (λ y. Some (unwrap_or y f)) r.fresh) r.mine r.mine r.fresh (λ q u n. so.frames.one_page x.0 x.1 q u f (ap names is) n) h.1.0

        still : IsSource (next s a (Kind.Place x.0 x.1 (place_in f (writable (s.places.place x.0 x.1))))) a f
        still = record { mine = z.mine f r.mine; fresh = r.fresh; stood_by = λ q u n. at q u n (placed_cases s.places.place x.0 x.1 (place_in f (writable (s.places.place x.0 x.1))) q u) }
          where
            at : (q u : ℕ) → stood s.places.committed_to (with_place s.places.place x.0 x.1 (place_in f (writable (s.places.place x.0 x.1))) q u) ≡ Some f → ((q ≡ x.0) × (u ≡ x.1) × (with_place s.places.place x.0 x.1 (place_in f (writable (s.places.place x.0 x.1))) q u ≡ place_in f (writable (s.places.place x.0 x.1)))) ⊎ (with_place s.places.place x.0 x.1 (place_in f (writable (s.places.place x.0 x.1))) q u ≡ s.places.place q u) →
                names (with_place s.places.place x.0 x.1 (place_in f (writable (s.places.place x.0 x.1))) q u) ≡ Some f
            at q u n (inl i) = ap names i.2 ∙ (direct_names (place_in f (writable (s.places.place x.0 x.1))) f (in_frame f (writable (s.places.place x.0 x.1))).direct).0
            at q u n (inr i) = ap names i ∙ r.stood_by q u (sym (ap (stood s.places.committed_to) i) ∙ n)
