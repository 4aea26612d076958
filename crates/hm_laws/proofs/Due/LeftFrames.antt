-- Places that due entries put in, and the locks of frames after them.
use Rattle.std.proofs.Common.{◌≡◌, ◌≢◌, ℕ, ◌⊎◌, inl, inr, Bool, true, false, is_some, Option, Some, None, refl, sym, ap, ◌∙◌, arith}
use Rattle.std.proofs.lemmas.Bool.Decides.{nat_tests}
use Rattle.hm_base.specs.Program.{Program}
use Rattle.hm_base.specs.declared.Frame.{Frame}
use Rattle.hm_base.specs.declared.Place.{Place}
use Rattle.hm_history.specs.Memory.Words.{same_frame, sys_frame, is_frame, names, names_directly, moving_frame}
use Rattle.hm_history.specs.Memory.Places.{with_page, with_place, places_next, lowest_named}
use Rattle.hm_history.specs.Memory.Locks.{Locks, frame_placed, with_lock, orphan}
use Rattle.hm_history.specs.Memory.After.{After}
use Rattle.hm_history.specs.declared.Kind.{Kind}
use Rattle.hm_laws.specs.Stood.{stood, is_moving}
use Rattle.hm_laws.specs.Past.{Past}
use Rattle.hm_laws.specs.Sound.{PlaceRules, Sound}
use Rattle.hm_laws.specs.Allowed.{next, OwnsFrame, Allowed}
use Rattle.hm_laws.proofs.State.Search.{lowest_none}
use Rattle.hm_laws.proofs.Kept.Areas.{placed_cases, places_kept}
use Rattle.hm_laws.proofs.Kept.Frames.{names_stays, names_moving}
use Rattle.hm_laws.proofs.Other.Frames.{frame_here}
use Rattle.hm_laws.proofs.Kept.PlaceLocks.{PlacedMove, Same, Unlocks, Locks_it, placed_move, LeftMove, Left, Kept, left_move}
use Rattle.hm_history.proofs.Tests.{some_none, true_false}
use Rattle.hm_history.proofs.Frames.{frame_tells, is_frame_of}

abbrev pub orphan_at : After → ℕ → ℕ → Place → Option Frame
orphan_at s p v x = orphan s.locks s.places (Kind.Place p v x)

-- a place that freezes nothing, or only what is frozen already
abbrev pub LocksNothing : After → Place → Type 0
LocksNothing s x = (f : Frame) → moving_frame x ≡ Some f → is_some (s.locks.frame f) ≡ true

pub unfrozen : (s : After) (x : Place) → moving_frame x ≡ None → LocksNothing s x
unfrozen s x n f e = absurd (some_none (moving_frame x) f e n)

-- the frames that an actor has locked after a place of its own: what was left behind, and what it had locked and
-- has not just given its place
pub gains_own : (s : After) (a p v : ℕ) (x : Place) → LocksNothing s x → (f : Frame) → (next s a (Kind.Place p v x)).locks.frame f ≡ Some a →
    (orphan_at s p v x ≡ Some f) ⊎ ((s.locks.frame f ≡ Some a) × (frame_placed s.locks (s.places.place p v) a x f ≡ Some a))
gains_own s a p v x nm f h = by (orphan_at s p v x) (frame_tells f) h
  where
    was : frame_placed s.locks (s.places.place p v) a x f ≡ Some a → s.locks.frame f ≡ Some a
    was e = at (frame_placed s.locks (s.places.place p v) a x f) e (placed_move s.locks (s.places.place p v) a x f)
      where
        at : (l : Option ℕ) → l ≡ Some a → PlacedMove s.locks.frame (s.places.place p v) a x f l → s.locks.frame f ≡ Some a
        at l e (Same i z) = sym i ∙ e
        at l e (Unlocks n w i j o m k) = m
        at l e (Locks_it i m k) = absurd (true_false (is_some (s.locks.frame f)) (nm f i) (ap is_some m))

    by : (o : Option Frame) → ((g : Frame) → ((same_frame f g ≡ true) × (f ≡ g)) ⊎ ((same_frame f g ≡ false) × (f ≢ g))) → with_lock (frame_placed s.locks (s.places.place p v) a x) o (Some a) f ≡ Some a →
        (o ≡ Some f) ⊎ ((s.locks.frame f ≡ Some a) × (frame_placed s.locks (s.places.place p v) a x f ≡ Some a))
    by None tells k = inr (was k, k)
    by (Some g) tells k = cases (tells g)
      where
        cases : ((same_frame f g ≡ true) × (f ≡ g)) ⊎ ((same_frame f g ≡ false) × (f ≢ g)) → (Some g ≡ Some f) ⊎ ((s.locks.frame f ≡ Some a) × (frame_placed s.locks (s.places.place p v) a x f ≡ Some a))
        cases (inl e) = inl (ap Some (sym e.1))
        cases (inr e) = inr (was (rw e.0 at k), rw e.0 at k)

-- a frame that its locker puts in a place that is not Moving is unlocked
pub gives_up : (l : Locks) (old : Place) (a n : ℕ) (w : Bool) → is_moving old ≡ false → l.frame (sys_frame n) ≡ Some a → frame_placed l old a (Place.Sys n w) (sys_frame n) ≡ None
gives_up l (Place.Moving f y) a n w m h = cc
gives_up l Place.Empty a n w m h = grind (arith, nat_tests, frame_tells (sys_frame n) (sys_frame n))
gives_up l Place.Zero a n w m h = grind (arith, nat_tests, frame_tells (sys_frame n) (sys_frame n))
gives_up l (Place.Sys k y) a n w m h = grind (arith, nat_tests, frame_tells (sys_frame n) (sys_frame n))
gives_up l (Place.Own d k y) a n w m h = grind (arith, nat_tests, frame_tells (sys_frame n) (sys_frame n))
gives_up l (Place.Exclusive k b) a n w m h = grind (arith, nat_tests, frame_tells (sys_frame n) (sys_frame n))

-- what was left behind
pub left_says : (s : After) (p v : ℕ) (x : Place) (f : Frame) → orphan_at s p v x ≡ Some f → (names (s.places.place p v) ≡ Some f) × (s.locks.frame f ≡ None) × (lowest_named (places_next s.places (Kind.Place p v x)) f ≡ None)
left_says s p v x f e = by (orphan_at s p v x) e (left_move s.locks (places_next s.places (Kind.Place p v x)) (names (s.places.place p v)) f)
  where
    by : (o : Option Frame) → o ≡ Some f → LeftMove s.locks.frame (places_next s.places (Kind.Place p v x)) (names (s.places.place p v)) f o → (names (s.places.place p v) ≡ Some f) × (s.locks.frame f ≡ None) × (lowest_named (places_next s.places (Kind.Place p v x)) f ≡ None)
    by o e (Left i n w z) = (n, w, z)
    by o e (Kept i u) = absurd (i e)

pub left_unnamed : (c : Program) (s : After) (t : Past) (a p v : ℕ) (x : Place) → Sound c s t → Allowed c s t a (Kind.Place p v x) → (f : Frame) → orphan_at s p v x ≡ Some f → (q u : ℕ) → names (with_place s.places.place p v x q u) ≡ Some f → ⊥
left_unnamed c s t a p v x so ok f e q u n = true_false (is_frame (names (with_place s.places.place p v x q u)) f) (is_frame_of (names (with_place s.places.place p v x q u)) f n)
    (lowest_none (λ i j. is_frame (names (with_place s.places.place p v x i j)) f) (with_page p v s.places.placed) q u (left_says s p v x f e).2 (rules.listed q u (names_stays (with_place s.places.place p v x q u) f n)))
  where
    rules : PlaceRules (with_place s.places.place p v x) (with_page p v s.places.placed)
    rules = places_kept c s t a so (Kind.Place p v x) ok

-- a frame that is not locked is stood for only where it is named
pub unlocked_stands : (c : Program) (s : After) (t : Past) → Sound c s t → (f : Frame) → s.locks.frame f ≡ None → (y : Place) → (is_moving y ≡ true → stood s.places.committed_to y ≡ Some f → is_some (s.locks.frame f) ≡ true) → stood s.places.committed_to y ≡ Some f → names y ≡ Some f
unlocked_stands c s t so f h Place.Empty g n = cc
unlocked_stands c s t so f h Place.Zero g n = cc
unlocked_stands c s t so f h (Place.Sys i w) g n = n
unlocked_stands c s t so f h (Place.Own d i w) g n = n
unlocked_stands c s t so f h (Place.Moving i w) g n = absurd (true_false (is_some (s.locks.frame f)) (g refl n) (ap is_some h))
unlocked_stands c s t so f h (Place.Exclusive i b) g n = n

pub left_owned : (c : Program) (s : After) (t : Past) (a p v : ℕ) (x : Place) → Sound c s t → Allowed c s t a (Kind.Place p v x) → is_moving x ≡ false → (f : Frame) → orphan_at s p v x ≡ Some f → OwnsFrame (next s a (Kind.Place p v x)) a f
left_owned c s t a p v x so ok nm f e = (
  record {
    mine = ap (λ y. with_lock (frame_placed s.locks (s.places.place p v) a x) y (Some a) f) e ∙ frame_here (frame_placed s.locks (s.places.place p v) a x) f (Some a);
    unnamed = left_unnamed c s t a p v x so ok f e;
    unstood = λ q u n. left_unnamed c s t a p v x so ok f e q u (stands q u n);
  },
  so.frames.direct_fresh p v f (direct (s.places.place p v) says.0 not_moving),
)
  where
    says : (names (s.places.place p v) ≡ Some f) × (s.locks.frame f ≡ None) × (lowest_named (places_next s.places (Kind.Place p v x)) f ≡ None)
    says = left_says s p v x f e

    not_moving : is_moving (s.places.place p v) ≡ true → ⊥
    not_moving m = true_false (is_some (s.locks.frame f)) (so.frames.moving_locked p v f (names_moving (s.places.place p v) f says.0 m)) (ap is_some says.1)

    direct : (y : Place) → names y ≡ Some f → (is_moving y ≡ true → ⊥) → names_directly y ≡ Some f
    direct Place.Empty n m = cc
    direct Place.Zero n m = cc
    direct (Place.Sys i w) n m = n
    direct (Place.Own d i w) n m = n
    direct (Place.Moving i w) n m = absurd (m refl)
    direct (Place.Exclusive i b) n m = n

    stands : (q u : ℕ) → stood s.places.committed_to (with_place s.places.place p v x q u) ≡ Some f → names (with_place s.places.place p v x q u) ≡ Some f
    stands q u n = unlocked_stands c s t so f says.1 (with_place s.places.place p v x q u) (locked (placed_cases s.places.place p v x q u)) n
      where
        locked : ((q ≡ p) × (u ≡ v) × (with_place s.places.place p v x q u ≡ x)) ⊎ (with_place s.places.place p v x q u ≡ s.places.place q u) → is_moving (with_place s.places.place p v x q u) ≡ true → stood s.places.committed_to (with_place s.places.place p v x q u) ≡ Some f → is_some (s.locks.frame f) ≡ true
        locked (inl k) m n = absurd (true_false (is_moving x) (sym (ap is_moving k.2) ∙ m) nm)
        locked (inr k) m n = so.frames.stands_locked q u f (sym (ap is_moving k) ∙ m) (sym (ap (stood s.places.committed_to) k) ∙ n)

-- nothing is left behind where the page named nothing, or where the frame stays
pub no_left : (s : After) (p v : ℕ) (x : Place) (f : Frame) → names (s.places.place p v) ≡ None → orphan_at s p v x ≡ Some f → ⊥
no_left s p v x f n e = some_none (names (s.places.place p v)) f (left_says s p v x f e).0 n

pub none_left : (c : Program) (s : After) (t : Past) (a p v : ℕ) (x : Place) → Sound c s t → Allowed c s t a (Kind.Place p v x) → names x ≡ names (s.places.place p v) → (f : Frame) → orphan_at s p v x ≡ Some f → ⊥
none_left c s t a p v x so ok e f k = left_unnamed c s t a p v x so ok f k p v (ap names (at_page s) ∙ e ∙ (left_says s p v x f k).0)
  where
    at_page : (s : After) → with_place s.places.place p v x p v ≡ x
    at_page s = grind (arith, nat_tests)
