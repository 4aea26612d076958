-- A new frame of a device in the place of an untouched page.
use Rattle.std.proofs.Common.{◌≡◌, ℕ, ◌%◌, ◌⊎◌, inl, inr, Bool, true, false, is_some, Option, Some, None, refl, sym, ap, ◌∙◌, subst}
use Rattle.std.proofs.lemmas.Option.{same_Some}
use Rattle.hm_base.specs.Program.{Program}
use Rattle.hm_base.specs.declared.Frame.{Frame}
use Rattle.hm_base.specs.declared.Place.{Place}
use Rattle.hm_history.specs.Memory.Words.{sys_frame, names, names_directly, moving_frame, writable, is_empty_place}
use Rattle.hm_history.specs.Memory.Plain.{rights_of, is_read_write}
use Rattle.hm_history.specs.Memory.Places.{with_place}
use Rattle.hm_history.specs.Memory.Lookups.{is_guarded}
use Rattle.hm_history.specs.Memory.Contents.{shown_by, zeros}
use Rattle.hm_history.specs.Memory.After.{After}
use Rattle.hm_history.specs.Kernel.Due.{has_no_frame}
use Rattle.hm_history.specs.declared.Kind.{Kind}
use Rattle.hm_laws.specs.Stood.{stood, is_moving, Unnamed, Unstood}
use Rattle.hm_laws.specs.Past.{Past}
use Rattle.hm_laws.specs.Sound.{Sound}
use Rattle.hm_laws.specs.Allowed.{next, shows, ReadsThere, OwnsFrame, Reader, PlaceOk, Allowed}
use Rattle.hm_laws.specs.Moves.{IsReturned}
use Rattle.hm_laws.specs.Facts.{of_system}
use Rattle.hm_laws.proofs.Kept.PlaceLocks.{LockMove, Stays, Settles, Freezes, Leaves}
use Rattle.hm_laws.proofs.Kept.Areas.{placed_cases}
use Rattle.hm_laws.proofs.Kept.Frames.{moving_names, direct_names}
use Rattle.hm_laws.proofs.Other.Frames.{move_of}
use Rattle.hm_laws.proofs.Due.Good.{clean_read, reads_plain}
use Rattle.hm_laws.proofs.Due.Decide.{ranged}
use Rattle.hm_laws.proofs.Migration.Places.{stood_direct, InFrame}
use Rattle.hm_history.proofs.Tests.{some_none, true_false}

-- an untouched page names no frame, stands for none, and shows zeros
pub record Untouched (to : Frame → Option Frame) (x : Place) : Type 0 where
  pub unnamed : names x ≡ None
  pub unstood : stood to x ≡ None
  pub unfrozen : moving_frame x ≡ None
  pub settled : is_moving x ≡ false
  pub narrow : writable x ≡ false
  pub not_own : (d n : ℕ) (w : Bool) → x ≡ Place.Own d n w → ⊥

pub untouched_is : (to : Frame → Option Frame) (x : Place) → has_no_frame x ≡ true → Untouched to x
untouched_is to Place.Empty h = record { unnamed = refl; unstood = refl; unfrozen = refl; settled = refl; narrow = refl; not_own = λ d n w e. cc }
untouched_is to Place.Zero h = record { unnamed = refl; unstood = refl; unfrozen = refl; settled = refl; narrow = refl; not_own = λ d n w e. cc }
untouched_is to (Place.Sys n w) h = cc
untouched_is to (Place.Own d n w) h = cc
untouched_is to (Place.Moving f w) h = cc
untouched_is to (Place.Exclusive n b) h = cc

-- it gets a frame that nobody uses and that is zeros, with the area's write right
pub fresh_ok : (c : Program) (s : After) (t : Past) (a p v : ℕ) (g : Frame) (x : Place) → Sound c s t → ReadsThere s a p → is_some (rights_of s.plain p v) ≡ true → OwnsFrame s a g → s.contents g ≡ zeros → InFrame g (is_read_write (rights_of s.plain p v)) x → has_no_frame (s.places.place p v) ≡ true → is_guarded s.sequences a p v ≡ true →
    PlaceOk s t a p v x
fresh_ok c s t a p v g x so h r own zero i e gd = record {
  who = Reader h i.used (λ o l. same o) (λ w. absurd (true_false (writable (s.places.place p v)) w old.narrow));
  ranged = λ k. ranged c s t p v so r;
  frames = record {
    names_held = λ f n. ap s.places.held (sym (named f n)) ∙ so.frames.locked_held g a own.0.mine;
    stands_held = λ f n. ap s.places.held (sym (stands f n)) ∙ so.frames.locked_held g a own.0.mine;
    one_page = λ q u f n m. absurd (own.0.unnamed q u (m ∙ ap Some (sym (named f n))));
    stood_page = λ q u f n m. absurd (own.0.unstood q u (m ∙ ap Some (sym (stands f n))));
    alone = λ q u f w n m. absurd (own.0.unstood q u (m ∙ ap Some (sym (stands f n))));
    others = λ q u f w n m. absurd (own.0.unstood q u (m ∙ ap Some (sym (stands f n))));
    direct_fresh = λ f n. ap s.places.committed_to (sym (same_Some g f (sym i.direct ∙ n))) ∙ own.1;
  };
  hand_over = record {
    fresh_names = λ f n. inl (ap s.locks.frame (sym (named f n)) ∙ own.0.mine);
    fresh_stands = λ f n. inl (ap s.locks.frame (sym (stands f n)) ∙ own.0.mine);
    freezes = λ f n. absurd (some_none (moving_frame x) f n i.unfrozen);
    finishes = λ f k. absurd (some_none (moving_frame (s.places.place p v)) f k old.unfrozen);
    owned = λ d n w k. absurd (old.not_own d n w k);
    touched = λ k. inl e;
    settles = λ n w k m d. let z : g ≡ sys_frame n = named (sys_frame n) (ap names k) in (subst (Unnamed s.places.place) z own.0.unnamed, subst (Unstood s.places.place s.places.committed_to) z own.0.unstood);
    stays_locked = λ f m n. absurd (true_false (is_moving x) m i.settled);
  };
  process = record {
    in_area = λ k n. r;
    may_write = λ w. (h.1, sym i.right ∙ w);
    contents = λ y k th n. same (y % 4096) ∙ ap (λ j. shows s (s.places.place p j) (y % 4096)) (sym k) ∙ reads_plain c s t p y so h.1 (clean_read c s t a p so h) (ap (λ j. is_some (rights_of s.plain p j)) k ∙ r);
    empties = λ k. absurd (true_false (is_empty_place x) k i.used);
  };
  mirrors = record {
    guarded = λ l. gd;
    lands = λ m l. absurd (true_false (is_moving (s.places.place p v)) m old.settled);
  };
}
  where
    old : Untouched s.places.committed_to (s.places.place p v)
    old = untouched_is s.places.committed_to (s.places.place p v) e

    named : (f : Frame) → names x ≡ Some f → g ≡ f
    named f n = same_Some g f (sym (direct_names x g i.direct).0 ∙ n)

    stands : (f : Frame) → stood s.places.committed_to x ≡ Some f → g ≡ f
    stands f n = same_Some g f (sym (stood_direct s.places.committed_to x g i.direct) ∙ n)

    same : (o : ℕ) → shows s x o ≡ shows s (s.places.place p v) o
    same o = ap (λ y. shown_by s.contents y o) (stood_direct s.places.committed_to x g i.direct) ∙ ap (λ (f : ℕ → ℕ). f o) zero ∙ sym (ap (λ y. shown_by s.contents y o) old.unstood)

-- the frame of a device stays locked by who places it
pub device_locked : (c : Program) (s : After) (t : Past) (a p v : ℕ) (g : Frame) (w : Bool) (x : Place) → Sound c s t → Allowed c s t a (Kind.Place p v x) → InFrame g w x → of_system g ≡ false → s.locks.frame g ≡ Some a → (next s a (Kind.Place p v x)).locks.frame g ≡ Some a
device_locked c s t a p v g w x so ok i dev mine = by ((next s a (Kind.Place p v x)).locks.frame g) (move_of c s t a p v x so ok g)
  where
    by : (l : Option ℕ) → LockMove s.places.place s.locks.frame a p v x g l → l ≡ Some a
    by l (Stays e u z) = e ∙ mine
    by l (Settles n z e f o m k) = absurd (true_false (of_system g) (ap of_system f) dev)
    by l (Freezes e m k) = k
    by l (Leaves e m u k) = k

-- and all its pages are there, which is that one
pub device_back : (c : Program) (s : After) (t : Past) (a p v : ℕ) (g : Frame) (w : Bool) (x : Place) → Sound c s t → Allowed c s t a (Kind.Place p v x) → InFrame g w x → of_system g ≡ false → OwnsFrame s a g → IsReturned (next s a (Kind.Place p v x)) a g
device_back c s t a p v g w x so ok i dev own = record {
  dest = device_locked c s t a p v g w x so ok i dev own.0.mine;
  lands = λ q u m. lands q u m (placed_cases s.places.place p v x q u);
  stood_by = λ q u n. there q u n (placed_cases s.places.place p v x q u);
}
  where
    lands : (q u : ℕ) → moving_frame (with_place s.places.place p v x q u) ≡ Some g → ((q ≡ p) × (u ≡ v) × (with_place s.places.place p v x q u ≡ x)) ⊎ (with_place s.places.place p v x q u ≡ s.places.place q u) → ⊥
    lands q u m (inl e) = some_none (moving_frame x) g (sym (ap moving_frame e.2) ∙ m) i.unfrozen
    lands q u m (inr e) = own.0.unnamed q u (moving_names (s.places.place q u) g (sym (ap moving_frame e) ∙ m)).0

    there : (q u : ℕ) → stood s.places.committed_to (with_place s.places.place p v x q u) ≡ Some g → ((q ≡ p) × (u ≡ v) × (with_place s.places.place p v x q u ≡ x)) ⊎ (with_place s.places.place p v x q u ≡ s.places.place q u) → names_directly (with_place s.places.place p v x q u) ≡ Some g
    there q u n (inl e) = ap names_directly e.2 ∙ i.direct
    there q u n (inr e) = absurd (own.0.unstood q u (sym (ap (stood s.places.committed_to) e) ∙ n))
