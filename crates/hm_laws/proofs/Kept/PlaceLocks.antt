-- The locks of frames after a place was set.
use Rattle.std.proofs.Common.{◌≡◌, ◌≢◌, ℕ, ◌⊎◌, inl, inr, Bool, true, false, ◌&&◌, if◌then◌else◌, is_some, is_none, Option, Some, None, List, [], ◌∷◌, refl, sym, ap, ◌∙◌, arith}
use Rattle.std.proofs.lemmas.Bool.Decides.{nat_tests}
use Rattle.hm_base.specs.declared.Frame.{Frame}
use Rattle.hm_base.specs.declared.Place.{Place}
use Rattle.hm_history.specs.Memory.Words.{same_frame, sys_frame, with_frame, names, moving_frame}
use Rattle.hm_history.specs.Memory.Places.{Places, with_place, lowest, lower, lowest_named}
use Rattle.hm_history.specs.Memory.Locks.{Locks, frame_placed, is_locker, left_behind}
use Rattle.hm_laws.specs.Stood.{is_moving, IsNamed, Unnamed}
use Rattle.hm_history.proofs.Frames.{frame_tells}

-- what the lowest page passes
lower_passes : (t : ℕ → ℕ → Bool) (x : ℕ × ℕ) (y : Option (ℕ × ℕ)) (z : ℕ × ℕ) → t x.0 x.1 ≡ true → ((w : ℕ × ℕ) → y ≡ Some w → t w.0 w.1 ≡ true) → lower x y ≡ Some z → t z.0 z.1 ≡ true
lower_passes t x None z h k e = grind arith
lower_passes t x (Some w) z h k e = grind (arith, nat_tests, k w refl)

pub lowest_passes : (t : ℕ → ℕ → Bool) (xs : List (ℕ × ℕ)) (z : ℕ × ℕ) → lowest t xs ≡ Some z → t z.0 z.1 ≡ true
lowest_passes t [] z h = cc
lowest_passes t (x ∷ xs) z h = by (lowest_passes t xs) (t x.0 x.1) refl h
  where
    by : ((w : ℕ × ℕ) → lowest t xs ≡ Some w → t w.0 w.1 ≡ true) → (b : Bool) → t x.0 x.1 ≡ b → ◌≡◌ {A = Option (ℕ × ℕ)} (elim b [ true ↦ lower x (lowest t xs) | false ↦ lowest t xs ]) (Some z) → t z.0 z.1 ≡ true
    by ih true e k = lower_passes t x (lowest t xs) z e ih k
    by ih false e k = ih z k

-- how a place changes the lock of a frame: not at all; it gives it up, takes it for a migration entry, or for a frame
-- that no place names any more
pub data LockMove (place : ℕ → ℕ → Place) (lock : Frame → Option ℕ) (a p v : ℕ) (x : Place) (f : Frame) (l : Option ℕ) : Type 0 where
  Stays : (same : l ≡ lock f) → (used : names (place p v) ≡ Some f → lock f ≡ None → IsNamed (with_place place p v x) f) → (frozen : moving_frame x ≡ Some f → is_some (lock f) ≡ true) → LockMove place lock a p v x f l
  Settles : (n : ℕ) → (w : Bool) → (is : x ≡ Place.Sys n w) → (frame : f ≡ sys_frame n) → (old : is_moving (place p v) ≡ false) → (was : lock f ≡ Some a) → (now : l ≡ None) → LockMove place lock a p v x f l
  Freezes : (is : moving_frame x ≡ Some f) → (was : lock f ≡ None) → (now : l ≡ Some a) → LockMove place lock a p v x f l
  Leaves : (is : names (place p v) ≡ Some f) → (was : lock f ≡ None) → (unnamed : Unnamed (with_place place p v x) f) → (now : l ≡ Some a) → LockMove place lock a p v x f l

-- first the new place
pub data PlacedMove (lock : Frame → Option ℕ) (old : Place) (a : ℕ) (x : Place) (f : Frame) (l : Option ℕ) : Type 0 where
  Same : (same : l ≡ lock f) → (frozen : moving_frame x ≡ Some f → is_some (lock f) ≡ true) → PlacedMove lock old a x f l
  Unlocks : (n : ℕ) → (w : Bool) → (is : x ≡ Place.Sys n w) → (frame : f ≡ sys_frame n) → (before : is_moving old ≡ false) → (was : lock f ≡ Some a) → (now : l ≡ None) → PlacedMove lock old a x f l
  Locks_it : (is : moving_frame x ≡ Some f) → (was : lock f ≡ None) → (now : l ≡ Some a) → PlacedMove lock old a x f l

locker_is : (x : Option ℕ) (a : ℕ) → is_locker x a ≡ true → x ≡ Some a
locker_is None a h = cc
locker_is (Some b) a h = grind (arith, nat_tests)

settle_move : (l : Locks) (old : Place) (a n : ℕ) (w : Bool) (f : Frame) → is_moving old ≡ false → PlacedMove l.frame old a (Place.Sys n w) f ((if is_locker (l.frame (sys_frame n)) a then with_frame l.frame (sys_frame n) None else l.frame) f)
settle_move l old a n w f m = by (is_locker (l.frame (sys_frame n)) a) refl (frame_tells f (sys_frame n))
  where
    by : (b : Bool) → is_locker (l.frame (sys_frame n)) a ≡ b → ((same_frame f (sys_frame n) ≡ true) × (f ≡ sys_frame n)) ⊎ ((same_frame f (sys_frame n) ≡ false) × (f ≢ sys_frame n)) →
        PlacedMove l.frame old a (Place.Sys n w) f ((if b then with_frame l.frame (sys_frame n) None else l.frame) f)
    by false e k = Same refl (λ h. cc)
    by true e (inl k) = Unlocks n w refl k.1 m (ap l.frame k.1 ∙ locker_is (l.frame (sys_frame n)) a e) (rw k.0 refl)
    by true e (inr k) = Same (rw k.0 refl) (λ h. cc)

freeze_move : (l : Locks) (old : Place) (a : ℕ) (g : Frame) (w : Bool) (f : Frame) → PlacedMove l.frame old a (Place.Moving g w) f ((if is_none (l.frame g) then with_frame l.frame g (Some a) else l.frame) f)
freeze_move l old a g w f = by (l.frame g) refl (frame_tells f g)
  where
    same : Some g ≡ Some f → f ≡ g
    same k = cc

    by : (x : Option ℕ) → l.frame g ≡ x → ((same_frame f g ≡ true) × (f ≡ g)) ⊎ ((same_frame f g ≡ false) × (f ≢ g)) → PlacedMove l.frame old a (Place.Moving g w) f ((if is_none x then with_frame l.frame g (Some a) else l.frame) f)
    by None e (inl k) = Locks_it (ap Some (sym k.1)) (ap l.frame k.1 ∙ e) (rw k.0 refl)
    by None e (inr k) = Same (rw k.0 refl) (λ h. absurd (k.1 (same h)))
    by (Some b) e k = Same refl (λ h. ap (λ i. is_some (l.frame i)) (same h) ∙ ap is_some e)

pub placed_move : (l : Locks) (old : Place) (a : ℕ) (x : Place) (f : Frame) → PlacedMove l.frame old a x f (frame_placed l old a x f)
placed_move l (Place.Moving g y) a (Place.Sys n w) f = Same refl (λ h. cc)
placed_move l Place.Empty a (Place.Sys n w) f = settle_move l Place.Empty a n w f refl
placed_move l Place.Zero a (Place.Sys n w) f = settle_move l Place.Zero a n w f refl
placed_move l (Place.Sys m y) a (Place.Sys n w) f = settle_move l (Place.Sys m y) a n w f refl
placed_move l (Place.Own d m y) a (Place.Sys n w) f = settle_move l (Place.Own d m y) a n w f refl
placed_move l (Place.Exclusive m b) a (Place.Sys n w) f = settle_move l (Place.Exclusive m b) a n w f refl
placed_move l Place.Empty a (Place.Moving g w) f = freeze_move l Place.Empty a g w f
placed_move l Place.Zero a (Place.Moving g w) f = freeze_move l Place.Zero a g w f
placed_move l (Place.Sys m y) a (Place.Moving g w) f = freeze_move l (Place.Sys m y) a g w f
placed_move l (Place.Own d m y) a (Place.Moving g w) f = freeze_move l (Place.Own d m y) a g w f
placed_move l (Place.Exclusive m b) a (Place.Moving g w) f = freeze_move l (Place.Exclusive m b) a g w f
placed_move l (Place.Moving h y) a (Place.Moving g w) f = freeze_move l (Place.Moving h y) a g w f
placed_move l Place.Empty a x f = Same refl (λ h. cc)
placed_move l Place.Zero a x f = Same refl (λ h. cc)
placed_move l (Place.Sys m y) a x f = Same refl (λ h. cc)
placed_move l (Place.Own d m y) a x f = Same refl (λ h. cc)
placed_move l (Place.Exclusive m b) a x f = Same refl (λ h. cc)
placed_move l (Place.Moving h y) a x f = Same refl (λ h. cc)

-- and then what the old place left
pub data LeftMove (lock : Frame → Option ℕ) (after : Places) (y : Option Frame) (f : Frame) (o : Option Frame) : Type 0 where
  Left : (is : o ≡ Some f) → (named : y ≡ Some f) → (was : lock f ≡ None) → (none : lowest_named after f ≡ None) → LeftMove lock after y f o
  Kept : (is : (o ≡ Some f) → ⊥) → (used : y ≡ Some f → lock f ≡ None → lowest_named after f ≡ None → ⊥) → LeftMove lock after y f o

pub left_move : (l : Locks) (after : Places) (y : Option Frame) (f : Frame) → LeftMove l.frame after y f (left_behind l after y)
left_move l after None f = Kept (λ e. cc) (λ e. cc)
left_move l after (Some g) f = by (l.frame g) refl (lowest_named after g) refl (frame_tells g f)
  where
    same : Some g ≡ Some f → g ≡ f
    same k = cc

    by : (x : Option ℕ) → l.frame g ≡ x → (z : Option (ℕ × ℕ)) → lowest_named after g ≡ z → ((same_frame g f ≡ true) × (g ≡ f)) ⊎ ((same_frame g f ≡ false) × (g ≢ f)) →
        LeftMove l.frame after (Some g) f (if is_none x && is_none z then Some g else None)
    by None ex None ez (inl k) = Left (ap Some k.1) (ap Some k.1) (ap l.frame (sym k.1) ∙ ex) (ap (lowest_named after) (sym k.1) ∙ ez)
    by None ex None ez (inr k) = Kept (λ e. k.1 (same e)) (λ e i j. k.1 (same e))
    by None ex (Some w) ez k = Kept (λ e. cc) (λ e i j. clash w (sym ez ∙ ap (lowest_named after) (same e) ∙ j))
      where
        clash : (w : ℕ × ℕ) → Some w ≡ None → ⊥
        clash w h = cc
    by (Some b) ex z ez k = Kept (λ e. cc) (λ e i j. clash b (sym ex ∙ ap l.frame (same e) ∙ i))
      where
        clash : (b : ℕ) → Some b ≡ None → ⊥
        clash b h = cc
