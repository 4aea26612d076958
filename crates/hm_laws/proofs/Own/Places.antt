-- The locks of an actor's frames after a place of its own.
use Rattle.std.proofs.Common.{◌≡◌, ℕ, ◌⊎◌, inl, inr, Bool, true, false, is_some, Option, Some, None, sym, ap, ◌∙◌, arith}
use Rattle.std.proofs.lemmas.Bool.Decides.{nat_tests}
use Rattle.hm_base.specs.Program.{Program}
use Rattle.hm_base.specs.declared.Frame.{Frame}
use Rattle.hm_base.specs.declared.Place.{Place}
use Rattle.hm_history.specs.Memory.Words.{names, moving_frame}
use Rattle.hm_history.specs.Memory.Places.{with_place}
use Rattle.hm_history.specs.Memory.After.{After}
use Rattle.hm_history.specs.declared.Kind.{Kind}
use Rattle.hm_laws.specs.Stood.{is_moving}
use Rattle.hm_laws.specs.Past.{Past}
use Rattle.hm_laws.specs.Sound.{Sound}
use Rattle.hm_laws.specs.Allowed.{next, Allowed}
use Rattle.hm_laws.proofs.Kept.PlaceLocks.{LockMove, Stays, Settles, Freezes, Leaves}
use Rattle.hm_laws.proofs.Other.Frames.{move_of}
use Rattle.hm_history.proofs.Tests.{some_none, true_false}

-- a place is no end of a lock, where it is a migration entry or comes over one
pub locked_still : (c : Program) (s : After) (t : Past) (a p v : ℕ) (x : Place) → Sound c s t → Allowed c s t a (Kind.Place p v x) → (is_moving x ≡ true) ⊎ (is_moving (s.places.place p v) ≡ true) → (f : Frame) (b : ℕ) → s.locks.frame f ≡ Some b → (next s a (Kind.Place p v x)).locks.frame f ≡ Some b
locked_still c s t a p v x so ok m f b h = by ((next s a (Kind.Place p v x)).locks.frame f) (move_of c s t a p v x so ok f)
  where
    not_settled : (n : ℕ) (w : Bool) → x ≡ Place.Sys n w → is_moving (s.places.place p v) ≡ false → (is_moving x ≡ true) ⊎ (is_moving (s.places.place p v) ≡ true) → ⊥
    not_settled n w i o (inl k) = true_false (is_moving x) k (ap is_moving i)
    not_settled n w i o (inr k) = true_false (is_moving (s.places.place p v)) k o

    by : (l : Option ℕ) → LockMove s.places.place s.locks.frame a p v x f l → l ≡ Some b
    by l (Stays i u z) = i ∙ h
    by l (Settles n w i j o w2 k) = absurd (not_settled n w i o m)
    by l (Freezes i k n) = absurd (some_none (s.locks.frame f) b h k)
    by l (Leaves i k u n) = absurd (some_none (s.locks.frame f) b h k)

-- what the page named is named still, or it was locked
abbrev pub KeepsName : After → ℕ → ℕ → Place → Type 0
KeepsName s p v x = (f : Frame) → names (s.places.place p v) ≡ Some f → (is_some (s.locks.frame f) ≡ true) ⊎ (names x ≡ Some f)

-- then the actor locks no frame but one that it freezes
pub locks_after : (c : Program) (s : After) (t : Past) (a p v : ℕ) (x : Place) → Sound c s t → Allowed c s t a (Kind.Place p v x) → KeepsName s p v x → (f : Frame) → (next s a (Kind.Place p v x)).locks.frame f ≡ Some a → (s.locks.frame f ≡ Some a) ⊎ ((moving_frame x ≡ Some f) × (s.locks.frame f ≡ None))
locks_after c s t a p v x so ok keeps f h = by ((next s a (Kind.Place p v x)).locks.frame f) h (move_of c s t a p v x so ok f)
  where
    here : (s : After) → with_place s.places.place p v x p v ≡ x
    here s = grind (arith, nat_tests)

    named : (is_some (s.locks.frame f) ≡ true) ⊎ (names x ≡ Some f) → s.locks.frame f ≡ None → ((q u : ℕ) → names (with_place s.places.place p v x q u) ≡ Some f → ⊥) → ⊥
    named (inl k) n u = true_false (is_some (s.locks.frame f)) k (ap is_some n)
    named (inr k) n u = u p v (ap names (here s) ∙ k)

    by : (l : Option ℕ) → l ≡ Some a → LockMove s.places.place s.locks.frame a p v x f l → (s.locks.frame f ≡ Some a) ⊎ ((moving_frame x ≡ Some f) × (s.locks.frame f ≡ None))
    by l e (Stays i u z) = inl (sym i ∙ e)
    by l e (Settles n w i j o m k) = absurd (some_none l a e k)
    by l e (Freezes i m k) = inr (i, m)
    by l e (Leaves i m u k) = absurd (named (keeps f i) m u)
