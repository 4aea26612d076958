-- Frames that a removal has passed stay free, or are being emptied.
use Rattle.std.proofs.Common.{◌≡◌, ◌≢◌, ℕ, ◌+◌, ◌<◌, ◌⊎◌, inl, inr, Bool, true, false, ◌==◌, Some, None, refl, sym, ap, ◌∙◌, subst, arith}
use Rattle.std.proofs.lemmas.Bool.Decides.{nat_tests}
use Rattle.std.proofs.lemmas.Bool.{eqb-true}
use Rattle.hm_base.specs.Program.{Program}
use Rattle.hm_base.specs.declared.Frame.{Frame}
use Rattle.hm_base.specs.declared.ops.Op.{Op}
use Rattle.hm_history.specs.Memory.Words.{same_frame, with_frame, dev_frame}
use Rattle.hm_history.specs.Memory.Places.{lowest_free, is_withdrawn}
use Rattle.hm_history.specs.Memory.After.{After}
use Rattle.hm_history.specs.Kernel.Operation.{is_remove}
use Rattle.hm_history.specs.declared.Kind.{Kind}
use Rattle.hm_laws.specs.Past.{Past}
use Rattle.hm_laws.specs.Sound.{Sound}
use Rattle.hm_laws.specs.Allowed.{next, Allowed}
use Rattle.hm_laws.specs.Facts.{Clear, ClearTo, GoneFor, catches_at}
use Rattle.hm_laws.specs.Spares.{Another}
use Rattle.hm_laws.proofs.Kept.Pools.{free_says}
use Rattle.hm_laws.proofs.Other.Frames.{frame_else, frame_here, lock_keeps}
use Rattle.hm_history.proofs.Tests.{true_false}
use Rattle.hm_history.proofs.Frames.{frame_tells, frame_same}

-- a device that is withdrawn gives no frame, and stays so
not_taken : (c : Program) (s : After) (d k : ℕ) (g : Frame) → s.places.withdrawn d ≡ true → lowest_free c s.places g.pool ≡ Some g → dev_frame d k ≡ g → ⊥
not_taken c s d k g w e i = true_false (s.places.withdrawn d) w (sym (ap (λ (j : Frame). is_withdrawn s.places j.pool) (sym i)) ∙ (free_says c s.places g.pool g e).3)

pub gone_on : (s : After) (a : ℕ) (k : Kind) (d : ℕ) → s.places.withdrawn d ≡ true → (next s a k).places.withdrawn d ≡ true
gone_on s a (Kind.Withdrawn e) d h = grind (arith, nat_tests)
gone_on s a k d h = h

pub gone_for : (s : After) (a : ℕ) (k : Kind) (o : Op) → GoneFor s o → GoneFor (next s a k) o
gone_for s a k (Op.Remove d) h = gone_on s a k d h
gone_for s a k o h = tt

still_free : (c : Program) (s : After) (t : Past) (a : ℕ) (k : Kind) → Allowed c s t a k → (d j : ℕ) → s.places.withdrawn d ≡ true → s.places.held (dev_frame d j) ≡ false → (next s a k).places.held (dev_frame d j) ≡ false
still_free c s t a (Kind.Take g) ok d j w h = frame_else s.places.held g (dev_frame d j) true (not_taken c s d j g w ok) ∙ h
still_free c s t a (Kind.Drop g) ok d j w h = grind (arith, frame_tells (dev_frame d j) g)
still_free c s t a k ok d j w h = h

pub clearing_other : (c : Program) (s : After) (t : Past) (a b : ℕ) → Sound c s t → (b ≡ a → ⊥) → (k : Kind) → Allowed c s t a k → (o : Op) (v : ℕ) → ClearTo s b o v → ClearTo (next s a k) b o v
clearing_other c s t a b so ne k ok (Op.Remove d) v h = λ j l. (gone_on s a k d (h j l).0, by j (h j l).0 (h j l).1)
  where
    by : (j : ℕ) → s.places.withdrawn d ≡ true → (s.places.held (dev_frame d j) ≡ false) ⊎ (s.locks.frame (dev_frame d j) ≡ Some b) → ((next s a k).places.held (dev_frame d j) ≡ false) ⊎ ((next s a k).locks.frame (dev_frame d j) ≡ Some b)
    by j w (inl i) = inl (still_free c s t a k ok d j w i)
    by j w (inr i) = inr (lock_keeps c s t a b so k ok (dev_frame d j) (Another ne) i)
clearing_other c s t a b so ne k ok o v h = tt

-- and after the actor's own entries, where none of its frames is done
pub clearing_own : (c : Program) (s : After) (t : Past) (a : ℕ) (k : Kind) → Allowed c s t a k → ((f : Frame) → Clear s a f → (k ≡ Kind.Done f → ⊥) → Clear (next s a k) a f) → (o : Op) → ((d j : ℕ) → k ≡ Kind.Done (dev_frame d j) → is_remove o ≡ false) → (v : ℕ) → ClearTo s a o v → ClearTo (next s a k) a o v
clearing_own c s t a k ok clear (Op.Remove d) done v h = λ j l. (gone_on s a k d (h j l).0, clear (dev_frame d j) (h j l).1 (λ e. true_false true refl (done d j e)))
clearing_own c s t a k ok clear o done v h = tt

pub clear_take : (s : After) (a : ℕ) (g f : Frame) → Clear s a f → Clear (next s a (Kind.Take g)) a f
clear_take s a g f h = by (frame_tells f g) h
  where
    by : ((same_frame f g ≡ true) × (f ≡ g)) ⊎ ((same_frame f g ≡ false) × (f ≢ g)) → (s.places.held f ≡ false) ⊎ (s.locks.frame f ≡ Some a) → (with_frame s.places.held g true f ≡ false) ⊎ (with_frame s.locks.frame g (Some a) f ≡ Some a)
    by (inl e) i = inr (ap (with_frame s.locks.frame g (Some a)) e.1 ∙ frame_here s.locks.frame g (Some a))
    by (inr e) (inl i) = inl (frame_else s.places.held g f true e.1 ∙ i)
    by (inr e) (inr i) = inr (frame_else s.locks.frame g f (Some a) e.1 ∙ i)

pub clear_drop : (s : After) (a : ℕ) (g f : Frame) → Clear s a f → Clear (next s a (Kind.Drop g)) a f
clear_drop s a g f h = by (frame_tells f g) h
  where
    by : ((same_frame f g ≡ true) × (f ≡ g)) ⊎ ((same_frame f g ≡ false) × (f ≢ g)) → (s.places.held f ≡ false) ⊎ (s.locks.frame f ≡ Some a) → (with_frame s.places.held g false f ≡ false) ⊎ (with_frame s.locks.frame g None f ≡ Some a)
    by (inl e) i = inl (ap (with_frame s.places.held g false) e.1 ∙ frame_here s.places.held g false)
    by (inr e) (inl i) = inl (frame_else s.places.held g f false e.1 ∙ i)
    by (inr e) (inr i) = inr (frame_else s.locks.frame g f None e.1 ∙ i)

pub clear_done : (s : After) (a : ℕ) (g f : Frame) → Clear s a f → (Kind.Done g ≡ Kind.Done f → ⊥) → Clear (next s a (Kind.Done g)) a f
clear_done s a g f h ne = by (frame_tells f g) h
  where
    by : ((same_frame f g ≡ true) × (f ≡ g)) ⊎ ((same_frame f g ≡ false) × (f ≢ g)) → (s.places.held f ≡ false) ⊎ (s.locks.frame f ≡ Some a) → (s.places.held f ≡ false) ⊎ (with_frame s.locks.frame g None f ≡ Some a)
    by (inl e) i = absurd (ne (ap Kind.Done (sym e.1)))
    by (inr e) (inl i) = inl i
    by (inr e) (inr i) = inr (frame_else s.locks.frame g f None e.1 ∙ i)

-- the frame to which it has come is being emptied
clear_next : (s : After) (a d : ℕ) (f : Frame) (v : ℕ) → s.locks.frame f ≡ Some a → f ≡ dev_frame d v → ((k : ℕ) → k < v → Clear s a (dev_frame d k)) → (j : ℕ) → j < f.number + 1 → Clear s a (dev_frame d j)
clear_next s a d f v m is h j l = by (j == v) refl
  where
    here : (j == v) ≡ true → dev_frame d j ≡ f
    here i = ap (dev_frame d) (eqb-true j v i) ∙ sym is

    before : (j == v) ≡ false → j < v
    before i = less j v i (subst (λ n. j < n + 1) (ap (λ (x : Frame). x.number) is) l)
      where
        less : (j v : ℕ) → (j == v) ≡ false → j < v + 1 → j < v
        less j v i l = grind (arith, nat_tests)

    by : (b : Bool) → (j == v) ≡ b → Clear s a (dev_frame d j)
    by true i = inr (ap s.locks.frame (here i) ∙ m)
    by false i = h j (before i)

pub clear_past : (s : After) (a : ℕ) (o : Op) (f : Frame) (v : ℕ) → s.locks.frame f ≡ Some a → catches_at o f v ≡ true → GoneFor s o → ClearTo s a o v → ClearTo s a o (f.number + 1)
clear_past s a (Op.Remove d) f v m e w h = λ j l. (w, clear_next s a d f v m (frame_same f (dev_frame d v) e) (λ k i. (h k i).1) j l)
clear_past s a o f v m e w h = tt
