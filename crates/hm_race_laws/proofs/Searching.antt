-- The steps of a search keep what it knows.
use Rattle.std.proofs.Common.{ℕ, ◌⊎◌, inl, inr, List, [], ◌∷◌, ◌++◌, refl, sym}
use Rattle.std.proofs.lemmas.Option.{slice_get_within}
use Rattle.std.proofs.Common.{◌≡◌, ◌<◌, zero, suc, Option, Some, None, slice_get, length}
use Rattle.hm_base.specs.Program.{Program}
use Rattle.hm_base.specs.declared.ops.Op.{Op}
use Rattle.hm_history.specs.Kernel.Going.{State}
use Rattle.hm_history.specs.Kernel.Due.{due_in, due_top}
use Rattle.hm_history.specs.declared.Progress.{Progress}
use Rattle.hm_history.specs.declared.phases.Phase.{Phase}
use Rattle.hm_history.specs.declared.Entry.{Entry}
use Rattle.hm_race_laws.specs.Closed.{IsListed, AreDistinct}

pub listed_left : {X : Type 0} (xs ys : List X) (x : X) → IsListed xs x → IsListed (xs ++ ys) x
listed_left [] ys x h = absurd h
listed_left (z ∷ xs) ys x (inl e) = inl e
listed_left (z ∷ xs) ys x (inr h) = inr (listed_left xs ys x h)

pub listed_right : {X : Type 0} (xs ys : List X) (x : X) → IsListed ys x → IsListed (xs ++ ys) x
listed_right [] ys x h = h
listed_right (z ∷ xs) ys x h = inr (listed_right xs ys x h)

pub listed_cases : {X : Type 0} (xs ys : List X) (x : X) → IsListed (xs ++ ys) x → IsListed xs x ⊎ IsListed ys x
listed_cases [] ys x h = inr h
listed_cases (z ∷ xs) ys x (inl e) = inl (inl e)
listed_cases (z ∷ xs) ys x (inr h) = by (listed_cases xs ys x h)
  where
    by : IsListed xs x ⊎ IsListed ys x → IsListed (z ∷ xs) x ⊎ IsListed ys x
    by (inl k) = inl (inr k)
    by (inr k) = inr k

-- one more that is new leaves a list distinct
pub distinct_more : {X : Type 0} (xs : List X) (x : X) → AreDistinct xs → (IsListed xs x → ⊥) → AreDistinct (xs ++ x ∷ [])
distinct_more [] x d new = (λ h. h, tt)
distinct_more (y ∷ xs) x d new = (still, distinct_more xs x d.1 (λ h. new (inr h)))
  where
    still : IsListed (xs ++ x ∷ []) y → ⊥
    still h = by (listed_cases xs (x ∷ []) y h)
      where
        by : IsListed xs y ⊎ IsListed (x ∷ []) y → ⊥
        by (inl k) = d.0 k
        by (inr (inl e)) = new (inl (sym e))
        by (inr (inr k)) = k

-- only the script's actors have anything to do, so a search tries those
empty_list : (i : ℕ) → ◌≡◌ {A = Option Op} (slice_get [] i) None
empty_list zero = refl
empty_list (suc i) = refl

pub is_actor : (c : Program) (u : State) (a : ℕ) (e : Entry) → due_in c u a ≡ Progress.Did e → a < length c.actors
is_actor c u a e d = by (slice_get c.actors a) refl d
  where
    idle : (o : Option Op) (l : List Phase) → o ≡ None → due_top c u.after a o (u.going a).pages l ≡ Progress.Did e → ⊥
    idle None [] n k = cc
    idle None (x ∷ l) n k = cc
    idle (Some o) l n k = cc

    by : (x : Option (List Op)) → slice_get c.actors a ≡ x → due_top c u.after a (slice_get (elim x as (λ y. List Op) [ None ↦ [] | Some os ↦ os ]) (u.going a).index) (u.going a).pages (u.going a).stack ≡ Progress.Did e → a < length c.actors
    by None ex k = absurd (idle (slice_get [] (u.going a).index) (u.going a).stack (empty_list (u.going a).index) k)
    by (Some os) ex k = slice_get_within c.actors a os ex
