-- Updates of functions and of lists.
use Rattle.std.proofs.Common.{◌≡◌, ℕ, ◌<◌, ◌⊎◌, inl, inr, Option, Some, List, length, slice_set, slice_index_or, sym, ap, ◌∙◌, subst, arith}
use Rattle.std.proofs.lemmas.Bool.{cases_eq}
use Rattle.std.proofs.lemmas.Bool.Decides.{nat_tests}
use Rattle.std.proofs.lemmas.Grind.{elements, common_steps}
use Rattle.hm_history.specs.Memory.Words.{with_at}

pub other_at : {X : Type 0} (f : ℕ → X) (m k : ℕ) (x : X) → (k ≡ m → ⊥) → with_at f m x k ≡ f k
other_at f m k x ne = grind (arith, nat_tests)

pub here_at : {X : Type 0} (f : ℕ → X) (m : ℕ) (x : X) → with_at f m x m ≡ x
here_at f m x = grind (arith, nat_tests)

-- a value after an update
pub at_cases : {X : Type 0} (f : ℕ → Option X) (m k : ℕ) (z : Option X) (y : X) → with_at f m z k ≡ Some y →
    ((k ≡ m) × (z ≡ Some y)) ⊎ ((k ≡ m → ⊥) × (f k ≡ Some y))
at_cases f m k z y h = by (cases_eq k m)
  where
    by : (k ≡ m) ⊎ (k ≡ m → ⊥) → ((k ≡ m) × (z ≡ Some y)) ⊎ ((k ≡ m → ⊥) × (f k ≡ Some y))
    by (inl e) = inl (e, sym (here_at f m z) ∙ ap (with_at f m z) (sym e) ∙ h)
    by (inr ne) = inr (ne, sym (other_at f m k z ne) ∙ h)

-- a statement at an update
pub with_case : {X : Type 0} (P : ℕ → X → Type 0) (f : ℕ → X) (m : ℕ) (x : X) (k : ℕ) → (k ≡ m → P m x) →
    ((k ≡ m → ⊥) → P k (f k)) → P k (with_at f m x k)
with_case P f m x k h g = by (cases_eq k m)
  where
    by : (k ≡ m) ⊎ (k ≡ m → ⊥) → P k (with_at f m x k)
    by (inl e) = subst (λ j. P j (with_at f m x j)) (sym e) (subst (P m) (sym (here_at f m x)) (h e))
    by (inr ne) = subst (P k) (sym (other_at f m k x ne)) (g ne)

-- one write of a list is one write of what it shows
pub at_set : {X : Type 0} (g : ℕ → X) (xs : List X) (a : ℕ) (x d : X) (b : ℕ) → b < length xs →
    slice_index_or xs b d ≡ g b → slice_index_or (slice_set xs a x) b d ≡ with_at g a x b
at_set g xs a x d b l e = grind (arith, nat_tests, elements)

pub len_set : {X : Type 0} (xs : List X) (a : ℕ) (x : X) (n : ℕ) → length xs ≡ n → length (slice_set xs a x) ≡ n
len_set xs a x n e = grind (arith, common_steps)
