-- The least number that passes a test.
use Rattle.std.proofs.Common.{◌≡◌, ℕ, zero, suc, ◌+◌, ◌<◌, ◌≤◌, Bool, true, false, Some, None, ◌⊎◌, inl, inr, refl, sym, arith}
use Rattle.std.proofs.lemmas.Bool.{cases_eq}
use Rattle.hm_history.specs.Memory.Words.{least}
use Rattle.hm_history.proofs.Least.{none_from}

step_true : (t : ℕ → Bool) (from n : ℕ) (b : Bool) → t from ≡ b → b ≡ true → least t from (suc n) ≡ Some from
step_true t from n true p q = rw (p, least) refl
step_true t from n false p q = cc

step_false : (t : ℕ → Bool) (from n : ℕ) (b : Bool) → t from ≡ b → b ≡ false → least t from (suc n) ≡ least t (from + 1) n
step_false t from n true p q = cc
step_false t from n false p q = rw (p, least) refl

pub least_at : (t : ℕ → Bool) (from n i : ℕ) → from ≤ i → i < from + n → ((k : ℕ) → from ≤ k → k < i → t k ≡ false) → t i ≡ true → least t from n ≡ Some i
least_at t from zero i a b h e = absurd (omega arith)
least_at t from (suc n) i a b h e = by (cases_eq from i) (λ p q. least_at t (from + 1) n i p q (λ k l m. h k (omega arith) m) e)
  where
    by : (from ≡ i) ⊎ (from ≡ i → ⊥) → (from + 1 ≤ i → i < from + 1 + n → least t (from + 1) n ≡ Some i) → least t from (suc n) ≡ Some i
    by (inl p) r = rw (step_true t from n (t from) refl (rw p e)) (rw p refl)
    by (inr p) r = rw (step_false t from n (t from) refl (h from (omega arith) (omega arith))) (r (omega arith) (omega arith))

pub least_found : (t : ℕ → Bool) (n i : ℕ) → i < n → ((k : ℕ) → k < i → t k ≡ false) → t i ≡ true → Some i ≡ least t 0 n
least_found t n i b h e = sym (least_at t 0 n i (omega arith) (omega arith) (λ k l m. h k m) e)

pub least_none : (t : ℕ → Bool) (n : ℕ) → ((k : ℕ) → k < n → t k ≡ false) → None ≡ least t 0 n
least_none t n h = sym (none_from t 0 n (λ k a b. h k (omega arith)))

-- two tests that agree
pub least_same : (t u : ℕ → Bool) (from n : ℕ) → ((k : ℕ) → k < from + n → t k ≡ u k) → least t from n ≡ least u from n
least_same t u from zero h = refl
least_same t u from (suc n) h = by (t from) refl (u from) refl (h from (omega arith)) (least_same t u (from + 1) n (λ k a. h k (omega arith)))
  where
    by : (b : Bool) → t from ≡ b → (d : Bool) → u from ≡ d → t from ≡ u from → least t (from + 1) n ≡ least u (from + 1) n → least t from (suc n) ≡ least u from (suc n)
    by true p true q e r = rw (step_true t from n (t from) refl p, step_true u from n (u from) refl q) refl
    by true p false q e r = cc
    by false p true q e r = cc
    by false p false q e r = rw (step_false t from n (t from) refl p, step_false u from n (u from) refl q) r
