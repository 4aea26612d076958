-- The least number that passes a test: if there is none, that it is none of those before, and a search that goes on.
use Rattle.std.proofs.Common.{◌≡◌, ℕ, zero, suc, ◌+◌, ◌-◌, ◌<◌, ◌≤◌, Bool, true, false, Option, Some, None, refl, ap, ◌∙◌, arith}
use Rattle.hm_history.specs.Memory.Words.{least}

-- none passes
pub none_least : (t : ℕ → Bool) → ((k : ℕ) → t k ≡ false) → (from n : ℕ) → least t from n ≡ None
none_least t h from zero = refl
none_least t h from (suc n) = rw (h from, least) (none_least t h (from + 1) n)

-- none of these numbers passes
pub none_from : (t : ℕ → Bool) (from n : ℕ) → ((k : ℕ) → from ≤ k → k < from + n → t k ≡ false) → least t from n ≡ None
none_from t from zero h = refl
none_from t from (suc n) h = rw (h from (omega arith) (omega arith), least) (none_from t (from + 1) n (λ k a b. h k (omega arith) (omega arith)))

-- it is at least the first
pub at_least : (t : ℕ → Bool) (from n k : ℕ) → least t from n ≡ Some k → from ≤ k
at_least t from zero k h = cc
at_least t from (suc n) k h = by (t from) h (at_least t (from + 1) n k)
  where
    some : {A : Type 0} (x y : A) → Some x ≡ Some y → x ≡ y
    some x y e = cc

    by : (b : Bool) → ◌≡◌ {A = Option ℕ} (elim b [ true ↦ Some from | false ↦ least t (from + 1) n ]) (Some k) → (least t (from + 1) n ≡ Some k → from + 1 ≤ k) → from ≤ k
    by true e ih = omega (arith, some from k e)
    by false e ih = omega (arith, ih e)

-- a search goes on after one that fails
pub searched_on : (t : ℕ → Bool) (from size : ℕ) → from < size → t from ≡ false → least t from (size - from) ≡ least t (from + 1) (size - (from + 1))
searched_on t from size l e =
    let s : size - from ≡ suc (size - (from + 1)) = omega (arith, l) in
    ap (least t from) s ∙ ap (λ (b : Bool). elim b as (λ x. Option ℕ) [ true ↦ Some from | false ↦ least t (from + 1) (size - (from + 1)) ]) e
