-- Callbacks that are over for good: what they are not asked, and what does not change them.
use Rattle.std.proofs.Common.{refl, ap, sym, subst, ◌∙◌, arith, ◌<◌, get_or, length, suc, zero, drop}
use Rattle.std.proofs.lemmas.List.Sums.{sum_by-cons}
use Rattle.std.specs.Prelude.{◌≡◌, ℕ, ◌+◌, List, [], ◌∷◌, ◌++◌, map}
use Rattle.std.specs.Prelude.{filter, find, Bool, true, false, ◌||◌, ◌&&◌, count_by, cond}
use Rattle.std.specs.Prelude.{if◌then◌else◌, Some}
use Rattle.std.specs.List.{list_any, list_all}
use Rattle.hm_verdicts.specs.Settled.{First, mapped_to}

-- ---- the first items of a list

pub first_weaker : {X : Type 0} → (P Q : X → Type 0) → ((x : X) → P x → Q x) → (n : ℕ) (xs : List X) → First P n xs
    → First Q n xs
first_weaker P Q h zero xs s = tt
first_weaker P Q h (suc n) [] s = absurd s
first_weaker P Q h (suc n) (x ∷ xs) s = (h x s.0, first_weaker P Q h n xs s.1)

-- a change leaves them
pub first_fixed : {X : Type 0} → (f : X → X) (n : ℕ) (xs : List X) → First (λ x. f x ≡ x) n xs → mapped_to f n xs ≡ xs
first_fixed f zero xs s = refl
first_fixed f (suc n) [] s = absurd s
first_fixed f (suc n) (x ∷ xs) s = ap (λ z. z ∷ mapped_to f n xs) s.0 ∙ ap (λ zs. x ∷ zs) (first_fixed f n xs s.1)

-- what is so of them is so after a change that keeps it
pub first_mapped : {X : Type 0} → (P : X → Type 0) (f : X → X) → ((x : X) → P x → P (f x)) → (n : ℕ) (xs : List X)
    → First P n xs → First P n (map f xs)
first_mapped P f h zero xs s = tt
first_mapped P f h (suc n) [] s = absurd s
first_mapped P f h (suc n) (x ∷ xs) s = (h x s.0, first_mapped P f h n xs s.1)

-- so it is if it leaves each of them
pub first_kept : {X : Type 0} → (P : X → Type 0) (f : X → X) (n : ℕ) (xs : List X) → First P n xs
    → First (λ x. f x ≡ x) n xs
    → First P n (map f xs)
first_kept P f zero xs s e = tt
first_kept P f (suc n) [] s e = absurd s
first_kept P f (suc n) (x ∷ xs) s e = (subst P (sym e.0) s.0, first_kept P f n xs s.1 e.1)

pub first_mapped_to : {X : Type 0} → (P : X → Type 0) (f : X → X) → ((x : X) → P x → P (f x)) → (k n : ℕ) (xs : List X)
    → First P n xs → First P n (mapped_to f k xs)
first_mapped_to P f h zero n xs s = s
first_mapped_to P f h (suc k) zero xs s = tt
first_mapped_to P f h (suc k) (suc n) [] s = absurd s
first_mapped_to P f h (suc k) (suc n) (x ∷ xs) s = (h x s.0, first_mapped_to P f h k n xs s.1)

-- after one more at the end
pub first_pushed : {X : Type 0} → (P : X → Type 0) (n : ℕ) (xs ys : List X) → First P n xs → First P n (xs ++ ys)
first_pushed P zero xs ys s = tt
first_pushed P (suc n) [] ys s = absurd s
first_pushed P (suc n) (x ∷ xs) ys s = (s.0, first_pushed P n xs ys s.1)

-- without some that are not among them
pub first_filtered : {X : Type 0} → (P : X → Type 0) (p : X → Bool) → ((x : X) → P x → p x ≡ true)
    → (n : ℕ) (xs : List X)
    → First P n xs → First P n (filter p xs)
first_filtered P p h zero xs s = tt
first_filtered P p h (suc n) [] s = absurd s
first_filtered P p h (suc n) (x ∷ xs) s = subst (λ b. First P (suc n) (if b then x ∷ filter p xs else filter p xs))
    (sym (h x s.0)) (s.0, first_filtered P p h n xs s.1)

-- one more
pub first_more : {X : Type 0} → (P : X → Type 0) (n : ℕ) (xs : List X) (d : X) → First P n xs → n < length xs
    → P (get_or xs n d)
    → First P (suc n) xs
first_more P n [] d s l p = absurd (omega (arith, l))
first_more P zero (x ∷ xs) d s l p = (p, tt)
first_more P (suc n) (x ∷ xs) d s l p = (s.0, first_more P n xs d s.1 (omega (arith, l)) p)

-- what is not so of them is asked of the others alone
pub first_any : {X : Type 0} → (P : X → Type 0) (q : X → Bool) → ((x : X) → P x → q x ≡ false) → (n : ℕ) (xs : List X)
    → First P n xs → list_any q (drop n xs) ≡ list_any q xs
first_any P q h zero xs s = refl
first_any P q h (suc n) [] s = absurd s
first_any P q h (suc n) (x ∷ xs) s = first_any P q h n xs s.1 ∙ sym (ap (λ b. b || list_any q xs) (h x s.0))

pub first_all : {X : Type 0} → (P : X → Type 0) (q : X → Bool) → ((x : X) → P x → q x ≡ true) → (n : ℕ) (xs : List X)
    → First P n xs → list_all q (drop n xs) ≡ list_all q xs
first_all P q h zero xs s = refl
first_all P q h (suc n) [] s = absurd s
first_all P q h (suc n) (x ∷ xs) s = first_all P q h n xs s.1 ∙ sym (ap (λ b. b && list_all q xs) (h x s.0))

pub first_find : {X : Type 0} → (P : X → Type 0) (q : X → Bool) → ((x : X) → P x → q x ≡ false) → (n : ℕ) (xs : List X)
    → First P n xs → find q (drop n xs) ≡ find q xs
first_find P q h zero xs s = refl
first_find P q h (suc n) [] s = absurd s
first_find P q h (suc n) (x ∷ xs) s = first_find P q h n xs s.1 ∙ sym (ap (λ b. cond b (Some x) (find q xs)) (h x s.0))

pub first_count : {X : Type 0} → (P : X → Type 0) (q : X → Bool) → ((x : X) → P x → q x ≡ false) → (n : ℕ) (xs : List X)
    → First P n xs → count_by q (drop n xs) ≡ count_by q xs
first_count P q h zero xs s = refl
first_count P q h (suc n) [] s = absurd s
first_count P q h (suc n) (x ∷ xs) s = let none : 0 + count_by q xs ≡ count_by q xs = omega arith in
    first_count P q h n xs s.1
    ∙ sym (sum_by-cons (λ x. if q x then 1 else 0) x xs ∙ (ap (λ b. (if b then 1 else 0) + count_by q xs) (h x s.0)
    ∙ none))
