-- A list that is changed item by item.
use Rattle.std.proofs.Common.{refl, ap, sym, ◌∙◌, arith, ◌<◌, get_or, set, length, suc, zero}
use Rattle.std.proofs.lemmas.List.Sums.{sum_by-cons}
use Rattle.std.proofs.lemmas.List.{map-append, reverse-append}
pub use Rattle.hm_verdicts.specs.Settled.{mapped_to}
use Rattle.std.specs.Prelude.{◌≡◌, ℕ, ◌+◌, ◌≤◌, List, [], ◌∷◌, ◌++◌, map, reverse, Bool, count_by, if◌then◌else◌}

mapped_next : {X : Type 0} → (f : X → X) (n : ℕ) (xs : List X) (d y : X) → n < length xs
    → y ≡ f (get_or (mapped_to f n xs) n d)
    → set (mapped_to f n xs) n y ≡ mapped_to f (suc n) xs
mapped_next f n [] d y l e = absurd (omega (arith, l))
mapped_next f zero (x ∷ xs) d y l e = ap (λ z. z ∷ xs) e
mapped_next f (suc n) (x ∷ xs) d y l e = ap (λ zs. f x ∷ zs) (mapped_next f n xs d y (omega (arith, l)) e)

-- one more is
pub mapped_more : {X : Type 0} → (f : X → X) (n : ℕ) (xs : List X) (d y : X) → n < length xs
    → y ≡ f (get_or (mapped_to f n xs) n d)
    → set (mapped_to f n xs) n y ≡ mapped_to f (n + 1) xs
mapped_more f n xs d y l e = let more : suc n ≡ n + 1 = omega arith in
    mapped_next f n xs d y l e ∙ ap (λ k. mapped_to f k xs) more

-- all are
pub mapped_all : {X : Type 0} → (f : X → X) (xs : List X) → mapped_to f (length xs) xs ≡ map f xs
mapped_all f [] = refl
mapped_all f (x ∷ xs) = ap (λ zs. f x ∷ zs) (mapped_all f xs)

-- so they are by more
pub mapped_past : {X : Type 0} → (f : X → X) (n : ℕ) (xs : List X) → length xs ≤ n → mapped_to f n xs ≡ map f xs
mapped_past f zero [] l = refl
mapped_past f zero (x ∷ xs) l = absurd (omega (arith, l))
mapped_past f (suc n) [] l = refl
mapped_past f (suc n) (x ∷ xs) l = ap (λ zs. f x ∷ zs) (mapped_past f n xs (omega (arith, l)))

-- there are as many
pub mapped_length : {X : Type 0} → (f : X → X) (n : ℕ) (xs : List X) → length (mapped_to f n xs) ≡ length xs
mapped_length f zero xs = refl
mapped_length f (suc n) [] = refl
mapped_length f (suc n) (x ∷ xs) = ap suc (mapped_length f n xs)

-- in either order
pub map_reversed : {X : Type 0} → (f : X → X) (xs : List X) → reverse (map f xs) ≡ map f (reverse xs)
map_reversed f [] = refl
map_reversed f (x ∷ xs) = reverse-append (f x ∷ []) (map f xs) ∙ (ap (λ ys. ys ++ f x ∷ []) (map_reversed f xs)
    ∙ (sym (map-append f (reverse xs) (x ∷ [])) ∙ ap (map f) (sym (reverse-append (x ∷ []) xs))))

-- a test that the change leaves is passed as often
pub counted_same : {X : Type 0} → (p : X → Bool) (f : X → X) → ((x : X) → p (f x) ≡ p x) → (n : ℕ) (xs : List X)
    → count_by p (mapped_to f n xs) ≡ count_by p xs
counted_same p f h zero xs = refl
counted_same p f h (suc n) [] = refl
counted_same p f h (suc n) (x ∷ xs) = sum_by-cons (λ x. if p x then 1 else 0) (f x) (mapped_to f n xs)
    ∙ (ap (λ b. (if b then 1 else 0) + count_by p (mapped_to f n xs)) (h x)
    ∙ (ap (λ k. (if p x then 1 else 0) + k) (counted_same p f h n xs)
    ∙ sym (sum_by-cons (λ x. if p x then 1 else 0) x xs)))
