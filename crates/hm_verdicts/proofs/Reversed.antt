-- Lists that are kept the oldest first, and read the newest first.
use Rattle.std.proofs.Common.{refl, sym, ap, ◌∙◌}
use Rattle.std.proofs.lemmas.List.{reverse-append}
use Rattle.std.proofs.lemmas.List.Folds.{list_any-append}
use Rattle.std.proofs.lemmas.List.Sorted.{sum_by-IsPermutation, IsPermutation-reverse}
use Rattle.std.specs.Prelude.{◌≡◌, Bool, true, false, ◌||◌, if◌then◌else◌, List, [], ◌∷◌, ◌++◌, reverse, filter, count_by}
use Rattle.std.specs.List.{list_any}

-- the first comes last
pub reverse_cons : {X : Type 0} → (x : X) (xs : List X) → reverse (x ∷ xs) ≡ reverse xs ++ x ∷ []
reverse_cons x xs = reverse-append (x ∷ []) xs

last_or : (b d : Bool) → (d || (b || false)) ≡ (b || d)
last_or true true = refl
last_or true false = refl
last_or false true = refl
last_or false false = refl

-- some item passes
pub any_reversed : {X : Type 0} (p : X → Bool) → (xs : List X) → list_any p (reverse xs) ≡ list_any p xs
any_reversed p [] = refl
any_reversed p (x ∷ xs) = ap (list_any p) (reverse_cons x xs) ∙ (list_any-append p (reverse xs) (x ∷ [])
    ∙ (ap (λ b. b || (p x || false)) (any_reversed p xs) ∙ last_or (p x) (list_any p xs)))

drop_last : {X : Type 0} (p : X → Bool) → (x : X) (b : Bool) → p x ≡ b → (ys : List X)
    → filter p (ys ++ x ∷ []) ≡ (if b then filter p ys ++ x ∷ [] else filter p ys)
drop_last p x true e [] = ap (λ b. if b then x ∷ [] else []) e
drop_last p x false e [] = ap (λ b. if b then x ∷ [] else []) e
drop_last p x true e (y ∷ ys) = ap (λ zs. if p y then y ∷ zs else zs) (drop_last p x true e ys) ∙ by_bool (p y)
  where
    by_bool : (b : Bool) → (if b then y ∷ (filter p ys ++ x ∷ []) else filter p ys ++ x ∷ []) ≡ (if b then y ∷ filter p ys else filter p ys) ++ x ∷ []
    by_bool true = refl
    by_bool false = refl
drop_last p x false e (y ∷ ys) = ap (λ zs. if p y then y ∷ zs else zs) (drop_last p x false e ys)

push_passed : {X : Type 0} (p : X → Bool) → (x : X) (xs : List X) (b : Bool) → p x ≡ b → filter p (reverse xs) ≡ reverse (filter p xs)
    → filter p (reverse xs ++ x ∷ []) ≡ reverse (if p x then x ∷ filter p xs else filter p xs)
push_passed p x xs true e h = drop_last p x true e (reverse xs) ∙ (ap (λ ys. ys ++ x ∷ []) h
    ∙ (sym (reverse_cons x (filter p xs)) ∙ ap (λ b. reverse (if b then x ∷ filter p xs else filter p xs)) (sym e)))
push_passed p x xs false e h = drop_last p x false e (reverse xs) ∙ (h
    ∙ ap (λ b. reverse (if b then x ∷ filter p xs else filter p xs)) (sym e))

-- those that pass
pub filter_reversed : {X : Type 0} (p : X → Bool) → (xs : List X) → filter p (reverse xs) ≡ reverse (filter p xs)
filter_reversed p [] = refl
filter_reversed p (x ∷ xs) = ap (filter p) (reverse_cons x xs) ∙ push_passed p x xs (p x) refl (filter_reversed p xs)

-- how many pass
pub count_reversed : {X : Type 0} (p : X → Bool) → (xs : List X) → count_by p (reverse xs) ≡ count_by p xs
count_reversed p xs = sum_by-IsPermutation (λ x. if p x then 1 else 0) xs (reverse xs) (IsPermutation-reverse xs)
