-- What is asked of the items that pass a test.
use Rattle.std.proofs.Common.{refl, ap}
use Rattle.std.specs.Prelude.{◌≡◌, Bool, true, false, not, ◌&&◌, ◌||◌, if◌then◌else◌, List, [], ◌∷◌, filter}
use Rattle.std.specs.List.{list_any, list_all}
use Rattle.hm_protocol.specs.Words.{is_empty}

-- there are some
pub some_pass : {X : Type 0} → (p : X → Bool) (xs : List X) → not (is_empty (filter p xs)) ≡ list_any p xs
some_pass p [] = refl
some_pass {X} p (x ∷ xs) = by_bool (p x) (some_pass p xs)
  where
    by_bool : (b : Bool) → not (is_empty (filter p xs)) ≡ list_any p xs
        → not (is_empty (if b then x ∷ filter p xs else filter p xs)) ≡ (b || list_any p xs)
    by_bool true h = refl
    by_bool false h = h

-- one of them passes another
pub any_of : {X : Type 0} → (p q : X → Bool) (xs : List X) → list_any q (filter p xs) ≡ list_any (λ x. p x && q x) xs
any_of p q [] = refl
any_of {X} p q (x ∷ xs) = by_bool (p x) (any_of p q xs)
  where
    by_bool : (b : Bool) → list_any q (filter p xs) ≡ list_any (λ x. p x && q x) xs
        → list_any q (if b then x ∷ filter p xs else filter p xs) ≡ ((b && q x) || list_any (λ x. p x && q x) xs)
    by_bool true h = ap (λ b. q x || b) h
    by_bool false h = h

-- all of them do
pub all_of : {X : Type 0} → (p q : X → Bool) (xs : List X) → list_all q (filter p xs) ≡ list_all (λ x. not (p x) || q x) xs
all_of p q [] = refl
all_of {X} p q (x ∷ xs) = by_bool (p x) (all_of p q xs)
  where
    by_bool : (b : Bool) → list_all q (filter p xs) ≡ list_all (λ x. not (p x) || q x) xs
        → list_all q (if b then x ∷ filter p xs else filter p xs) ≡ ((not b || q x) && list_all (λ x. not (p x) || q x) xs)
    by_bool true h = ap (λ b. q x && b) h
    by_bool false h = h
