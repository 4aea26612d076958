-- What the searches of the definitions find.
use Rattle.std.proofs.Common.{◌≡◌, ℕ, zero, suc, ◌+◌, ◌<◌, ◌≤◌, Bool, true, false, ◌||◌, Option, Some, None, List, [], ◌∷◌, refl, ◌∙◌, arith}
use Rattle.std.specs.List.{list_any, list_all}
use Rattle.std.proofs.lemmas.Bool.Decides.{nat_tests}
use Rattle.hm_history.specs.Memory.Words.{least}
use Rattle.hm_history.specs.Memory.Places.{is_page, lowest, lower}

pub all_pass : {X : Type 0} → (t : X → Bool) → ((x : X) → t x ≡ true) → (xs : List X) → list_all t xs ≡ true
all_pass t h [] = refl
all_pass t h (x ∷ xs) = rw (h x) (all_pass t h xs)

pub lowest_none : (t : ℕ → ℕ → Bool) (xs : List (ℕ × ℕ)) (p v : ℕ) → lowest t xs ≡ None → list_any (is_page p v) xs ≡ true → t p v ≡ false
lowest_none t [] p v h l = cc
lowest_none t (x ∷ xs) p v h l = by (lowest_none t xs p v) (t x.0 x.1) refl (lowest t xs) refl h
  where
    by : (lowest t xs ≡ None → list_any (is_page p v) xs ≡ true → t p v ≡ false) → (b : Bool) → t x.0 x.1 ≡ b → (y : Option (ℕ × ℕ)) → lowest t xs ≡ y → ◌≡◌ {A = Option (ℕ × ℕ)} (elim b [ true ↦ lower x y | false ↦ y ]) None → t p v ≡ false
    by ih true e None ey h = cc
    by ih true e (Some y) ey h = grind arith
    by ih false e y ey h = here (is_page p v x) refl l
      where
        here : (b : Bool) → is_page p v x ≡ b → (b || list_any (is_page p v) xs) ≡ true → t p v ≡ false
        here true ex k = grind (arith, nat_tests)
        here false ex k = ih (ey ∙ h) k

-- the least number that passes
pub least_none : (t : ℕ → Bool) (from n j : ℕ) → least t from n ≡ None → from ≤ j → j < from + n → t j ≡ false
least_none t from zero j h l m = absurd (omega arith)
least_none t from (suc n) j h l m = by (least_none t (from + 1) n j) (t from) refl h
  where
    by : (least t (from + 1) n ≡ None → from + 1 ≤ j → j < from + 1 + n → t j ≡ false) → (b : Bool) → t from ≡ b → ◌≡◌ {A = Option ℕ} (elim b [ true ↦ Some from | false ↦ least t (from + 1) n ]) None → t j ≡ false
    by ih true e k = cc
    by ih false e k = grind (arith, nat_tests, ih k)

pub least_some : (t : ℕ → Bool) (from n i : ℕ) → least t from n ≡ Some i → t i ≡ true
least_some t from zero i h = cc
least_some t from (suc n) i h = by (least_some t (from + 1) n i) (t from) refl h
  where
    by : (least t (from + 1) n ≡ Some i → t i ≡ true) → (b : Bool) → t from ≡ b → elim b [ true ↦ Some from | false ↦ least t (from + 1) n ] ≡ Some i → t i ≡ true
    by ih true e k = grind arith
    by ih false e k = ih k

pub least_below : (t : ℕ → Bool) (from n i : ℕ) → least t from n ≡ Some i → i < from + n
least_below t from zero i h = cc
least_below t from (suc n) i h = by (least_below t (from + 1) n i) (t from) h
  where
    by : (least t (from + 1) n ≡ Some i → i < from + 1 + n) → (b : Bool) → elim b [ true ↦ Some from | false ↦ least t (from + 1) n ] ≡ Some i → i < from + suc n
    by ih true k = grind arith
    by ih false k = omega (arith, ih k)
