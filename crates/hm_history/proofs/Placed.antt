-- Pages that were placed.
use Rattle.std.proofs.Common.{◌≡◌, ℕ, ◌+◌, ◌⊎◌, Bool, true, cond, List, ◌∷◌, ap, ◌∙◌, arith}
use Rattle.std.specs.Prelude.{count_by}
use Rattle.std.proofs.lemmas.List.Sums.{sum_by-cons}
use Rattle.std.specs.List.{list_any}
use Rattle.std.proofs.lemmas.Bool.Decides.{nat_tests}
use Rattle.hm_history.specs.Memory.Places.{is_page, with_page}

pub is_page_true : (p v : ℕ) (x : ℕ × ℕ) → is_page p v x ≡ true → x ≡ (p, v)
is_page_true p v x h = grind (arith, nat_tests)

pub listed_more : (p v q u : ℕ) (xs : List (ℕ × ℕ)) →
    ((is_page p v (q, u) ≡ true) ⊎ (list_any (is_page q u) xs ≡ true)) → list_any (is_page q u) (with_page p v xs) ≡ true
listed_more p v q u xs h = grind (arith, nat_tests)

-- how many pass a test, with one pair more
pub count_cons : (t : ℕ × ℕ → Bool) (x : ℕ × ℕ) (xs : List (ℕ × ℕ)) → count_by t (x ∷ xs) ≡ cond (t x) 1 0 + count_by t xs
count_cons t x xs = sum_by-cons (λ y. cond (t y) 1 0) x xs

pub counted : (t : ℕ × ℕ → Bool) (x : ℕ × ℕ) (xs : List (ℕ × ℕ)) → t x ≡ true → count_by t (x ∷ xs) ≡ 1 + count_by t xs
counted t x xs e = count_cons t x xs ∙ ap (λ b. cond b 1 0 + count_by t xs) e
