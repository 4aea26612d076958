-- The pages that were placed, in a list.
use Rattle.std.proofs.Common.{◌≡◌, ℕ, ◌+◌, Bool, List, [], ◌∷◌, map, refl, sym, ap, ◌∙◌, count_by, cond, fold}
use Rattle.std.specs.Prelude.{◌||◌}
use Rattle.std.specs.List.{list_any}
use Rattle.hm_history.specs.Memory.Places.{is_page}
use Rattle.hm_flaw_states.specs.Placed.{page_in, pages_in}
use Rattle.hm_flaw_states.specs.declared.placed.PlacedPage.{PlacedPage}

pub any_mapped : (p v : ℕ) (xs : List PlacedPage) → list_any (λ x. is_page p v (page_in x)) xs ≡ list_any (is_page p v) (pages_in xs)
any_mapped p v [] = refl
any_mapped p v (x ∷ xs) = ap (λ b. is_page p v (page_in x) || b) (any_mapped p v xs)

counted : (T : ℕ × ℕ → Bool) (n : ℕ) (xs : List PlacedPage) → fold (λ a x. a + cond (T (page_in x)) 1 0) n xs ≡ fold (λ a y. a + cond (T y) 1 0) n (pages_in xs)
counted T n [] = refl
counted T n (x ∷ xs) = counted T (n + cond (T (page_in x)) 1 0) xs

pub count_mapped : (T : ℕ → ℕ → Bool) (xs : List PlacedPage) → count_by (λ (x : PlacedPage). T x.proc x.page) xs ≡ count_by (λ (y : ℕ × ℕ). T y.0 y.1) (pages_in xs)
count_mapped T xs = counted (λ (y : ℕ × ℕ). T y.0 y.1) 0 xs

-- the same pages by their pairs
abbrev page_back : ℕ × ℕ → PlacedPage
page_back x = record { proc = x.0; page = x.1 }

pages_back : (xs : List PlacedPage) → map page_back (pages_in xs) ≡ xs
pages_back [] = refl
pages_back (x ∷ xs) = ap (λ ys. x ∷ ys) (pages_back xs)

pub pages_same : (xs ys : List PlacedPage) → pages_in xs ≡ pages_in ys → xs ≡ ys
pages_same xs ys e = sym (pages_back xs) ∙ (ap (map page_back) e ∙ pages_back ys)
