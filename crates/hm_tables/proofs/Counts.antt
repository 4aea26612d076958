-- A frame has as many uses as there are listed pages whose place names it.
use Rattle.std.proofs.Common.{◌≡◌, ℕ, suc, ◌+◌, Bool, true, false, not, ◌&&◌, ◌||◌, eqb, cond, Some, None, is_some, List, [], ◌∷◌, length, count_by, refl, sym, ap, ◌∙◌, arith}
use Rattle.std.specs.List.{list_any}
use Rattle.std.proofs.lemmas.Bool.Decides.{nat_tests}
use Rattle.std.proofs.lemmas.List.Sums.{sum_by-cons}
use Rattle.std.proofs.lemmas.Bool.{not-true, and_parts}
use Rattle.rev_maps.specs.declared.uses.Use.{Use}
use Rattle.rev_maps.specs.Uses.{is_rising, without_use}
use Rattle.rev_maps.proofs.Rising.{rising_without}
use Rattle.hm_history.specs.Memory.Places.{is_page}
use Rattle.hm_tables.specs.Values.{mark_by}
use Rattle.hm_tables.specs.Shown.{is_once}
use Rattle.hm_tables.proofs.Marks.{has_is, mark_cons, mark_without, length_without}
use Rattle.hm_tables.proofs.Truths.{page_itself}
use Rattle.hm_history.proofs.Tests.{true_false}

pub turned : (a b p v : ℕ) → (eqb a p && eqb b v) ≡ (eqb p a && eqb v b)
turned a b p v = grind (arith, nat_tests)

count_cons : {X : Type 0} (t : X → Bool) (x : X) (xs : List X) → count_by t (x ∷ xs) ≡ cond (t x) 1 0 + count_by t xs
count_cons t x xs = sum_by-cons (λ y. cond (t y) 1 0) x xs

-- a page less
abbrev but : ℕ → ℕ → (ℕ → ℕ → Bool) → ℕ → ℕ → Bool
but p v t q u = cond (eqb q p && eqb u v) false (t q u)

count_but : (p v : ℕ) (t : ℕ → ℕ → Bool) (xs : List (ℕ × ℕ)) → list_any (is_page p v) xs ≡ false → count_by (λ x. but p v t x.0 x.1) xs ≡ count_by (λ x. t x.0 x.1) xs
count_but p v t [] h = refl
count_but p v t (x ∷ xs) h =
    count_cons (λ y. but p v t y.0 y.1) x xs ∙ by (is_page p v x) refl h (count_but p v t xs) ∙ sym (count_cons (λ y. t y.0 y.1) x xs)
  where
    by : (b : Bool) → is_page p v x ≡ b → (b || list_any (is_page p v) xs) ≡ false → (list_any (is_page p v) xs ≡ false → count_by (λ x. but p v t x.0 x.1) xs ≡ count_by (λ x. t x.0 x.1) xs) →
        cond (cond (is_page p v x) false (t x.0 x.1)) 1 0 + count_by (λ x. but p v t x.0 x.1) xs ≡ cond (t x.0 x.1) 1 0 + count_by (λ x. t x.0 x.1) xs
    by true e k r = cc
    by false e k r = ap (λ b. cond (cond b false (t x.0 x.1)) 1 0 + count_by (λ x. but p v t x.0 x.1) xs) e ∙ ap (λ n. cond (t x.0 x.1) 1 0 + n) (r k)

no_uses : (us : List Use) → ((q u : ℕ) → is_some (mark_by q u us) ≡ false) → length us ≡ 0
no_uses [] h = refl
no_uses (w ∷ ws) h = absurd (true_false (is_some (mark_by w.proc w.page (w ∷ ws)))
    (ap is_some (mark_cons w ws w.proc w.page) ∙ ap (λ b. is_some (cond b (Some w.moving) (mark_by w.proc w.page ws))) (page_itself w.proc w.page)) (h w.proc w.page))

pub count_is : (t : ℕ → ℕ → Bool) (us : List Use) (xs : List (ℕ × ℕ)) → is_rising us ≡ true → is_once xs ≡ true →
    ((q u : ℕ) → is_some (mark_by q u us) ≡ t q u) → ((q u : ℕ) → t q u ≡ true → list_any (is_page q u) xs ≡ true) → length us ≡ count_by (λ x. t x.0 x.1) xs
count_is t us [] rising once exact listed = no_uses us (λ q u. none q u (t q u) refl)
  where
    none : (q u : ℕ) (b : Bool) → t q u ≡ b → is_some (mark_by q u us) ≡ false
    none q u true e = absurd (true_false false (listed q u e) refl)
    none q u false e = exact q u ∙ e
count_is t us (x ∷ xs) rising once exact listed =
    by (t x.0 x.1) refl
    (count_is t us xs rising (and_parts (not (list_any (is_page x.0 x.1) xs)) (is_once xs) once).1 exact)
    (count_is (but x.0 x.1 t) (without_use x.0 x.1 us) xs (rising_without x.0 x.1 us rising) (and_parts (not (list_any (is_page x.0 x.1) xs)) (is_once xs) once).1 exact_but)
    ∙ sym (count_cons (λ y. t y.0 y.1) x xs)
  where
    absent : list_any (is_page x.0 x.1) xs ≡ false
    absent = not-true (list_any (is_page x.0 x.1) xs) (and_parts (not (list_any (is_page x.0 x.1) xs)) (is_once xs) once).0

    exact_but : (q u : ℕ) → is_some (mark_by q u (without_use x.0 x.1 us)) ≡ but x.0 x.1 t q u
    exact_but q u = ap is_some (mark_without x.0 x.1 q u us) ∙ split (eqb q x.0 && eqb u x.1)
      where
        split : (b : Bool) → is_some (cond b None (mark_by q u us)) ≡ cond b false (t q u)
        split true = refl
        split false = exact q u

    later : (q u : ℕ) (b : Bool) → is_page q u x ≡ b → (b || list_any (is_page q u) xs) ≡ true → (b ≡ true → ⊥) → list_any (is_page q u) xs ≡ true
    later q u true e h n = absurd (n refl)
    later q u false e h n = h

    page_at : (q u : ℕ) → is_page q u x ≡ true → t q u ≡ t x.0 x.1
    page_at q u e = at (grind (arith, nat_tests)) (grind (arith, nat_tests))
      where
        at : q ≡ x.0 → u ≡ x.1 → t q u ≡ t x.0 x.1
        at a b = rw (a, b) refl

    listed_rest : t x.0 x.1 ≡ false → (q u : ℕ) → t q u ≡ true → list_any (is_page q u) xs ≡ true
    listed_rest e q u k = later q u (is_page q u x) refl (listed q u k) (λ f. true_false (t q u) k (page_at q u f ∙ e))

    passes_but : (q u : ℕ) (b : Bool) → (eqb q x.0 && eqb u x.1) ≡ b → cond b false (t q u) ≡ true → (b ≡ false) × (t q u ≡ true)
    passes_but q u true e k = cc
    passes_but q u false e k = (refl, k)

    listed_but : (q u : ℕ) → but x.0 x.1 t q u ≡ true → list_any (is_page q u) xs ≡ true
    listed_but q u k = let s = passes_but q u (eqb q x.0 && eqb u x.1) refl k in
        later q u (is_page q u x) refl (listed q u s.1) (λ f. true_false (eqb q x.0 && eqb u x.1) (sym (turned x.0 x.1 q u) ∙ f) s.0)

    by : (b : Bool) → t x.0 x.1 ≡ b →
        (((q u : ℕ) → t q u ≡ true → list_any (is_page q u) xs ≡ true) → length us ≡ count_by (λ x. t x.0 x.1) xs) →
        (((q u : ℕ) → but x.0 x.1 t q u ≡ true → list_any (is_page q u) xs ≡ true) → length (without_use x.0 x.1 us) ≡ count_by (λ y. but x.0 x.1 t y.0 y.1) xs) →
        length us ≡ cond b 1 0 + count_by (λ x. t x.0 x.1) xs
    by true e r s = sym (length_without x.0 x.1 us rising (has_is x.0 x.1 us ∙ exact x.0 x.1 ∙ e)) ∙ ap suc (s listed_but ∙ count_but x.0 x.1 t xs absent) ∙ one_more (count_by (λ x. t x.0 x.1) xs)
      where
        one_more : (n : ℕ) → suc n ≡ 1 + n
        one_more n = omega arith
    by false e r s = r (listed_rest e) ∙ none_more (count_by (λ x. t x.0 x.1) xs)
      where
        none_more : (n : ℕ) → n ≡ 0 + n
        none_more n = omega arith
