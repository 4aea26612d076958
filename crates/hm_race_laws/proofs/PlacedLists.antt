-- The order in which pages came to the list of placed ones does not matter to what is found in it.
use Rattle.std.proofs.Common.{◌≡◌, ℕ, ◌+◌, ◌≤◌, suc, Bool, true, false, ◌==◌, ◌&&◌, ◌||◌, nat_lt, nat_le, if◌then◌else◌, Option, Some, None, List, [], ◌∷◌, refl, sym, ap, ◌∙◌, subst, count_by, cond, zero-add, arith}
use Rattle.std.specs.List.{list_any}
use Rattle.std.proofs.lemmas.Bool.Decides.{nat_tests}
use Rattle.hm_history.specs.Memory.Places.{is_page, with_page, lowest}
use Rattle.hm_race_laws.specs.Forms.{Distinct}
use Rattle.hm_laws.proofs.State.Search.{lowest_none}
use Rattle.hm_laws.proofs.Kept.PlaceLocks.{lowest_passes}
use Rattle.hm_laws.proofs.State.NextPage.{lowest_least}
use Rattle.hm_history.proofs.Tests.{true_false}
use Rattle.hm_history.proofs.Placed.{is_page_true, count_cons, counted}

-- all pages that pass are listed
abbrev pub Has : (ℕ → ℕ → Bool) → List (ℕ × ℕ) → Type 0
Has t xs = (p v : ℕ) → t p v ≡ true → list_any (is_page p v) xs ≡ true

pub lowest_same : (t : ℕ → ℕ → Bool) (xs ys : List (ℕ × ℕ)) → Has t xs → Has t ys → lowest t xs ≡ lowest t ys
lowest_same t xs ys hx hy = by (lowest t xs) refl (lowest t ys) refl
  where
    same : (z w : ℕ × ℕ) → (nat_lt z.0 w.0 || ((z.0 == w.0) && nat_le z.1 w.1)) ≡ true → (nat_lt w.0 z.0 || ((w.0 == z.0) && nat_le w.1 z.1)) ≡ true → z ≡ w
    same z w h k = grind (arith, nat_tests)

    by : (a : Option (ℕ × ℕ)) → lowest t xs ≡ a → (b : Option (ℕ × ℕ)) → lowest t ys ≡ b → a ≡ b
    by None e None d = refl
    by None e (Some w) d = absurd (true_false (t w.0 w.1) (lowest_passes t ys w d) (lowest_none t xs w.0 w.1 e (hx w.0 w.1 (lowest_passes t ys w d))))
    by (Some z) e None d = absurd (true_false (t z.0 z.1) (lowest_passes t xs z e) (lowest_none t ys z.0 z.1 d (hy z.0 z.1 (lowest_passes t xs z e))))
    by (Some z) e (Some w) d = ap Some (same z w (lowest_least t xs z w.0 w.1 e (hx w.0 w.1 (lowest_passes t ys w d)) (lowest_passes t ys w d)) (lowest_least t ys w z.0 z.1 d (hy z.0 z.1 (lowest_passes t xs z e)) (lowest_passes t xs z e)))

-- counting
abbrev drop_page : ℕ → ℕ → List (ℕ × ℕ) → List (ℕ × ℕ)
drop_page p v [] = []
drop_page p v (x ∷ xs) = if is_page p v x then drop_page p v xs else x ∷ drop_page p v xs

apart_here : (p v q u : ℕ) (x : ℕ × ℕ) → is_page p v (q, u) ≡ false → is_page p v x ≡ true → is_page q u x ≡ false
apart_here p v q u x ne e = grind (arith, nat_tests)

stays : (p v q u : ℕ) (xs : List (ℕ × ℕ)) → is_page p v (q, u) ≡ false → list_any (is_page q u) xs ≡ true → list_any (is_page q u) (drop_page p v xs) ≡ true
stays p v q u [] ne h = h
stays p v q u (x ∷ xs) ne h = by (is_page p v x) refl (is_page q u x) refl h (stays p v q u xs ne)
  where
    by : (b : Bool) → is_page p v x ≡ b → (d : Bool) → is_page q u x ≡ d → (d || list_any (is_page q u) xs) ≡ true → (list_any (is_page q u) xs ≡ true → list_any (is_page q u) (drop_page p v xs) ≡ true) → list_any (is_page q u) (if b then drop_page p v xs else x ∷ drop_page p v xs) ≡ true
    by true e true k l ih = absurd (true_false (is_page q u x) k (apart_here p v q u x ne e))
    by true e false k l ih = ih l
    by false e true k l ih = ap (λ z. z || list_any (is_page q u) (drop_page p v xs)) k
    by false e false k l ih = ap (λ z. z || list_any (is_page q u) (drop_page p v xs)) k ∙ ih l

passed : (t : ℕ × ℕ → Bool) (x : ℕ × ℕ) (xs : List (ℕ × ℕ)) → t x ≡ false → count_by t (x ∷ xs) ≡ count_by t xs
passed t x xs e = count_cons t x xs ∙ (ap (λ b. cond b 1 0 + count_by t xs) e ∙ zero-add (count_by t xs))

least_drop : (t : ℕ × ℕ → Bool) (p v : ℕ) (xs : List (ℕ × ℕ)) → count_by t (drop_page p v xs) ≤ count_by t xs
least_drop t p v [] = omega arith
least_drop t p v (x ∷ xs) = by (is_page p v x) (t x) refl (least_drop t p v xs)
  where
    by : (b : Bool) (d : Bool) → t x ≡ d → count_by t (drop_page p v xs) ≤ count_by t xs → count_by t (if b then drop_page p v xs else x ∷ drop_page p v xs) ≤ count_by t (x ∷ xs)
    by true true k ih = omega (arith, ih, counted t x xs k)
    by true false k ih = omega (arith, ih, passed t x xs k)
    by false true k ih = omega (arith, ih, counted t x xs k, counted t x (drop_page p v xs) k)
    by false false k ih = omega (arith, ih, passed t x xs k, passed t x (drop_page p v xs) k)

fewer : (t : ℕ × ℕ → Bool) (p v : ℕ) (xs : List (ℕ × ℕ)) → t (p, v) ≡ true → list_any (is_page p v) xs ≡ true → suc (count_by t (drop_page p v xs)) ≤ count_by t xs
fewer t p v [] h l = cc
fewer t p v (x ∷ xs) h l = by (is_page p v x) refl l (fewer t p v xs h)
  where
    by : (b : Bool) → is_page p v x ≡ b → (b || list_any (is_page p v) xs) ≡ true → (list_any (is_page p v) xs ≡ true → suc (count_by t (drop_page p v xs)) ≤ count_by t xs) → suc (count_by t (if b then drop_page p v xs else x ∷ drop_page p v xs)) ≤ count_by t (x ∷ xs)
    by true e k ih = omega (arith, counted t x xs (ap t (is_page_true p v x e) ∙ h), least_drop t p v xs)
    by false e k ih = on (t x) refl (ih k)
      where
        on : (d : Bool) → t x ≡ d → suc (count_by t (drop_page p v xs)) ≤ count_by t xs → suc (count_by t (x ∷ drop_page p v xs)) ≤ count_by t (x ∷ xs)
        on true z i = omega (arith, i, counted t x xs z, counted t x (drop_page p v xs) z)
        on false z i = omega (arith, i, passed t x xs z, passed t x (drop_page p v xs) z)

abbrev Most : (ℕ × ℕ → Bool) → List (ℕ × ℕ) → Type 0
Most t xs = (ys : List (ℕ × ℕ)) → Distinct xs → ((p v : ℕ) → list_any (is_page p v) xs ≡ true → t (p, v) ≡ true → list_any (is_page p v) ys ≡ true) → count_by t xs ≤ count_by t ys

count_most : (t : ℕ × ℕ → Bool) (xs : List (ℕ × ℕ)) → Most t xs
count_most t [] ys d h = omega arith
count_most t (x ∷ xs) ys d h = by (count_most t xs) (t x) refl
  where
    itself : list_any (is_page x.0 x.1) (x ∷ xs) ≡ true
    itself = grind (arith, nat_tests)

    more : (p v : ℕ) → list_any (is_page p v) xs ≡ true → list_any (is_page p v) (x ∷ xs) ≡ true
    more p v l = grind (arith, nat_tests)

    other : (p v : ℕ) → list_any (is_page p v) xs ≡ true → is_page x.0 x.1 (p, v) ≡ false
    other p v l = at (is_page x.0 x.1 (p, v)) refl
      where
        at : (b : Bool) → is_page x.0 x.1 (p, v) ≡ b → b ≡ false
        at true e = absurd (true_false (list_any (is_page p v) xs) l (subst (λ (z : ℕ × ℕ). list_any (is_page z.0 z.1) xs ≡ false) (sym (is_page_true x.0 x.1 (p, v) e)) d.0))
        at false e = refl

    by : Most t xs → (b : Bool) → t x ≡ b → count_by t (x ∷ xs) ≤ count_by t ys
    by ih true e = omega (arith, counted t x xs e, ih (drop_page x.0 x.1 ys) d.1 (λ p v l k. stays x.0 x.1 p v ys (other p v l) (h p v (more p v l) k)), fewer t x.0 x.1 ys e (h x.0 x.1 itself e))
    by ih false e = omega (arith, passed t x xs e, ih ys d.1 (λ p v l k. h p v (more p v l) k))

pub count_same : (t : ℕ × ℕ → Bool) (xs ys : List (ℕ × ℕ)) → Distinct xs → Distinct ys → Has (λ p v. t (p, v)) xs → Has (λ p v. t (p, v)) ys → count_by t xs ≡ count_by t ys
count_same t xs ys dx dy hx hy = both (count_by t xs) (count_by t ys) (count_most t xs ys dx (λ p v l k. hy p v k)) (count_most t ys xs dy (λ p v l k. hx p v k))
  where
    both : (m n : ℕ) → m ≤ n → n ≤ m → m ≡ n
    both m n h k = omega (arith, h, k)

-- the list stays one of distinct pages
pub still_distinct : (p v : ℕ) (xs : List (ℕ × ℕ)) → Distinct xs → Distinct (with_page p v xs)
still_distinct p v xs d = by (list_any (is_page p v) xs) refl
  where
    by : (b : Bool) → list_any (is_page p v) xs ≡ b → Distinct (if b then xs else ((p, v) ∷ xs))
    by true e = d
    by false e = (e, d)
