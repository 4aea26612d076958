-- The lowest page that passes a test is unlike any other answer.
use Rattle.std.proofs.Common.{◌≡◌, ℕ, ◌⊎◌, inl, inr, Bool, true, false, ◌&&◌, ◌||◌, eqb, ltb, leb, cond, Option, Some, None, List, [], ◌∷◌, refl, sym, ap, ◌∙◌, subst, arith}
use Rattle.std.specs.List.{list_any}
use Rattle.std.proofs.lemmas.Bool.Decides.{nat_tests}
use Rattle.hm_history.specs.Memory.Places.{is_page, lowest, lower}
use Rattle.hm_history.proofs.Tests.{true_false}

-- the first page is the second, or before it
abbrev pub is_before : ℕ × ℕ → ℕ → ℕ → Bool
is_before z p v = ltb z.0 p || (eqb z.0 p && leb z.1 v)

abbrev pub IsLowest : (ℕ → ℕ → Bool) → Option (ℕ × ℕ) → Type 0
IsLowest t None = (p v : ℕ) → t p v ≡ false
IsLowest t (Some z) = (t z.0 z.1 ≡ true) × ((p v : ℕ) → t p v ≡ true → is_before z p v ≡ true)

both_before : (a b c d : ℕ) → is_before (a, b) c d ≡ true → is_before (c, d) a b ≡ true → (a ≡ c) × (b ≡ d)
both_before a b c d e f = (grind (arith, nat_tests), grind (arith, nat_tests))

pair : (a b c d : ℕ) → a ≡ c → b ≡ d → ◌≡◌ {A = ℕ × ℕ} (a, b) (c, d)
pair a b c d e f = rw (e, f) refl

pub one_lowest : (t : ℕ → ℕ → Bool) (x y : Option (ℕ × ℕ)) → IsLowest t x → IsLowest t y → x ≡ y
one_lowest t None None h k = refl
one_lowest t None (Some z) h k = absurd (true_false (t z.0 z.1) k.0 (h z.0 z.1))
one_lowest t (Some z) None h k = absurd (true_false (t z.0 z.1) h.0 (k z.0 z.1))
one_lowest t (Some z) (Some w) h k = ap (λ s. Some s) (pair z.0 z.1 w.0 w.1 same.0 same.1)
  where
    same : (z.0 ≡ w.0) × (z.1 ≡ w.1)
    same = both_before z.0 z.1 w.0 w.1 (h.1 w.0 w.1 k.0) (k.1 z.0 z.1 h.0)

pub lowest_same : (t u : ℕ → ℕ → Bool) → ((p v : ℕ) → t p v ≡ u p v) → (x : Option (ℕ × ℕ)) → IsLowest t x → IsLowest u x
lowest_same t u e None h = λ p v. sym (e p v) ∙ h p v
lowest_same t u e (Some z) h = (sym (e z.0 z.1) ∙ h.0, λ p v k. h.1 p v (e p v ∙ k))

-- the lowest of a list that has each page that passes

-- of the pages of the list
abbrev IsLowestIn : (ℕ → ℕ → Bool) → List (ℕ × ℕ) → Option (ℕ × ℕ) → Type 0
IsLowestIn t xs None = (p v : ℕ) → list_any (is_page p v) xs ≡ true → t p v ≡ false
IsLowestIn t xs (Some z) = (t z.0 z.1 ≡ true) × ((p v : ℕ) → list_any (is_page p v) xs ≡ true → t p v ≡ true → is_before z p v ≡ true)

page_is : (p v : ℕ) (x : ℕ × ℕ) → is_page p v x ≡ true → (x.0 ≡ p) × (x.1 ≡ v)
page_is p v x h = (grind (arith, nat_tests), grind (arith, nat_tests))

test_at : (t : ℕ → ℕ → Bool) (a b p v : ℕ) → a ≡ p → b ≡ v → t a b ≡ t p v
test_at t a b p v e f = rw (e, f) refl

before_itself : (a b p v : ℕ) → a ≡ p → b ≡ v → is_before (a, b) p v ≡ true
before_itself a b p v e f = grind (arith, nat_tests)

before_over : (a b c d p v : ℕ) → (ltb a c || (eqb a c && ltb b d)) ≡ true → is_before (c, d) p v ≡ true → is_before (a, b) p v ≡ true
before_over a b c d p v e f = grind (arith, nat_tests)

not_lower : (a b c d : ℕ) → (ltb a c || (eqb a c && ltb b d)) ≡ false → is_before (c, d) a b ≡ true
not_lower a b c d e = grind (arith, nat_tests)

lowest_in : (t : ℕ → ℕ → Bool) (xs : List (ℕ × ℕ)) → IsLowestIn t xs (lowest t xs)
lowest_in t [] = λ p v h. cc
lowest_in t (x ∷ xs) = by (t x.0 x.1) refl (lowest t xs) (lowest_in t xs)
  where
    here_or : (p v : ℕ) (b : Bool) → is_page p v x ≡ b → (b || list_any (is_page p v) xs) ≡ true → ((x.0 ≡ p) × (x.1 ≡ v)) ⊎ (list_any (is_page p v) xs ≡ true)
    here_or p v true e h = inl (page_is p v x e)
    here_or p v false e h = inr h

    where_is : (p v : ℕ) → list_any (is_page p v) (x ∷ xs) ≡ true → ((x.0 ≡ p) × (x.1 ≡ v)) ⊎ (list_any (is_page p v) xs ≡ true)
    where_is p v h = here_or p v (is_page p v x) refl h

    skip_none : (t x.0 x.1 ≡ false) → IsLowestIn t xs None → (p v : ℕ) → ((x.0 ≡ p) × (x.1 ≡ v)) ⊎ (list_any (is_page p v) xs ≡ true) → t p v ≡ false
    skip_none e h p v (inl k) = sym (test_at t x.0 x.1 p v k.0 k.1) ∙ e
    skip_none e h p v (inr k) = h p v k

    skip_some : (t x.0 x.1 ≡ false) → (z : ℕ × ℕ) → IsLowestIn t xs (Some z) → (p v : ℕ) → ((x.0 ≡ p) × (x.1 ≡ v)) ⊎ (list_any (is_page p v) xs ≡ true) → t p v ≡ true → is_before z p v ≡ true
    skip_some e z h p v (inl k) m = absurd (true_false (t x.0 x.1) (test_at t x.0 x.1 p v k.0 k.1 ∙ m) e)
    skip_some e z h p v (inr k) m = h.1 p v k m

    first_none : IsLowestIn t xs None → (p v : ℕ) → ((x.0 ≡ p) × (x.1 ≡ v)) ⊎ (list_any (is_page p v) xs ≡ true) → t p v ≡ true → is_before x p v ≡ true
    first_none h p v (inl k) m = before_itself x.0 x.1 p v k.0 k.1
    first_none h p v (inr k) m = absurd (true_false (t p v) m (h p v k))

    first_some : (z : ℕ × ℕ) → (ltb x.0 z.0 || (eqb x.0 z.0 && ltb x.1 z.1)) ≡ true → IsLowestIn t xs (Some z) → (p v : ℕ) → ((x.0 ≡ p) × (x.1 ≡ v)) ⊎ (list_any (is_page p v) xs ≡ true) → t p v ≡ true → is_before x p v ≡ true
    first_some z e h p v (inl k) m = before_itself x.0 x.1 p v k.0 k.1
    first_some z e h p v (inr k) m = before_over x.0 x.1 z.0 z.1 p v e (h.1 p v k m)

    later_some : (z : ℕ × ℕ) → (ltb x.0 z.0 || (eqb x.0 z.0 && ltb x.1 z.1)) ≡ false → IsLowestIn t xs (Some z) → (p v : ℕ) → ((x.0 ≡ p) × (x.1 ≡ v)) ⊎ (list_any (is_page p v) xs ≡ true) → t p v ≡ true → is_before z p v ≡ true
    later_some z e h p v (inl k) m = subst (λ q. is_before z q v ≡ true) k.0 (subst (λ u. is_before z x.0 u ≡ true) k.1 (not_lower x.0 x.1 z.0 z.1 e))
    later_some z e h p v (inr k) m = h.1 p v k m

    lower_of : t x.0 x.1 ≡ true → (z : ℕ × ℕ) → IsLowestIn t xs (Some z) → (b : Bool) → (ltb x.0 z.0 || (eqb x.0 z.0 && ltb x.1 z.1)) ≡ b → IsLowestIn t (x ∷ xs) (cond b (Some x) (Some z))
    lower_of e z h true o = (e, λ p v l. first_some z o h p v (where_is p v l))
    lower_of e z h false o = (h.0, λ p v l. later_some z o h p v (where_is p v l))

    by : (b : Bool) → t x.0 x.1 ≡ b → (y : Option (ℕ × ℕ)) → IsLowestIn t xs y → IsLowestIn t (x ∷ xs) (elim b [ true ↦ lower x y | false ↦ y ])
    by true e None h = (e, λ p v l. first_none h p v (where_is p v l))
    by true e (Some z) h = lower_of e z h (ltb x.0 z.0 || (eqb x.0 z.0 && ltb x.1 z.1)) refl
    by false e None h = λ p v l. skip_none e h p v (where_is p v l)
    by false e (Some z) h = (h.0, λ p v l. skip_some e z h p v (where_is p v l))

pub lowest_is : (t : ℕ → ℕ → Bool) (xs : List (ℕ × ℕ)) → ((p v : ℕ) → t p v ≡ true → list_any (is_page p v) xs ≡ true) → IsLowest t (lowest t xs)
lowest_is t xs listed = by (lowest t xs) (lowest_in t xs)
  where
    fails : (h : IsLowestIn t xs None) (p v : ℕ) (b : Bool) → t p v ≡ b → b ≡ false
    fails h p v true e = absurd (true_false (t p v) e (h p v (listed p v e)))
    fails h p v false e = refl

    by : (y : Option (ℕ × ℕ)) → IsLowestIn t xs y → IsLowest t y
    by None h = λ p v. fails h p v (t p v) refl
    by (Some z) h = (h.0, λ p v m. h.1 p v (listed p v m) m)
