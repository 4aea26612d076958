-- A look from one word to the next finds what one look would.
use Rattle.std.proofs.Common.{◌≡◌, ℕ, ◌+◌, ◌≤◌, Bool, true, false, ◌&&◌, ltb, leb, cond, Option, Some, None, List, [], ◌∷◌, refl, sym, ap, ◌∙◌, subst, arith}
use Rattle.std.specs.Prelude.{find}
use Rattle.std.specs.List.{list_all}
use Rattle.std.specs.Ordering.{nat_cmp, is_lt}
use Rattle.std.specs.FinMap.Entries as sorted
use Rattle.std.proofs.lemmas.Bool.Decides.{nat_tests}
use Rattle.std.proofs.lemmas.Bool.{and_parts}
use Rattle.std.proofs.lemmas.Option.{same_Some}
use Rattle.hm_history.proofs.Tests.{true_false}

-- the first entry from a page on that passes
abbrev pub passing_from : (ℕ → Bool) → List (ℕ × ℕ) → ℕ → Option (ℕ × ℕ)
passing_from g es from = find (λ e. leb from e.0 && g e.1) es

-- what passes the first test passes the second
abbrev pub Implies : (ℕ → Bool) → (ℕ → Bool) → Type 0
Implies g h = (w : ℕ) → g w ≡ true → h w ≡ true

fails : (g h : ℕ → Bool) (w : ℕ) → Implies g h → h w ≡ false → g w ≡ false
fails g h w i e = by (g w) refl
  where
    by : (b : Bool) → g w ≡ b → b ≡ false
    by true f = absurd (true_false (h w) (i w f) e)
    by false f = refl

pub none_passes : (g h : ℕ → Bool) (es : List (ℕ × ℕ)) (from : ℕ) → Implies g h → passing_from h es from ≡ None → passing_from g es from ≡ None
none_passes g h [] from i k = refl
none_passes g h (e ∷ es) from i k = by (leb from e.0) (h e.1) refl k (none_passes g h es from i)
  where
    by : (b c : Bool) → h e.1 ≡ c → cond (b && c) (Some e) (passing_from h es from) ≡ None → (passing_from h es from ≡ None → passing_from g es from ≡ None) → cond (b && g e.1) (Some e) (passing_from g es from) ≡ None
    by true true f k r = cc
    by true false f k r = ap (λ t. cond t (Some e) (passing_from g es from)) (fails g h e.1 i f) ∙ r k
    by false c f k r = r k

pub first_passes : (g h : ℕ → Bool) (es : List (ℕ × ℕ)) (from : ℕ) (z : ℕ × ℕ) → Implies g h → passing_from h es from ≡ Some z → g z.1 ≡ true → passing_from g es from ≡ Some z
first_passes g h [] from z i k p = cc
first_passes g h (e ∷ es) from z i k p = by (leb from e.0) (h e.1) refl k (λ j. first_passes g h es from z i j p)
  where
    by : (b c : Bool) → h e.1 ≡ c → cond (b && c) (Some e) (passing_from h es from) ≡ Some z → (passing_from h es from ≡ Some z → passing_from g es from ≡ Some z) → cond (b && g e.1) (Some e) (passing_from g es from) ≡ Some z
    by true true f k r = ap (λ t. cond t (Some e) (passing_from g es from)) (ap (λ (x : ℕ × ℕ). g x.1) (same_Some e z k) ∙ p) ∙ k
    by true false f k r = ap (λ t. cond t (Some e) (passing_from g es from)) (fails g h e.1 i f) ∙ r k
    by false c f k r = r k

pub first_above : (h : ℕ → Bool) (es : List (ℕ × ℕ)) (from : ℕ) (z : ℕ × ℕ) → passing_from h es from ≡ Some z → from ≤ z.0
first_above h [] from z k = cc
first_above h (e ∷ es) from z k = by (leb from e.0) (h e.1) refl k (first_above h es from z)
  where
    less : (a b : ℕ) → leb a b ≡ true → a ≤ b
    less a b h = grind (arith, nat_tests)

    by : (b c : Bool) → leb from e.0 ≡ b → cond (b && c) (Some e) (passing_from h es from) ≡ Some z → (passing_from h es from ≡ Some z → from ≤ z.0) → from ≤ z.0
    by true true f k r = subst (λ (x : ℕ × ℕ). from ≤ x.0) (same_Some e z k) (less from e.0 f)
    by true false f k r = r k
    by false c f k r = r k

-- past a list's pages, or before them, it does not matter from where
from_below : (g : ℕ → Bool) (k : ℕ) (es : List (ℕ × ℕ)) (from : ℕ) → leb from k ≡ true → sorted.below_all nat_cmp k es ≡ true → passing_from g es from ≡ passing_from g es (k + 1)
from_below g k [] from l h = refl
from_below g k (e ∷ es) from l h =
    ap (λ b. cond (b && g e.1) (Some e) (passing_from g es from)) (same k e.0 from l (and_parts (is_lt (nat_cmp k e.0)) (sorted.below_all nat_cmp k es) h).0)
    ∙ ap (cond (leb (k + 1) e.0 && g e.1) (Some e)) (from_below g k es from l (and_parts (is_lt (nat_cmp k e.0)) (sorted.below_all nat_cmp k es) h).1)
  where
    same : (a b c : ℕ) → leb c a ≡ true → is_lt (nat_cmp a b) ≡ true → leb c b ≡ leb (a + 1) b
    same a b c l h = grind (arith, nat_tests)

pub none_above : (g : ℕ → Bool) (es : List (ℕ × ℕ)) (n : ℕ) → list_all (λ e. ltb e.0 n) es ≡ true → passing_from g es n ≡ None
none_above g [] n h = refl
none_above g (e ∷ es) n h =
    ap (λ b. cond (b && g e.1) (Some e) (passing_from g es n)) (over e.0 n (and_parts (ltb e.0 n) (list_all (λ e. ltb e.0 n) es) h).0)
    ∙ none_above g es n (and_parts (ltb e.0 n) (list_all (λ e. ltb e.0 n) es) h).1
  where
    over : (a b : ℕ) → ltb a b ≡ true → leb b a ≡ false
    over a b h = grind (arith, nat_tests)

pub next_passes : (g h : ℕ → Bool) (es : List (ℕ × ℕ)) (from : ℕ) (z : ℕ × ℕ) → Implies g h → sorted.is_sorted nat_cmp es ≡ true → passing_from h es from ≡ Some z → g z.1 ≡ false → passing_from g es (z.0 + 1) ≡ passing_from g es from
next_passes g h [] from z i o f k = refl
next_passes g h (e ∷ es) from z i o f k = by (leb from e.0) refl (h e.1) refl f (λ j. next_passes g h es from z i (and_parts (sorted.below_all nat_cmp e.0 es) (sorted.is_sorted nat_cmp es) o).1 j k)
  where
    past : (a : ℕ) → leb (a + 1) a ≡ false
    past a = grind (arith, nat_tests)

    before : (a b c : ℕ) → leb a b ≡ false → a ≤ c → leb (c + 1) b ≡ false
    before a b c f l = grind (arith, nat_tests)

    not_and : (b c : Bool) → c ≡ false → (b && c) ≡ false
    not_and true c e = e
    not_and false c e = refl

    here : leb from e.0 ≡ true → e ≡ z → passing_from g (e ∷ es) (e.0 + 1) ≡ cond (true && g e.1) (Some e) (passing_from g es from)
    here f i =
        ap (λ b. cond (b && g e.1) (Some e) (passing_from g es (e.0 + 1))) (past e.0)
        ∙ sym (from_below g e.0 es from f (and_parts (sorted.below_all nat_cmp e.0 es) (sorted.is_sorted nat_cmp es) o).0)
        ∙ sym (ap (λ b. cond b (Some e) (passing_from g es from)) (ap (λ (x : ℕ × ℕ). g x.1) i ∙ k))

    by : (b : Bool) → leb from e.0 ≡ b → (c : Bool) → h e.1 ≡ c → cond (b && c) (Some e) (passing_from h es from) ≡ Some z → (passing_from h es from ≡ Some z → passing_from g es (z.0 + 1) ≡ passing_from g es from) →
        passing_from g (e ∷ es) (z.0 + 1) ≡ cond (b && g e.1) (Some e) (passing_from g es from)
    by true f true j p r = ap (λ (x : ℕ × ℕ). passing_from g (e ∷ es) (x.0 + 1)) (sym (same_Some e z p)) ∙ here f (same_Some e z p)
    by true f false j p r =
        ap (λ t. cond t (Some e) (passing_from g es (z.0 + 1))) (not_and (leb (z.0 + 1) e.0) (g e.1) (fails g h e.1 i j)) ∙ (r p
        ∙ sym (ap (λ t. cond t (Some e) (passing_from g es from)) (fails g h e.1 i j)))
    by false f c j p r = ap (λ b. cond (b && g e.1) (Some e) (passing_from g es (z.0 + 1))) (before from e.0 z.0 f (first_above h es from z p)) ∙ r p
