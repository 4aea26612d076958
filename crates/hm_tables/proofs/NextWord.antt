-- The first word of a table from a page on that passes is that of the lowest such page.
use Rattle.std.proofs.Common.{◌≡◌, ℕ, Bool, true, false, ◌&&◌, eqb, ltb, leb, cond, Some, option_map, List, [], ◌∷◌, refl, sym, ap, ◌∙◌, arith}
use Rattle.std.specs.Prelude.{find, unwrap_or}
use Rattle.std.specs.Ordering.{nat_cmp, is_lt}
use Rattle.std.specs.FinMap.Entries as sorted
use Rattle.std.proofs.lemmas.Bool.Decides.{nat_tests}
use Rattle.std.proofs.lemmas.Bool.{and_from, and_parts}
use Rattle.hm_tables.proofs.Words.{tied_is}
use Rattle.hm_tables.proofs.Lowest.{IsLowest, is_before, lowest_same}
use Rattle.hm_history.proofs.Tests.{true_false}

-- the word of a page in a list
abbrev pub word_in : List (ℕ × ℕ) → ℕ → ℕ
word_in es u = unwrap_or (sorted.find nat_cmp u es) 0

word_cons : (e : ℕ × ℕ) (es : List (ℕ × ℕ)) (u : ℕ) → word_in (e ∷ es) u ≡ cond (eqb u e.0) e.1 (word_in es u)
word_cons e es u = ap (λ b. unwrap_or (cond b (Some e.1) (sorted.find nat_cmp u es)) 0) (tied_is u e.0) ∙ by (eqb u e.0)
  where
    by : (b : Bool) → unwrap_or (cond b (Some e.1) (sorted.find nat_cmp u es)) 0 ≡ cond b e.1 (word_in es u)
    by true = refl
    by false = refl

less_is : (a b : ℕ) → is_lt (nat_cmp a b) ≡ ltb a b
less_is a b = grind (arith, nat_tests)

-- a page that has a word in a list above a page is above it
above_all : (g : ℕ → Bool) → g 0 ≡ false → (k : ℕ) (es : List (ℕ × ℕ)) (u : ℕ) → sorted.below_all nat_cmp k es ≡ true → g (word_in es u) ≡ true → ltb k u ≡ true
above_all g zero k [] u h p = absurd (true_false (g 0) p zero)
above_all g zero k (e ∷ es) u h p = by (eqb u e.0) refl (ap g (sym (word_cons e es u)) ∙ p) (above_all g zero k es u (and_parts (is_lt (nat_cmp k e.0)) (sorted.below_all nat_cmp k es) h).1)
  where
    less : ltb k e.0 ≡ true
    less = sym (less_is k e.0) ∙ (and_parts (is_lt (nat_cmp k e.0)) (sorted.below_all nat_cmp k es) h).0

    at : (a b c : ℕ) → ltb a b ≡ true → eqb c b ≡ true → ltb a c ≡ true
    at a b c l e = grind (arith, nat_tests)

    by : (b : Bool) → eqb u e.0 ≡ b → g (cond (eqb u e.0) e.1 (word_in es u)) ≡ true → (g (word_in es u) ≡ true → ltb k u ≡ true) → ltb k u ≡ true
    by true f p r = at k e.0 u less f
    by false f p r = r (ap (λ b. g (cond b e.1 (word_in es u))) (sym f) ∙ p)

abbrev pub page_passes : (ℕ → Bool) → List (ℕ × ℕ) → ℕ → ℕ → ℕ → ℕ → Bool
page_passes g es p from q u = eqb q p && (leb from u && g (word_in es u))

no_pass : (a b c : Bool) → c ≡ false → (a && (b && c)) ≡ false
no_pass true true c e = e
no_pass true false c e = refl
no_pass false b c e = refl

pub next_lowest : (g : ℕ → Bool) → g 0 ≡ false → (es : List (ℕ × ℕ)) → sorted.is_sorted nat_cmp es ≡ true → (p from : ℕ) →
    IsLowest (page_passes g es p from) (option_map (λ e. (p, e.0)) (find (λ e. leb from e.0 && g e.1) es))
next_lowest g zero [] h p from = λ q u. no_pass (eqb q p) (leb from u) (g 0) zero
next_lowest g zero (e ∷ es) h p from = by (leb from e.0 && g e.1) refl (next_lowest g zero es (and_parts (sorted.below_all nat_cmp e.0 es) (sorted.is_sorted nat_cmp es) h).1 p from)
  where
    below : sorted.below_all nat_cmp e.0 es ≡ true
    below = (and_parts (sorted.below_all nat_cmp e.0 es) (sorted.is_sorted nat_cmp es) h).0

    itself : (a : ℕ) → eqb a a ≡ true
    itself a = grind (arith, nat_tests)

    not_below : (a : ℕ) → ltb a a ≡ false
    not_below a = grind (arith, nat_tests)

    here : (u : ℕ) → eqb u e.0 ≡ true → word_in (e ∷ es) u ≡ e.1
    here u f = word_cons e es u ∙ ap (λ b. cond b e.1 (word_in es u)) f

    past : (u : ℕ) → eqb u e.0 ≡ false → word_in (e ∷ es) u ≡ word_in es u
    past u f = word_cons e es u ∙ ap (λ b. cond b e.1 (word_in es u)) f

    passes : (leb from e.0 && g e.1) ≡ true → page_passes g (e ∷ es) p from p e.0 ≡ true
    passes t = and_from (eqb p p) (leb from e.0 && g (word_in (e ∷ es) e.0)) (itself p) (ap (λ w. leb from e.0 && g w) (here e.0 (itself e.0)) ∙ t)

    same : (q u : ℕ) → eqb q p ≡ true → eqb u e.0 ≡ true → is_before (p, e.0) q u ≡ true
    same q u a b = grind (arith, nat_tests)

    later : (q u : ℕ) → eqb q p ≡ true → ltb e.0 u ≡ true → is_before (p, e.0) q u ≡ true
    later q u a b = grind (arith, nat_tests)

    least : (q u : ℕ) → page_passes g (e ∷ es) p from q u ≡ true → (b : Bool) → eqb u e.0 ≡ b → is_before (p, e.0) q u ≡ true
    least q u k true f = same q u (and_parts (eqb q p) (leb from u && g (word_in (e ∷ es) u)) k).0 f
    least q u k false f = later q u (and_parts (eqb q p) (leb from u && g (word_in (e ∷ es) u)) k).0
        (above_all g zero e.0 es u below (ap g (sym (past u f)) ∙ (and_parts (leb from u) (g (word_in (e ∷ es) u)) (and_parts (eqb q p) (leb from u && g (word_in (e ∷ es) u)) k).1).1))

    absent : (b : Bool) → g (word_in es e.0) ≡ b → b ≡ false
    absent true k = absurd (true_false (ltb e.0 e.0) (above_all g zero e.0 es e.0 below k) (not_below e.0))
    absent false k = refl

    equal : (u : ℕ) → eqb u e.0 ≡ true → u ≡ e.0
    equal u f = grind (arith, nat_tests)

    not_and : (a b : Bool) → b ≡ false → (a && b) ≡ false
    not_and true b e = e
    not_and false b e = refl

    skipped : (leb from e.0 && g e.1) ≡ false → (q u : ℕ) (b : Bool) → eqb u e.0 ≡ b → page_passes g es p from q u ≡ page_passes g (e ∷ es) p from q u
    skipped t q u true f =
        no_pass (eqb q p) (leb from u) (g (word_in es u)) (ap (λ v. g (word_in es v)) (equal u f) ∙ absent (g (word_in es e.0)) refl)
        ∙ sym (not_and (eqb q p) (leb from u && g (word_in (e ∷ es) u)) (ap (λ w. leb from u && g w) (here u f) ∙ ap (λ v. leb from v && g e.1) (equal u f) ∙ t))
    skipped t q u false f = ap (λ w. eqb q p && (leb from u && g w)) (sym (past u f))

    by : (b : Bool) → (leb from e.0 && g e.1) ≡ b → IsLowest (page_passes g es p from) (option_map (λ e. (p, e.0)) (find (λ e. leb from e.0 && g e.1) es)) →
        IsLowest (page_passes g (e ∷ es) p from) (option_map (λ (e : ℕ × ℕ). (p, e.0)) (cond b (Some e) (find (λ e. leb from e.0 && g e.1) es)))
    by true t r = (passes t, λ q u k. least q u k (eqb u e.0) refl)
    by false t r = lowest_same (page_passes g es p from) (page_passes g (e ∷ es) p from) (λ q u. skipped t q u (eqb u e.0) refl) (option_map (λ e. (p, e.0)) (find (λ e. leb from e.0 && g e.1) es)) r
