-- The lowest frame that is held, or free.
use Rattle.std.proofs.Common.{◌≡◌, ℕ, zero, suc, ◌+◌, ◌-◌, ◌<◌, ◌≤◌, Bool, true, false, not, ◌==◌, ◌||◌, Option, Some, None, ◌⊎◌, inl, inr, refl, sym, ap, ◌∙◌, arith}
use Rattle.std.proofs.lemmas.Bool.{cases_eq, cases_lt}
use Rattle.std.proofs.lemmas.Bool.Decides.{nat_tests}
use Rattle.hm_history.specs.Memory.Words.{least}
use Rattle.hm_spaces.proofs.Least.{least_at, least_found, least_none}
use Rattle.hm_folds.specs.Numbers.{has_number, IsLeast, IsFirstNumber}
use Rattle.hm_folds.specs.Held.{IsHeld}
use Rattle.hm_folds.specs.declared.numbers.Numbers.{Numbers}
use Rattle.hm_history.proofs.Least.{none_from}

-- what the least number is
pub record Found (t : ℕ → Bool) (from n i : ℕ) : Type 0 where
  pub above : from ≤ i
  pub within : i < from + n
  pub there : t i ≡ true
  pub none : (k : ℕ) → from ≤ k → k < i → t k ≡ false

pub least_is : (t : ℕ → Bool) (from n i : ℕ) → least t from n ≡ Some i → Found t from n i
least_is t from zero i h = absurd (let b : ⊥ = cc in b)
least_is t from (suc n) i h = by (t from) refl h (λ e. least_is t (from + 1) n i e)
  where
    by : (b : Bool) → t from ≡ b → least t from (suc n) ≡ Some i → (least t (from + 1) n ≡ Some i → Found t (from + 1) n i) → Found t from (suc n) i
    by true e g r =
        let here : from ≡ i = (let s : Some from ≡ Some i = sym (rw (e, least) refl) ∙ g in cc) in
        record { above = omega (arith, here); within = omega (arith, here); there = rw (sym here) e; none = λ k a b. absurd (omega (arith, here)) }
    by false e g r =
        let rest : Found t (from + 1) n i = r (sym (rw (e, least) refl) ∙ g) in
        record {
          above = omega (arith, rest.above);
          within = omega (arith, rest.within);
          there = rest.there;
          none = λ k a b. elim (cases_eq k from) [
            | inl d ↦ ap t d ∙ e
            | inr d ↦ rest.none k (omega arith) b
          ];
        }

-- of the frames that are free again
pub first_free : (frames next : ℕ) (held free : Numbers) (at : ℕ) → IsHeld frames next held free → IsLeast free 0 at → Some at ≡ least (λ n. not (has_number held n)) 0 frames
first_free frames next held free at h f = by (cases_lt at next)
  where
    by : (at < next) ⊎ (next ≤ at) → Some at ≡ least (λ n. not (has_number held n)) 0 frames
    by (inl l) = least_found (λ n. not (has_number held n)) frames at (omega (arith, h.within)) (λ k m. sym (h.below k (omega arith)) ∙ f.none k (omega arith) m) (sym (h.below at l) ∙ f.there)
    by (inr l) = absurd (let no : false ≡ true = sym (h.no_free at l) ∙ f.there in let b : ⊥ = cc in b)

-- and else the first that was never held
pub next_free : (frames next : ℕ) (held free : Numbers) → IsHeld frames next held free → ((n : ℕ) → 0 ≤ n → has_number free n ≡ false) → next < frames → Some next ≡ least (λ n. not (has_number held n)) 0 frames
next_free frames next held free h f l = least_found (λ n. not (has_number held n)) frames next l (λ k m. sym (h.below k m) ∙ f k (omega arith)) (ap not (h.no_held next (omega arith)))

pub none_free : (frames next : ℕ) (held free : Numbers) → IsHeld frames next held free → ((n : ℕ) → 0 ≤ n → has_number free n ≡ false) → frames ≤ next → None ≡ least (λ n. not (has_number held n)) 0 frames
none_free frames next held free h f l = least_none (λ n. not (has_number held n)) frames (λ k m. sym (h.below k (omega (arith, h.within))) ∙ f k (omega arith))

pub first_held : (frames next : ℕ) (held free : Numbers) (from : ℕ) (o : Option ℕ) → IsHeld frames next held free → IsFirstNumber held from o → o ≡ least (has_number held) from (frames - from)
first_held frames next held free from None h f = sym (none_from (has_number held) from (frames - from) (λ k a b. f k a))
first_held frames next held free from (Some at) h f = by (cases_lt at next)
  where
    by : (at < next) ⊎ (next ≤ at) → Some at ≡ least (has_number held) from (frames - from)
    by (inl l) = sym (least_at (has_number held) from (frames - from) at f.above (omega (arith, h.within, f.above)) f.none f.there)
    by (inr l) = absurd (let no : false ≡ true = sym (h.no_held at l) ∙ f.there in let b : ⊥ = cc in b)

-- the lowest free frame, where it is none of those that are free again, is the first that was never held
pub taken_next : (frames next : ℕ) (held free : Numbers) (i : ℕ) → IsHeld frames next held free → least (λ n. not (has_number held n)) 0 frames ≡ Some i → next ≤ i → (i ≡ next) × (i < frames)
taken_next frames next held free i h e l = by (cases_lt next i)
  where
    found : Found (λ n. not (has_number held n)) 0 frames i
    found = least_is (λ n. not (has_number held n)) 0 frames i e

    by : (next < i) ⊎ (i ≤ next) → (i ≡ next) × (i < frames)
    by (inl m) = absurd (let no : false ≡ true = sym (found.none next (omega arith) m) ∙ ap not (h.no_held next (omega arith)) in let b : ⊥ = cc in b)
    by (inr m) = (omega arith, omega (arith, found.within))

pub sound_next : (frames next : ℕ) (held free more : Numbers) (i : ℕ) → IsHeld frames next held free → (i ≡ next) × (i < frames) → ((n : ℕ) → has_number more n ≡ ((n == i) || has_number held n)) → IsHeld frames (i + 1) more free
sound_next frames next held free more i h e m = record {
  few = h.few;
  within = omega (arith, e.1);
  below = λ n l. elim (cases_eq n i) [
    | inl d ↦ here n d
    | inr d ↦ others n d (omega (arith, e.0))
  ];
  no_held = λ n l. beyond n (λ d. absurd (omega arith)) (omega (arith, e.0));
  no_free = λ n l. h.no_free n (omega (arith, e.0));
}
  where
    here : (n : ℕ) → n ≡ i → has_number free n ≡ not (has_number more n)
    here n d =
        let yes : has_number more n ≡ true = m n ∙ grind (arith, nat_tests) in
        h.no_free n (omega (arith, e.0)) ∙ sym (ap not yes)

    others : (n : ℕ) → (n ≡ i → ⊥) → n < next → has_number free n ≡ not (has_number more n)
    others n d l =
        let same : has_number more n ≡ has_number held n = m n ∙ grind (arith, nat_tests) in
        h.below n l ∙ sym (ap not same)

    beyond : (n : ℕ) → (n ≡ i → ⊥) → next ≤ n → has_number more n ≡ false
    beyond n d l =
        let no = h.no_held n l in
        m n ∙ grind (arith, nat_tests)
