-- The spans of actors, in lists.
use Rattle.std.proofs.Common.{◌≡◌, ℕ, zero, suc, ◌<◌, ◌≤◌, Bool, true, false, ◌==◌, if◌then◌else◌, List, [], ◌∷◌, ◌++◌, length, map, slice_set, ◌+◌, nat_lt, ◌⊎◌, inl, inr, refl, sym, ap, ◌∙◌, arith}
use Rattle.std.specs.Prelude.{slice_index_or}
use Rattle.std.proofs.Math.Path.{fun_ext}
use Rattle.std.proofs.lemmas.Bool.{cases_eq}
use Rattle.std.proofs.lemmas.Bool.Decides.{nat_tests}
use Rattle.hm_base.specs.Pages.{Pages}
use Rattle.hm_history.specs.Memory.Words.{with_at}
use Rattle.hm_flaw_states.specs.LateSpans.{pair_of, late_in}
use Rattle.hm_flaw_states.specs.declared.late_spans.LateSpan.{LateSpan}
use Rattle.hm_flaw_states.specs.declared.late_spans.ActorSpans.{ActorSpans}

-- the spans of actors with those of one set
late_set : (xs : List ActorSpans) (i : ℕ) (y : ActorSpans) (a : ℕ) → i < length xs → late_in (slice_set xs i y) a ≡ (if a == i then map pair_of y.spans.items else late_in xs a)
late_set [] i y a h = absurd (omega arith)
late_set (x ∷ xs) zero y zero h = refl
late_set (x ∷ xs) zero y (suc a) h = grind (arith, nat_tests)
late_set (x ∷ xs) (suc i) y zero h = grind (arith, nat_tests)
late_set (x ∷ xs) (suc i) y (suc a) h = late_set xs i y a (omega arith) ∙ grind (arith, nat_tests)

pairs_more : (zs : List LateSpan) (x : LateSpan) → map pair_of (zs ++ x ∷ []) ≡ map pair_of zs ++ pair_of x ∷ []
pairs_more [] x = refl
pairs_more (z ∷ zs) x = ap (λ ps. pair_of z ∷ ps) (pairs_more zs x)

pub late_at : (xs : List ActorSpans) (i : ℕ) (o : ActorSpans) → i < length xs → o ≡ slice_index_or xs i o → late_in xs i ≡ map pair_of o.spans.items
late_at [] i o h e = absurd (omega arith)
late_at (x ∷ xs) zero o h e = ap (λ (y : ActorSpans). map pair_of y.spans.items) (sym e)
late_at (x ∷ xs) (suc i) o h e = late_at xs i o (omega arith) e

pub pushed : (xs : List ActorSpans) (i a : ℕ) (x : LateSpan) (o y : ActorSpans) → i ≡ a → i < length xs → o ≡ slice_index_or xs i o → y.spans.items ≡ o.spans.items ++ x ∷ []
    → late_in (slice_set xs i y) ≡ with_at (late_in xs) a (late_in xs a ++ pair_of x ∷ [])
pushed xs i a x o y e l h g = fun_ext (λ b. late_set xs i y b l ∙ by b (b == i) refl)
  where
    now : map pair_of y.spans.items ≡ late_in xs a ++ pair_of x ∷ []
    now = ap (map pair_of) g ∙ (pairs_more o.spans.items x ∙ ap (λ ps. ps ++ pair_of x ∷ []) (sym (late_at xs i o l h) ∙ ap (late_in xs) e))

    by : (b : ℕ) (t : Bool) → (b == i) ≡ t → (if t then map pair_of y.spans.items else late_in xs b) ≡ with_at (late_in xs) a (late_in xs a ++ pair_of x ∷ []) b
    by b true q = let p : (b == a) ≡ true = grind (arith, nat_tests) in rw p now
    by b false q = let p : (b == a) ≡ false = grind (arith, nat_tests) in rw p refl

-- the same spans by their pairs
abbrev pair_back : ℕ × Pages → LateSpan
pair_back x = record { mirror = x.0; span = x.1 }

pairs_back : (zs : List LateSpan) → map pair_back (map pair_of zs) ≡ zs
pairs_back [] = refl
pairs_back (z ∷ zs) = ap (λ ps. z ∷ ps) (pairs_back zs)

pub pairs_same : (ys zs : List LateSpan) → map pair_of ys ≡ map pair_of zs → ys ≡ zs
pairs_same ys zs e = sym (pairs_back ys) ∙ (ap (map pair_back) e ∙ pairs_back zs)

-- past the last actor
pub none_past : (xs : List ActorSpans) (a : ℕ) → length xs ≤ a → late_in xs a ≡ []
none_past [] a h = refl
none_past (x ∷ xs) zero h = absurd (omega arith)
none_past (x ∷ xs) (suc a) h = none_past xs a (omega arith)

pub same_on : (xs ys : List ActorSpans) (n : ℕ) → ((a : ℕ) → a < n → late_in xs a ≡ late_in ys a) → late_in xs n ≡ late_in ys n → (a : ℕ) → a < n + 1 → late_in xs a ≡ late_in ys a
same_on xs ys n h e a l = by (cases_eq a n)
  where
    by : (a ≡ n) ⊎ (a ≡ n → ⊥) → late_in xs a ≡ late_in ys a
    by (inl p) = ap (late_in xs) p ∙ (e ∙ sym (ap (late_in ys) p))
    by (inr p) = h a (grind arith)

pub same_all : (xs ys : List ActorSpans) (n : ℕ) → length xs ≡ n → length ys ≡ n → ((a : ℕ) → a < n → late_in xs a ≡ late_in ys a) → (a : ℕ) → late_in xs a ≡ late_in ys a
same_all xs ys n p q h a = by (nat_lt a n) refl
  where
    by : (b : Bool) → nat_lt a n ≡ b → late_in xs a ≡ late_in ys a
    by true e = h a (grind (arith, nat_tests))
    by false e = let l : n ≤ a = grind (arith, nat_tests) in none_past xs a (omega (arith, l, p)) ∙ sym (none_past ys a (omega (arith, l, q)))
