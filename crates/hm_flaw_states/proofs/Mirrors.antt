-- Sets of mirrors, and their numbers.
use Rattle.std.proofs.Common.{◌≡◌, ℕ, ◌<◌, ◌==◌, Bool, false, inl, inr, List, length, sym, ap, ◌∙◌, arith}
use Rattle.std.specs.List.{list_any}
use Rattle.std.proofs.lemmas.Bool.{cases_lt}
use Rattle.std.proofs.Math.ListN.{get_or-eq_default}
use Rattle.hm_folds.specs.Kept.{has_mirror, mirrors_of}
use Rattle.hm_folds.proofs.Sets.{any_here, same_set}
use Rattle.hm_flaw_states.specs.Guards.{mirrors_in}

pub those_in : (xs : List Bool) (ms : List ℕ) → mirrors_of xs ≡ ms → mirrors_in xs ≡ ms
unfolding mirrors_in
those_in xs ms e = e

-- sets that have the same mirrors, and the other way round
pub same_in : (xs ys : List Bool) → ((k : ℕ) → has_mirror xs k ≡ has_mirror ys k) → mirrors_in xs ≡ mirrors_in ys
unfolding mirrors_in
same_in xs ys h = same_set (has_mirror xs) (has_mirror ys) 0 32 (λ k l m. h k)

any_in : (xs : List Bool) (k : ℕ) → k < 32 → list_any (λ j. j == k) (mirrors_in xs) ≡ has_mirror xs k
unfolding mirrors_in
any_in xs k l = any_here (has_mirror xs) 0 32 k (omega arith) (omega (arith, l))

pub sets_same : (xs ys : List Bool) → length xs ≡ 32 → length ys ≡ 32 → mirrors_in xs ≡ mirrors_in ys → (k : ℕ) → has_mirror xs k ≡ has_mirror ys k
sets_same xs ys n m e k = elim (cases_lt k 32) [
  | inl l ↦ sym (any_in xs k l) ∙ (ap (λ (ms : List ℕ). list_any (λ j. j == k) ms) e ∙ any_in ys k l)
  | inr l ↦ get_or-eq_default xs false (omega (arith, n, l)) ∙ sym (get_or-eq_default ys false (omega (arith, m, l)))
]
