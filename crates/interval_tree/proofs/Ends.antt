-- Where the numbers that have an interval end.
use Rattle.std.proofs.Common.{◌≡◌, ◌≢◌, ℕ, zero, suc, ◌<◌, ◌≤◌, min, false, Option, Some, None, List, [], ◌∷◌, refl, ap, ◌∙◌, ◌⊎◌, inl, inr, arith}
use Rattle.std.specs.Prelude.{replicate, slice_set}
use Rattle.std.proofs.lemmas.Bool.{cases_eq, cases_lt}
use Rattle.hm_base.specs.Pages.{Pages}
use Rattle.interval_tree.specs.Intervals.{IsEnd, span_at, span_overlaps, overlaps, next_overlapping}
use Rattle.interval_tree.proofs.Above.{none_above}

pub end_at_first : (n end : ℕ) → IsEnd (replicate n None) end
end_at_first zero end m l = refl
end_at_first (suc n) end zero l = refl
end_at_first (suc n) end (suc m) l = end_at_first n 0 m (omega arith)

set_other : (spans : List (Option Pages)) (at m : ℕ) (x : Option Pages) → m ≢ at → span_at (slice_set spans at x) m ≡ span_at spans m
set_other [] at m x d = refl
set_other (s ∷ spans) zero zero x d = absurd (d refl)
set_other (s ∷ spans) zero (suc m) x d = refl
set_other (s ∷ spans) (suc at) zero x d = refl
set_other (s ∷ spans) (suc at) (suc m) x d = set_other spans at m x (λ e. d (ap (λ n. suc n) e))

set_none : (spans : List (Option Pages)) (at : ℕ) → span_at (slice_set spans at None) at ≡ None
set_none [] at = refl
set_none (s ∷ spans) zero = refl
set_none (s ∷ spans) (suc at) = set_none spans at

pub end_with : (spans : List (Option Pages)) (end now at : ℕ) (x : Option Pages) → IsEnd spans end → end ≤ now → at < now → IsEnd (slice_set spans at x) now
end_with spans end now at x h l a m b = set_other spans at m x (λ e. absurd (omega (arith, a, b, e))) ∙ h m (omega (arith, l, b))

pub end_without : (spans : List (Option Pages)) (end at : ℕ) → IsEnd spans end → IsEnd (slice_set spans at None) end
end_without spans end at h m l = by (cases_eq m at)
  where
    by : (m ≡ at) ⊎ (m ≢ at) → span_at (slice_set spans at None) m ≡ None
    by (inl e) = ap (λ k. span_at (slice_set spans at None) k) e ∙ set_none spans at
    by (inr d) = set_other spans at m None d ∙ h m l

-- none of those above a number overlaps, if none below the end does
pub none_below : (spans : List (Option Pages)) (s : Pages) (k end last : ℕ) → IsEnd spans end → last ≡ min end 32 → ((j : ℕ) → k < j → j < last → overlaps spans s j ≡ false) → None ≡ next_overlapping spans s (Some k)
none_below spans s k end last h e f = none_above spans s k (λ j a b. by j a b (cases_lt j end))
  where
    by : (j : ℕ) → k < j → j < 32 → (j < end) ⊎ (end ≤ j) → overlaps spans s j ≡ false
    by j a b (inl l) = f j a (omega (arith, e, l, b))
    by j a b (inr l) = ap (span_overlaps s) (h j l)
