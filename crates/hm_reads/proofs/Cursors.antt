-- What a body has next, of a cursor that stops at the end of the span.
use Rattle.std.proofs.Common.{◌≡◌, ℕ, ◌+◌, Bool, true, false, ltb, cond, Option, Some, None, refl, ap, ◌∙◌}
use Rattle.std.proofs.lemmas.Option.{same_Some}
use Rattle.hm_base.specs.Pages.{Pages}
use Rattle.hm_history.specs.declared.Kind.{Kind}
use Rattle.hm_history.specs.Kernel.Due.{within}
use Rattle.hm_reads.specs.Cursors.{page_before}

pub within_none : (r : Pages) (x : Option ℕ) (f : ℕ → Kind) (end : ℕ) → end ≡ r.first + r.count → None ≡ page_before end x → None ≡ within r x f
within_none r None f end e h = refl
within_none r (Some u) f end e h = by (ltb u (r.first + r.count)) (h ∙ ap (λ k. page_before k (Some u)) e)
  where
    by : (b : Bool) → None ≡ cond b (Some u) None → None ≡ elim b as (λ x. Option Kind) [ true ↦ Some (f u) | false ↦ None ]
    by true h = cc
    by false h = refl

pub within_some : (r : Pages) (x : Option ℕ) (f : ℕ → Kind) (end v : ℕ) → end ≡ r.first + r.count → Some v ≡ page_before end x → Some (f v) ≡ within r x f
within_some r None f end v e h = cc
within_some r (Some u) f end v e h = by (ltb u (r.first + r.count)) (h ∙ ap (λ k. page_before k (Some u)) e)
  where
    by : (b : Bool) → Some v ≡ cond b (Some u) None → Some (f v) ≡ elim b as (λ x. Option Kind) [ true ↦ Some (f u) | false ↦ None ]
    by true h = ap (λ k. Some (f k)) (same_Some v u h)
    by false h = cc
