-- An area more among areas that rise.
use Rattle.std.proofs.Common.{◌≡◌, ℕ, ◌<◌, ◌≤◌, Bool, true, false, List, [], ◌∷◌, length, nat_lt, None, if◌then◌else◌, refl, arith}
use Rattle.std.specs.Prelude.{insert}
use Rattle.std.proofs.lemmas.Bool.Decides.{nat_tests}
use Rattle.hm_base.specs.Pages.{Pages}
use Rattle.hm_base.specs.Areas.{last_of, meets, with_area}
use Rattle.hm_base.specs.declared.area.Area.{Area}
use Rattle.vm_areas.specs.Order.{IsRising, place_of}
use Rattle.vm_areas.specs.Refusals.{insert_refusal}

pub added : (n : Area) (low : ℕ) (as_ : List Area) → IsRising low as_ → 1 ≤ n.span.count → meets n.span as_ ≡ false → insert as_ (place_of n.span.first as_) n ≡ with_area n as_
added n low [] r s m = refl
added n low (a ∷ as_) r s m = grind (arith, nat_tests, added n (last_of a.span) as_ r.2, r.0, r.1)

rising_either : (n a : Area) (low : ℕ) (as_ : List Area) → IsRising low (a ∷ as_) → low ≤ n.span.first → 1 ≤ n.span.count → meets n.span (a ∷ as_) ≡ false → (t : Bool) → t ≡ nat_lt n.span.first a.span.first
    → (t ≡ false → IsRising (last_of a.span) (with_area n as_)) → IsRising low (if t then n ∷ (a ∷ as_) else (a ∷ with_area n as_))
rising_either n a low as_ r l s m true e h = (l, s, (grind (arith, nat_tests), r.1, r.2))
rising_either n a low as_ r l s m false e h = (r.0, r.1, h refl)

past : (n a : Area) (as_ : List Area) → 1 ≤ n.span.count → meets n.span (a ∷ as_) ≡ false → nat_lt n.span.first a.span.first ≡ false → (last_of a.span ≤ n.span.first) × (meets n.span as_ ≡ false)
past n a as_ s m e = (grind (arith, nat_tests), grind (arith, nat_tests))

pub rising_added : (n : Area) (low : ℕ) (as_ : List Area) → IsRising low as_ → low ≤ n.span.first → 1 ≤ n.span.count → meets n.span as_ ≡ false → IsRising low (with_area n as_)
rising_added n low [] r l s m = (l, s, tt)
rising_added n low (a ∷ as_) r l s m =
    rising_either n a low as_ r l s m (nat_lt n.span.first a.span.first) refl
    (λ e. let p = past n a as_ s m e in rising_added n (last_of a.span) as_ r.2 p.0 s p.1)

pub may_insert : (s : Pages) (as_ : List Area) → insert_refusal s as_ ≡ None → (meets s as_ ≡ false) × (length as_ < 64)
may_insert s as_ e = (grind (arith, nat_tests), grind (arith, nat_tests))
