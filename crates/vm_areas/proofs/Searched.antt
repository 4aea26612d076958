-- What stands at the place of a page in areas that rise, and what that says of all of them.
use Rattle.std.proofs.Common.{◌≡◌, ℕ, zero, suc, ◌+◌, ◌<◌, ◌≤◌, true, false, List, [], ◌∷◌, length, get_or, Some, None, nat_le, nat_lt, refl, ap, arith}
use Rattle.std.specs.Prelude.{slice_get}
use Rattle.std.specs.List.Sorted.{IsPartitionPoint, IsPartitionedBy}
use Rattle.std.proofs.lemmas.Bool.Decides.{nat_tests}
use Rattle.hm_base.specs.Pages.{Pages}
use Rattle.hm_base.specs.Areas.{last_of, meets, rights_at}
use Rattle.hm_base.specs.declared.area.Area.{Area}
use Rattle.vm_areas.specs.Order.{IsRising, place_of}

ends_above : (low : ℕ) (as_ : List Area) → IsRising low as_ → (j : ℕ) (d : Area) → j < length as_ → low ≤ last_of (get_or as_ j d).span
ends_above low [] r j d l = absurd (omega arith)
ends_above low (a ∷ as_) r zero d l = omega (arith, r.0)
ends_above low (a ∷ as_) r (suc j) d l = omega (arith, r.0, ends_above (last_of a.span) as_ r.2 j d (omega arith))

ends_rise : (low : ℕ) (as_ : List Area) → IsRising low as_ → (i j : ℕ) (d : Area) → i ≤ j → j < length as_ → last_of (get_or as_ i d).span ≤ last_of (get_or as_ j d).span
ends_rise low [] r i j d l b = absurd (omega arith)
ends_rise low (a ∷ as_) r zero zero d l b = omega arith
ends_rise low (a ∷ as_) r zero (suc j) d l b = ends_above (last_of a.span) as_ r.2 j d (omega arith)
ends_rise low (a ∷ as_) r (suc i) zero d l b = absurd (omega arith)
ends_rise low (a ∷ as_) r (suc i) (suc j) d l b = ends_rise (last_of a.span) as_ r.2 i j d (omega arith) (omega arith)

pub partitioned : (v low : ℕ) (as_ : List Area) → IsRising low as_ → IsPartitionedBy (λ (a : Area). nat_le (last_of a.span) v) as_
partitioned v low as_ r i j d l b e = let h = ends_rise low as_ r i j d l b in grind (arith, nat_tests)

pub place_is : (v : ℕ) (as_ : List Area) (i : ℕ) → i ≤ length as_ → IsPartitionPoint (λ (a : Area). nat_le (last_of a.span) v ≡ true) (λ (a : Area). nat_le (last_of a.span) v ≡ false) as_ i → i ≡ place_of v as_
place_is v [] i l h = omega arith
place_is v (a ∷ as_) zero l h = let e = h.1 0 a (omega arith) (omega arith) in rw e
place_is v (a ∷ as_) (suc i) l h = let e = h.0 0 a (omega arith) (omega arith) in
    rw e (ap (λ (n : ℕ). suc n) (place_is v as_ i (omega arith) ((λ k d p q. h.0 (suc k) d (omega arith) (omega arith)), (λ k d p q. h.1 (suc k) d (omega arith) (omega arith)))))

none_covers : (v low : ℕ) (as_ : List Area) → IsRising low as_ → v < low → rights_at as_ v ≡ None
none_covers v low [] r l = refl
none_covers v low (a ∷ as_) r l = let h = none_covers v (last_of a.span) as_ r.2 (omega (arith, r.0)) in
    let t : nat_le a.span.first v ≡ false = grind (arith, nat_tests, r.0) in rw t h

pub found_at : (v low : ℕ) (as_ : List Area) → IsRising low as_ → (a : Area) → slice_get as_ (place_of v as_) ≡ Some a → a.span.first ≤ v → rights_at as_ v ≡ Some a.rights
found_at v low [] r a e l = cc
found_at v low (b ∷ as_) r a e l = grind (arith, nat_tests, found_at v (last_of b.span) as_ r.2 a, r.0, r.1)

pub after_page : (v low : ℕ) (as_ : List Area) → IsRising low as_ → (a : Area) → slice_get as_ (place_of v as_) ≡ Some a → v < a.span.first → rights_at as_ v ≡ None
after_page v low [] r a e l = refl
after_page v low (b ∷ as_) r a e l = grind (arith, nat_tests, after_page v (last_of b.span) as_ r.2 a, none_covers v (last_of b.span) as_ r.2, r.0, r.1)

pub none_at : (v low : ℕ) (as_ : List Area) → IsRising low as_ → slice_get as_ (place_of v as_) ≡ None → rights_at as_ v ≡ None
none_at v low [] r e = refl
none_at v low (b ∷ as_) r e = grind (arith, nat_tests, none_at v (last_of b.span) as_ r.2, r.0, r.1)

none_meets : (s : Pages) (low : ℕ) (as_ : List Area) → IsRising low as_ → s.first + s.count ≤ low → meets s as_ ≡ false
none_meets s low [] r l = refl
none_meets s low (a ∷ as_) r l = let h = none_meets s (last_of a.span) as_ r.2 (omega (arith, r.0)) in
    let t : nat_lt a.span.first (s.first + s.count) ≡ false = grind (arith, nat_tests, r.0) in rw t h

pub meets_at : (s : Pages) (low : ℕ) (as_ : List Area) → IsRising low as_ → (a : Area) → slice_get as_ (place_of s.first as_) ≡ Some a → meets s as_ ≡ nat_lt a.span.first (s.first + s.count)
meets_at s low [] r a e = cc
meets_at s low (b ∷ as_) r a e = grind (arith, nat_tests, meets_at s (last_of b.span) as_ r.2 a, none_meets s (last_of b.span) as_ r.2, r.0, r.1)

pub meets_none : (s : Pages) (low : ℕ) (as_ : List Area) → IsRising low as_ → slice_get as_ (place_of s.first as_) ≡ None → meets s as_ ≡ false
meets_none s low [] r e = refl
meets_none s low (b ∷ as_) r e = grind (arith, nat_tests, meets_none s (last_of b.span) as_ r.2, r.0, r.1)
