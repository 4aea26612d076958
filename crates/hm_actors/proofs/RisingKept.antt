-- Records in rising page order: what a search may pass over, and what a change leaves in order.
use Rattle.std.proofs.Common.{◌≡◌, ℕ, zero, suc, ◌+◌, ◌-◌, ◌<◌, ◌≤◌, ◌==◌, ◌⊎◌, inl, inr, Bool, true, false, ◌&&◌, nat_le, nat_lt, List, [], ◌∷◌, ◌++◌, length, refl, sym, ap, ◌∙◌, arith, slice_set, slice_index_or, take, drop, subst}
use Rattle.std.specs.Prelude.{find}
use Rattle.std.specs.Bool.{if◌then◌else◌}
use Rattle.std.specs.List.Sorted.{IsPartitionedBy, IsPartitionPoint}
use Rattle.std.proofs.Math.Seq.{take-append_seam}
use Rattle.std.proofs.lemmas.Bool.{cases_eq, cases_lt}
use Rattle.std.proofs.lemmas.Bool.Decides.{nat_tests}
use Rattle.std.proofs.lemmas.List.{ext_get_or, get_or-map, length-drop, length-map, length-set, take_all}
use Rattle.std.proofs.lemmas.Grind.{elements, common_steps}
use Rattle.hm_history.specs.Kernel.Going.{with_record}
use Rattle.hm_history.specs.declared.phases.Migrating.{Migrating}
use Rattle.hm_actors.specs.Coming.{first_from}
use Rattle.hm_actors.specs.Rising.{Rises, IsBefore, EndsBelow}
use Rattle.hm_history.proofs.Records.{page_stays}

-- records below the page are passed over
not_here : (next : ℕ) (test : Migrating → Bool) (x : Migrating) (xs : List Migrating) (b : Bool) → (nat_le next x.page && test x) ≡ b → b ≡ false → first_from test next (x ∷ xs) ≡ first_from test next xs
not_here next test x xs true e t = cc
not_here next test x xs false e t = rw (e, find) refl

below_fails : (next p : ℕ) (b : Bool) → p < next → (nat_le next p && b) ≡ false
below_fails next p b l = let e : nat_le next p ≡ false = grind (arith, nat_tests) in rw e refl

passed : (test : Migrating → Bool) (next n : ℕ) (xs : List Migrating) → n ≤ length xs → IsBefore next n xs → first_from test next (drop n xs) ≡ first_from test next xs
passed test next zero xs l h = refl
passed test next (suc n) [] l h = refl
passed test next (suc n) (x ∷ xs) l h =
    passed test next n xs (omega arith) (λ i d k. h (suc i) d (omega arith))
    ∙ sym (not_here next test x xs _ (below_fails next x.page (test x) (h 0 x (omega arith))) refl)

pub passed_over : (test : Migrating → Bool) (next n : ℕ) (xs : List Migrating) → n ≤ length xs → IsBefore next n xs → first_from test next (take (length xs - n) (drop n xs)) ≡ first_from test next xs
passed_over test next n xs l h = ap (λ (z : List Migrating). first_from test next z) (take_all (length xs - n) (drop n xs) (omega (arith, length-drop n xs))) ∙ passed test next n xs l h

-- the page of a record stays
with_at : (m : Migrating) (xs : List Migrating) (i : ℕ) (d : Migrating) → i < length xs → slice_index_or (with_record m xs) i d ≡ (if (slice_index_or xs i d).page == m.page then m else slice_index_or xs i d)
with_at m xs i d l = get_or-map (λ (y : Migrating). if y.page == m.page then m else y) xs i d d l

pub rises_with : (m : Migrating) (xs : List Migrating) → Rises xs → Rises (with_record m xs)
rises_with m xs h i j d l k =
    let n : j < length xs = omega (arith, length-map xs (λ (y : Migrating). if y.page == m.page then m else y)) in
    let p : (slice_index_or (with_record m xs) i d).page ≡ (slice_index_or xs i d).page = ap (λ (y : Migrating). y.page) (with_at m xs i d (omega arith)) ∙ page_stays m (slice_index_or xs i d) in
    let q : (slice_index_or (with_record m xs) j d).page ≡ (slice_index_or xs j d).page = ap (λ (y : Migrating). y.page) (with_at m xs j d n) ∙ page_stays m (slice_index_or xs j d) in
    omega (arith, p, q, h i j d l n)

-- one more above the last
front : (xs : List Migrating) (x : Migrating) (i : ℕ) (d : Migrating) → i < length xs → slice_index_or (xs ++ (x ∷ [])) i d ≡ slice_index_or xs i d
front xs x i d l = grind (arith, elements)

last : (xs : List Migrating) (x : Migrating) (i : ℕ) (d : Migrating) → i ≡ length xs → slice_index_or (xs ++ (x ∷ [])) i d ≡ x
last xs x i d l = grind (arith, elements)

len_more : (xs : List Migrating) (x : Migrating) → length (xs ++ (x ∷ [])) ≡ length xs + 1
len_more xs x = grind (arith, common_steps)

up_to_last : (xs : List Migrating) (p i : ℕ) (d : Migrating) → Rises xs → EndsBelow p xs → i < length xs → (slice_index_or xs i d).page < p
up_to_last xs p i d h e l = by (cases_lt i (length xs - 1))
  where
    by : (i < length xs - 1) ⊎ (length xs - 1 ≤ i) → (slice_index_or xs i d).page < p
    by (inl b) = omega (arith, h i (length xs - 1) d b (omega arith), e d (omega arith))
    by (inr b) = let q : i ≡ length xs - 1 = omega arith in
        omega (arith, ap (λ (n : ℕ). (slice_index_or xs n d).page) q, e d (omega arith))

pub rises_more : (xs : List Migrating) (x : Migrating) → Rises xs → EndsBelow x.page xs → Rises (xs ++ (x ∷ []))
rises_more xs x h e i j d l k = by (cases_lt j (length xs))
  where
    by : (j < length xs) ⊎ (length xs ≤ j) → (slice_index_or (xs ++ (x ∷ [])) i d).page < (slice_index_or (xs ++ (x ∷ [])) j d).page
    by (inl b) = omega (arith, ap (λ (y : Migrating). y.page) (front xs x i d (omega arith)), ap (λ (y : Migrating). y.page) (front xs x j d b), h i j d l b)
    by (inr b) = let q : j ≡ length xs = omega (arith, len_more xs x) in
        omega (arith, ap (λ (y : Migrating). y.page) (front xs x i d (omega arith)), ap (λ (y : Migrating). y.page) (last xs x j d q), up_to_last xs x.page i d h e (omega arith))

pub rises_like : (xs : List Migrating) (p : ℕ) → Rises xs → EndsBelow p xs → (x : Migrating) → x.page ≡ p → Rises (xs ++ (x ∷ []))
rises_like xs p h e x q = rises_more xs x h (subst (λ (n : ℕ). EndsBelow n xs) (sym q) e)

-- what is written back in place of all records
pub rises_written : (m : Migrating) (xs new : List Migrating) (n : ℕ) → n ≡ length new → new ≡ with_record m xs → Rises xs → (ys : List Migrating) → Rises (take n (new ++ ys))
rises_written m xs new n l e h ys =
    let q : take n (new ++ ys) ≡ with_record m xs = ap (λ (i : ℕ). take i (new ++ ys)) l ∙ take-append_seam new ys ∙ e in
    subst Rises (sym q) (rises_with m xs h)

-- in rising order the record of a page is the one that changes
same_there : (xs : List Migrating) (i : ℕ) (y d : Migrating) → y ≡ slice_index_or xs i y → i < length xs → slice_index_or xs i d ≡ y
same_there xs i y d e l = grind (arith, elements)

chosen : (p q : ℕ) (x y : Migrating) → p ≡ q → (if p == q then x else y) ≡ x
chosen p q x y e = grind (arith, nat_tests)

not_chosen : (p q : ℕ) (x y : Migrating) → (p ≡ q → ⊥) → (if p == q then x else y) ≡ y
not_chosen p q x y e = grind (arith, nat_tests)

set_here : (xs : List Migrating) (at i : ℕ) (m : Migrating) → at < length xs → i ≡ at → slice_index_or (slice_set xs at m) i m ≡ m
set_here xs at i m l e = grind (arith, elements)

set_there : (xs : List Migrating) (at i : ℕ) (m : Migrating) → (i ≡ at → ⊥) → slice_index_or (slice_set xs at m) i m ≡ slice_index_or xs i m
set_there xs at i m e = grind (arith, elements)

apart : (xs : List Migrating) (at i p : ℕ) (d : Migrating) → Rises xs → at < length xs → i < length xs → (i ≡ at → ⊥) → (slice_index_or xs at d).page ≡ p → (slice_index_or xs i d).page ≡ p → ⊥
apart xs at i p d h l k ne e q = by (cases_lt i at)
  where
    by : (i < at) ⊎ (at ≤ i) → ⊥
    by (inl b) = omega (arith, h i at d b l)
    by (inr b) = let lt : at < i = omega arith in omega (arith, h at i d lt k)

pub one_changes : (m : Migrating) (xs : List Migrating) (at : ℕ) (y : Migrating) → Rises xs → at < length xs → y ≡ slice_index_or xs at y → y.page ≡ m.page → slice_set xs at m ≡ with_record m xs
one_changes m xs at y h l q e = ext_get_or m _ _ (length-set xs at m ∙ sym (length-map xs (λ (y : Migrating). if y.page == m.page then m else y))) (λ i k. by i (omega (arith, length-set xs at m)) (cases_eq i at))
  where
    page_is : (slice_index_or xs at m).page ≡ m.page
    page_is = ap (λ (x : Migrating). x.page) (same_there xs at y m q l) ∙ e

    by : (i : ℕ) → i < length xs → (i ≡ at) ⊎ (i ≡ at → ⊥) → slice_index_or (slice_set xs at m) i m ≡ slice_index_or (with_record m xs) i m
    by i k (inl b) = set_here xs at i m l b ∙ sym (with_at m xs i m k ∙ chosen _ _ m _ (ap (λ (n : ℕ). (slice_index_or xs n m).page) b ∙ page_is))
    by i k (inr b) = set_there xs at i m b ∙ sym (with_at m xs i m k ∙ not_chosen _ _ m _ (apart xs at i m.page m h l k b page_is))

-- what stands before a record below the page does too
pub before_place : (page at : ℕ) (xs : List Migrating) (y : Migrating) → Rises xs → 0 < at → at ≤ length xs → y ≡ slice_index_or xs (at - 1) y → y.page < page → IsBefore page at xs
before_place page at xs y h p l q b i d k = by (cases_lt i (at - 1))
  where
    page_is : (slice_index_or xs (at - 1) d).page ≡ y.page
    page_is = ap (λ (x : Migrating). x.page) (same_there xs (at - 1) y d q (omega arith))

    by : (i < at - 1) ⊎ (at - 1 ≤ i) → (slice_index_or xs i d).page < page
    by (inl n) = omega (arith, page_is, h i (at - 1) d n (omega arith))
    by (inr n) = let e : i ≡ at - 1 = omega arith in omega (arith, page_is, ap (λ (n : ℕ). (slice_index_or xs n d).page) e)

-- what the search among all asks
below_too : (p q n : ℕ) → p ≤ q → nat_lt q n ≡ true → nat_lt p n ≡ true
below_too p q n l t = grind (arith, nat_tests)

pub partitioned : (page : ℕ) (xs : List Migrating) → Rises xs → IsPartitionedBy (λ (x : Migrating). nat_lt x.page page) xs
partitioned page xs h i j d l k t = below_too _ _ page (by (cases_lt i j)) t
  where
    by : (i < j) ⊎ (j ≤ i) → (slice_index_or xs i d).page ≤ (slice_index_or xs j d).page
    by (inl n) = omega (arith, h i j d n k)
    by (inr n) = let e : i ≡ j = omega arith in omega (arith, ap (λ (n : ℕ). (slice_index_or xs n d).page) e)

pub test_below : (p n : ℕ) → nat_lt p n ≡ true → p < n
test_below p n t = grind (arith, nat_tests)

pub all_before : (page at : ℕ) (xs : List Migrating) → IsPartitionPoint (λ (x : Migrating). nat_lt x.page page ≡ true) (λ (x : Migrating). nat_lt x.page page ≡ false) xs at → IsBefore page at xs
all_before page at xs h i d l = test_below _ page (h.0 i d (omega arith) l)
