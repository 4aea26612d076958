-- The least number that the tree gives is the next number of those that overlap.
use Rattle.std.proofs.Common.{◌≡◌, ℕ, zero, suc, ◌+◌, ◌<◌, ◌≤◌, min, Bool, true, false, ◌||◌, ◌&&◌, cond, eqb, leb, Option, Some, None, List, [], ◌∷◌, find, is_some, refl, sym, ap, ◌∙◌, inl, inr, arith}
use Rattle.std.specs.Prelude.{filter}
use Rattle.std.proofs.lemmas.Bool.{cases_lt, or_right}
use Rattle.std.proofs.lemmas.Bool.Decides.{nat_tests}
use Rattle.hm_base.specs.Pages.{Pages, overlap}
use Rattle.interval_tree.specs.declared.node.Interval.{Interval}
use Rattle.interval_tree.specs.Items.{lesser, id_if, is_wanted, least_id}
use Rattle.interval_tree.specs.Intervals.{span_at, numbers, all_ids, span_overlaps, overlaps, is_above, from_of, next_overlapping, Agrees, has_id, IsIndex}

-- some interval of this number passes
passes : (Interval → Bool) → ℕ → List Interval → Bool
passes test m [] = false
passes test m (x ∷ xs) = (eqb x.id m && test x) || passes test m xs

AllBelow : ℕ → List Interval → Type 0
AllBelow n [] = Unit {0}
AllBelow n (x ∷ xs) = (x.id < n) × AllBelow n xs

-- the least number is that of an interval that passes, and no lesser number's passes
record IsLeast (p : ℕ → Bool) (n m : ℕ) : Type 0 where
  here : p m ≡ true
  below : m < n
  least : (k : ℕ) → k < m → p k ≡ false

LeastOf : (ℕ → Bool) → ℕ → Option ℕ → Type 0
LeastOf p n None = (k : ℕ) → p k ≡ false
LeastOf p n (Some m) = IsLeast p n m

least_one : (test : Interval → Bool) (n : ℕ) (x : Interval) → x.id < n → (b : Bool) → test x ≡ b → LeastOf (λ k. eqb x.id k && test x) n (id_if b x.id)
unfolding LeastOf
least_one test n x l true e = record { here = grind (arith, nat_tests); below = l; least = λ k h. grind (arith, nat_tests) }
least_one test n x l false e = λ k. grind (arith, nat_tests)

left_least : (p q : ℕ → Bool) (n a b : ℕ) → IsLeast p n a → IsLeast q n b → a ≤ b → IsLeast (λ k. p k || q k) n a
left_least p q n a b f g l = record { here = rw f.here refl; below = f.below; least = λ k h. rw (f.least k h) (g.least k (omega arith)) }

right_least : (p q : ℕ → Bool) (n a b : ℕ) → IsLeast p n a → IsLeast q n b → b ≤ a → IsLeast (λ k. p k || q k) n b
right_least p q n a b f g l = record { here = or_right (p b) (q b) g.here; below = g.below; least = λ k h. rw (f.least k (omega arith)) (g.least k h) }

least_both : (p q : ℕ → Bool) (n : ℕ) (a b : Option ℕ) → LeastOf p n a → LeastOf q n b → LeastOf (λ k. p k || q k) n (lesser a b)
unfolding LeastOf
least_both p q n None None f g = λ k. rw (f k) (g k)
least_both p q n None (Some b) f g = record { here = rw (f b) g.here; below = g.below; least = λ k h. rw (f k) (g.least k h) }
least_both p q n (Some a) None f g = record { here = rw f.here refl; below = f.below; least = λ k h. rw (f.least k h) (g k) }
least_both p q n (Some a) (Some b) f g = elim (cases_lt a b) [
  | inl h ↦ let e : min a b ≡ a = omega arith in rw e (left_least p q n a b f g (omega arith))
  | inr h ↦ let e : min a b ≡ b = omega arith in rw e (right_least p q n a b f g h)
]

least_of : (test : Interval → Bool) (n : ℕ) (xs : List Interval) → AllBelow n xs → LeastOf (λ k. passes test k xs) n (least_id test xs)
unfolding LeastOf passes AllBelow
least_of test n [] a = λ k. refl
least_of test n (x ∷ xs) a = least_both (λ k. eqb x.id k && test x) (λ k. passes test k xs) n (id_if (test x) x.id) (least_id test xs) (least_one test n x a.0 (test x) refl) (least_of test n xs a.1)

find_none : (p : ℕ → Bool) (from n : ℕ) → ((k : ℕ) → p k ≡ false) → find p (numbers from n) ≡ None
find_none p from zero f = refl
find_none p from (suc n) f = rw (f from) (find_none p (from + 1) n f)

pub find_least : (p : ℕ → Bool) (from n m : ℕ) → from ≤ m → m < from + n → p m ≡ true → ((k : ℕ) → k < m → p k ≡ false) → find p (numbers from n) ≡ Some m
find_least p from zero m l u h f = absurd (omega arith)
find_least p from (suc n) m l u h f = elim (cases_lt from m) [
  | inl e ↦ rw (f from e) (find_least p (from + 1) n m (omega arith) (omega arith) h f)
  | inr e ↦ let same : from ≡ m = omega arith in let t : p from ≡ true = ap p same ∙ h in rw t (ap (λ (k : ℕ). Some k) same)
]

least_is_found : (p : ℕ → Bool) (n : ℕ) (o : Option ℕ) → LeastOf p n o → find p (numbers 0 n) ≡ o
unfolding LeastOf
least_is_found p n None f = find_none p 0 n f
least_is_found p n (Some m) f = find_least p 0 n m (omega arith) (omega (arith, f.below)) f.here f.least

pub find-filter : (p q : ℕ → Bool) (xs : List ℕ) → find p (filter q xs) ≡ find (λ k. q k && p k) xs
find-filter p q [] = refl
find-filter p q (x ∷ xs) =
    let u = find-filter p q xs in
    elim (q x) as (λ b. find p (cond b (x ∷ filter q xs) (filter q xs)) ≡ cond (b && p x) (Some x) (find (λ k. q k && p k) xs)) [ true ↦ ap (cond (p x) (Some x)) u | false ↦ u ]

same_find : (p q : ℕ → Bool) → ((k : ℕ) → p k ≡ q k) → (xs : List ℕ) → find p xs ≡ find q xs
same_find p q e [] = refl
same_find p q e (x ∷ xs) = rw (e x) (ap (λ o. cond (q x) (Some x) o) (same_find p q e xs))

above_from : (after : Option ℕ) (m : ℕ) → is_above after m ≡ leb (from_of after) m
above_from None m = grind (arith, nat_tests)
above_from (Some k) m = grind (arith, nat_tests)

absorb : (v h : Bool) → (v || (h && v)) ≡ v
absorb true h = refl
absorb false true = refl
absorb false false = refl

pass_here : (same t v h : Bool) → (same ≡ true → t ≡ v) → ((same && t) || (h && v)) ≡ ((same || h) && v)
pass_here true t v h e = rw (e refl) (absorb v h)
pass_here false t v h e = refl

passes_by : (spans : List (Option Pages)) (s : Pages) (from m : ℕ) (xs : List Interval) → Agrees spans xs → passes (is_wanted s from) m xs ≡ (has_id m xs && (leb from m && span_overlaps s (span_at spans m)))
unfolding passes
passes_by spans s from m [] a = refl
passes_by spans s from m (x ∷ xs) a =
    rw (passes_by spans s from m xs a.2) (pass_here (eqb x.id m) (is_wanted s from x) (leb from m && span_overlaps s (span_at spans m)) (has_id m xs) (λ q. let same : x.id ≡ m = grind (arith, nat_tests) in rw (← same, a.1) refl))

below_of : (spans : List (Option Pages)) (xs : List Interval) → Agrees spans xs → AllBelow 32 xs
unfolding AllBelow
below_of spans [] a = tt
below_of spans (x ∷ xs) a = (a.0, below_of spans xs a.2)

and_true : (b : Bool) → b ≡ (b && true)
and_true true = refl
and_true false = refl

and_false : (b : Bool) → false ≡ (b && false)
and_false true = refl
and_false false = refl

overlaps_some : (s : Pages) (o : Option Pages) (b : Bool) → (is_some o && (b && span_overlaps s o)) ≡ (span_overlaps s o && b)
overlaps_some s None true = refl
overlaps_some s None false = refl
overlaps_some s (Some r) true = and_true (overlap r s)
overlaps_some s (Some r) false = and_false (overlap r s)

pub next_is : (spans : List (Option Pages)) (xs : List Interval) (s : Pages) (after : Option ℕ) → IsIndex spans xs → next_overlapping spans s after ≡ least_id (is_wanted s (from_of after)) xs
unfolding all_ids
next_is spans xs s after h =
    let test = is_wanted s (from_of after) in
    let each = λ (m : ℕ). passes_by spans s (from_of after) m xs h.agrees
    ∙ ap (λ b. b && (leb (from_of after) m && span_overlaps s (span_at spans m))) (sym (h.complete m))
    ∙ overlaps_some s (span_at spans m) (leb (from_of after) m)
    ∙ ap (λ b. span_overlaps s (span_at spans m) && b) (sym (above_from after m)) in
    find-filter (is_above after) (overlaps spans s) (numbers 0 32)
    ∙ sym (same_find (λ m. passes test m xs) (λ m. overlaps spans s m && is_above after m) each (numbers 0 32))
    ∙ least_is_found (λ m. passes test m xs) 32 (least_id test xs) (least_of test 32 xs (below_of spans xs h.agrees))
