-- The pages that have a place, and the first item that passes a test.
use Rattle.std.proofs.Common.{◌≡◌, ℕ, suc, ◌+◌, ◌<◌, ◌≤◌, ◌^◌, Bool, true, false, List, [], ◌∷◌, Option, Some, None, refl, sym, ap, ◌∙◌, subst, arith, count_by, cond, fold}
use Rattle.std.specs.Prelude.{⊤, ◌==◌, ◌&&◌, ◌||◌, not, if◌then◌else◌, nat_lt, nat_le, unwrap_or}
use Rattle.std.specs.List.{list_any}
use Rattle.std.proofs.lemmas.Bool.Decides.{nat_tests}
use Rattle.hm_base.specs.PlaceWords.{is_empty_place}
use Rattle.hm_base.specs.declared.Place.{Place}
use Rattle.hm_history.specs.Memory.Places.{is_page, lower, lowest, next_page}
use Rattle.hm_reads.specs.Cursors.{page_before}
use Rattle.hm_race_keys.specs.Sparse.{stands_at, stands_before, rising_from, found}
use Rattle.hm_race_keys.specs.PagePlaces.{places_in, listed, places_of, may_keep, IsPlaced, first_item}
use Rattle.hm_race_keys.specs.declared.sparse.Item.{Item}
use Rattle.hm_race_keys.proofs.Ordered.{IsUnder, IsBelow, AllFound, all_found, head, tail, not_at, behind, past_it}

-- a page that is found is no lower than a number of a row
abbrev IsAfter : ℕ → ℕ → Option (ℕ × ℕ) → Type 0
IsAfter a b None = ⊤
IsAfter a b (Some y) = IsUnder a b y.0 y.1

at_first : (a b : ℕ) (x : Item Place) → stands_before a b x ≡ false → IsUnder a b x.row x.number
at_first a b x e = grind (arith, nat_tests)

lower_bound : (a b : ℕ) (x : Item Place) (y : ℕ × ℕ) → stands_before a b x ≡ false → IsUnder x.row (suc x.number) y.0 y.1 → IsUnder a b y.0 y.1
lower_bound a b x y e u = grind (arith, nat_tests)

after_lower : (a b : ℕ) (x : Item Place) (o : Option (ℕ × ℕ)) → stands_before a b x ≡ false → IsAfter x.row (suc x.number) o → IsAfter a b o
after_lower a b x None e h = tt
after_lower a b x (Some y) e h = lower_bound a b x y e h

first_after : (t : Item Place → Bool) (a b : ℕ) (xs : List (Item Place)) → rising_from a b xs ≡ true → IsAfter a b (first_item t xs)
first_after t a b [] e = tt
first_after t a b (x ∷ xs) e = by (t x) (first_after t x.row (suc x.number) xs (tail a b x xs e))
  where
    by : (c : Bool) → IsAfter x.row (suc x.number) (first_item t xs) → IsAfter a b (if c then Some (x.row, x.number) else first_item t xs)
    by true ih = at_first a b x (head a b x xs e)
    by false ih = after_lower a b x (first_item t xs) (head a b x xs e) ih

is_lower : (p v : ℕ) (y : ℕ × ℕ) → IsUnder p (suc v) y.0 y.1 → (nat_lt p y.0 || ((p == y.0) && nat_lt v y.1)) ≡ true
is_lower p v y u = grind (arith, nat_tests)

lower_first : (p v : ℕ) (o : Option (ℕ × ℕ)) → IsAfter p (suc v) o → lower (p, v) o ≡ Some (p, v)
lower_first p v None h = refl
lower_first p v (Some y) h = rw (is_lower p v y h) refl

-- a test of pages and one of items that agree at each item
abbrev pub Agrees : (ℕ → ℕ → Bool) → (Item Place → Bool) → List (Item Place) → Type 0
Agrees T t [] = ⊤
Agrees T t (x ∷ xs) = (T x.row x.number ≡ t x) × Agrees T t xs

lowest_first : (T : ℕ → ℕ → Bool) (t : Item Place → Bool) (a b : ℕ) (xs : List (Item Place)) → rising_from a b xs ≡ true → Agrees T t xs → lowest T (listed xs) ≡ first_item t xs
lowest_first T t a b [] e h = refl
lowest_first T t a b (x ∷ xs) e h = by (T x.row x.number) (t x) h.0 (lowest_first T t x.row (suc x.number) xs (tail a b x xs e) h.1)
  where
    by : (c d : Bool) → c ≡ d → lowest T (listed xs) ≡ first_item t xs → ◌≡◌ {A = Option (ℕ × ℕ)} (elim c as (λ y. Option (ℕ × ℕ)) [ true ↦ lower (x.row, x.number) (lowest T (listed xs)) | false ↦ lowest T (listed xs) ]) (if d then Some (x.row, x.number) else first_item t xs)
    by true true q ih = ap (lower (x.row, x.number)) ih ∙ lower_first x.row x.number (first_item t xs) (first_after t x.row (suc x.number) xs (tail a b x xs e))
    by true false q ih = cc
    by false true q ih = cc
    by false false q ih = ih

agrees_by : (k : ℕ → ℕ → Place → Bool) (f : ℕ → ℕ → Option Place) (xs : List (Item Place)) → AllFound f xs → Agrees (λ p v. k p v (unwrap_or (f p v) Place.Empty)) (λ x. k x.row x.number x.value) xs
agrees_by k f [] h = tt
agrees_by k f (x ∷ xs) h = (ap (λ (o : Option Place). k x.row x.number (unwrap_or o Place.Empty)) h.0, agrees_by k f xs h.1)

pub lowest_is : (k : ℕ → ℕ → Place → Bool) (xs : List (Item Place)) → rising_from 0 0 xs ≡ true → lowest (λ p v. k p v (places_in xs p v)) (listed xs) ≡ first_item (λ x. k x.row x.number x.value) xs
lowest_is k xs e = lowest_first _ _ 0 0 xs e (agrees_by k (found xs) xs (all_found 0 0 xs e))

pub next_is : (test : Place → Bool) (p from : ℕ) (xs : List (Item Place)) (o : Option (ℕ × ℕ)) → rising_from 0 0 xs ≡ true → first_item (λ x. (x.row == p) && (nat_le from x.number && test x.value)) xs ≡ o → next_page (places_of xs) test p from ≡ (elim o as (λ y. Option ℕ) [ None ↦ None | Some x ↦ Some x.1 ])
next_is test p from xs o e f = ap (λ (z : Option (ℕ × ℕ)). elim z as (λ y. Option ℕ) [ None ↦ None | Some x ↦ Some x.1 ]) (lowest_is (λ q v y. (q == p) && (nat_le from v && test y)) xs e ∙ f)

pub before_end : (n end : ℕ) → n < end → Some n ≡ page_before end (Some n)
before_end n end l = let t : nat_lt n end ≡ true = grind (arith, nat_tests) in rw t refl

pub past_end : (n end : ℕ) → end ≤ n → None ≡ page_before end (Some n)
past_end n end l = let t : nat_lt n end ≡ false = grind (arith, nat_tests) in rw t refl

-- how many pass
folded : (T : ℕ × ℕ → Bool) (t : Item Place → Bool) (n : ℕ) (xs : List (Item Place)) → Agrees (λ p v. T (p, v)) t xs → fold (λ a y. a + cond (T y) 1 0) n (listed xs) ≡ fold (λ a y. a + cond (t y) 1 0) n xs
folded T t n [] h = refl
folded T t n (x ∷ xs) h = ap (λ c. fold (λ a y. a + cond (T y) 1 0) (n + cond c 1 0) (listed xs)) h.0 ∙ folded T t (n + cond (t x) 1 0) xs h.1

pub count_is : (k : Place → Bool) (xs : List (Item Place)) → rising_from 0 0 xs ≡ true → count_by (λ (y : ℕ × ℕ). k (places_in xs y.0 y.1)) (listed xs) ≡ count_by (λ (x : Item Place). k x.value) xs
count_is k xs e = folded (λ (y : ℕ × ℕ). k (places_in xs y.0 y.1)) (λ (x : Item Place). k x.value) 0 xs (agrees_by (λ p v. k) (found xs) xs (all_found 0 0 xs e))

-- a page that is found is in range
abbrev IsInRange : Option (ℕ × ℕ) → Type 0
IsInRange None = ⊤
IsInRange (Some y) = (y.0 < 32) × (y.1 < 2 ^ 36)

ranges : (p v : ℕ) (x : Place) → may_keep p v (Some x) ≡ true → (p < 32) × (v < 2 ^ 36)
ranges p v x e = both (nat_lt p 32) refl (nat_lt v (2 ^ 36)) refl e
  where
    both : (c : Bool) → nat_lt p 32 ≡ c → (d : Bool) → nat_lt v (2 ^ 36) ≡ d → (c && (d && not (is_empty_place x))) ≡ true → (p < 32) × (v < 2 ^ 36)
    both true a true b e = (grind (arith, nat_tests), grind (arith, nat_tests))
    both true a false b e = cc
    both false a d b e = cc

first_in_range : (t : Item Place → Bool) (ws xs : List (Item Place)) → IsPlaced ws → AllFound (found ws) xs → IsInRange (first_item t xs)
first_in_range t ws [] placed h = tt
first_in_range t ws (x ∷ xs) placed h = by (t x) (first_in_range t ws xs placed h.1)
  where
    here : may_keep x.row x.number (Some x.value) ≡ true
    here = ap (may_keep x.row x.number) (sym h.0) ∙ placed x.row x.number

    by : (c : Bool) → IsInRange (first_item t xs) → IsInRange (if c then Some (x.row, x.number) else first_item t xs)
    by true ih = ranges x.row x.number x.value here
    by false ih = ih

pub found_in_range : (t : Item Place → Bool) (xs : List (Item Place)) (p v : ℕ) → IsPlaced xs → rising_from 0 0 xs ≡ true → first_item t xs ≡ Some (p, v) → (p < 32) × (v < 2 ^ 36)
found_in_range t xs p v placed e f = subst IsInRange f (first_in_range t xs xs placed (all_found 0 0 xs e))

-- each page with a place is listed, and once
page_at : (p v : ℕ) (x : Item Place) → stands_at p v x ≡ true → is_page p v (x.row, x.number) ≡ true
page_at p v x e = grind (arith, nat_tests)

pub has_each : (xs : List (Item Place)) (p v : ℕ) → is_empty_place (places_in xs p v) ≡ false → list_any (is_page p v) (listed xs) ≡ true
has_each [] p v e = sym e
has_each (x ∷ xs) p v e = by (stands_at p v x) refl e (has_each xs p v)
  where
    by : (c : Bool) → stands_at p v x ≡ c → is_empty_place (unwrap_or (if c then Some x.value else found xs p v) Place.Empty) ≡ false → (is_empty_place (places_in xs p v) ≡ false → list_any (is_page p v) (listed xs) ≡ true) → (is_page p v (x.row, x.number) || list_any (is_page p v) (listed xs)) ≡ true
    by true s d ih = ap (λ c. c || list_any (is_page p v) (listed xs)) (page_at p v x s)
    by false s d ih = or_right (is_page p v (x.row, x.number)) (list_any (is_page p v) (listed xs)) (ih d)
      where
        or_right : (c b : Bool) → b ≡ true → (c || b) ≡ true
        or_right true b h = refl
        or_right false b h = h

page_off : (p v : ℕ) (x : Item Place) → stands_at p v x ≡ false → is_page p v (x.row, x.number) ≡ false
page_off p v x e = grind (arith, nat_tests)

none_listed : (p v a b : ℕ) (xs : List (Item Place)) → IsBelow p v a b → rising_from a b xs ≡ true → list_any (is_page p v) (listed xs) ≡ false
none_listed p v a b [] u e = refl
none_listed p v a b (x ∷ xs) u e =
    let s : stands_before a b x ≡ false = head a b x xs e in
    rw (page_off p v x (not_at p v a b x u s)) (none_listed p v x.row (suc x.number) xs (behind p v a b x u s) (tail a b x xs e))

-- each page of a list stands once
abbrev pub AreDistinct : List (ℕ × ℕ) → Type 0
AreDistinct [] = ⊤
AreDistinct (x ∷ xs) = (list_any (is_page x.0 x.1) xs ≡ false) × AreDistinct xs

at_itself : (x : Item Place) → stands_at x.row x.number x ≡ true
at_itself x = grind (arith, nat_tests)

pub each_once : (a b : ℕ) (xs : List (Item Place)) → rising_from a b xs ≡ true → AreDistinct (listed xs)
each_once a b [] e = tt
each_once a b (x ∷ xs) e = (none_listed x.row x.number x.row (suc x.number) xs (past_it x.row x.number x (at_itself x)) (tail a b x xs e), each_once x.row (suc x.number) xs (tail a b x xs e))
