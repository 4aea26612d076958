-- Items that stand in rising order.
use Rattle.std.proofs.Common.{◌≡◌, ℕ, zero, suc, ◌<◌, ◌≤◌, Bool, true, false, List, [], ◌∷◌, Option, Some, None, length, get_or, refl, sym, ap, ◌∙◌, subst, arith}
use Rattle.std.specs.Prelude.{⊤, ◌==◌, ◌&&◌, ◌||◌, not, if◌then◌else◌, nat_lt, nat_le, slice_get, slice_set}
use Rattle.std.specs.List.{insert, filter}
use Rattle.std.specs.List.Sorted.{IsPartitionPoint, IsPartitionedBy}
use Rattle.std.proofs.lemmas.Bool.Decides.{nat_tests}
use Rattle.hm_race_keys.specs.Sparse.{stands_at, stands_before, rising_from, place_of, is_found, put, found, IsNextIn}
use Rattle.hm_race_keys.specs.declared.sparse.Item.{Item}
use Rattle.std.proofs.lemmas.Bool.{and_parts}

-- a number of a row is no lower than another
abbrev pub IsUnder : ℕ → ℕ → ℕ → ℕ → Type 0
IsUnder q j r k = (nat_lt q r || ((q == r) && nat_le j k)) ≡ true

abbrev pub IsBelow : ℕ → ℕ → ℕ → ℕ → Type 0
IsBelow q j r k = (nat_lt q r || ((q == r) && nat_lt j k)) ≡ true

-- the tests of one item
not_before : {V : Type 0} (q j r k : ℕ) (w : Item V) → IsUnder q j r k → stands_before r k w ≡ false → stands_before q j w ≡ false
not_before q j r k w u e = grind (arith, nat_tests)

pub not_at : {V : Type 0} (q j r k : ℕ) (w : Item V) → IsBelow q j r k → stands_before r k w ≡ false → stands_at q j w ≡ false
not_at q j r k w u e = grind (arith, nat_tests)

pub behind : {V : Type 0} (q j r k : ℕ) (w : Item V) → IsBelow q j r k → stands_before r k w ≡ false → IsBelow q j w.row (suc w.number)
behind q j r k w u e = grind (arith, nat_tests)

here : {V : Type 0} (r k : ℕ) (w : Item V) → stands_before r k w ≡ false → IsBelow r k w.row (suc w.number)
here r k w e = grind (arith, nat_tests)

before_at : {V : Type 0} (r k : ℕ) (w : Item V) → stands_before r k w ≡ true → stands_at r k w ≡ false
before_at r k w e = grind (arith, nat_tests)

next_before : {V : Type 0} (r k : ℕ) (v w : Item V) → stands_before r k w ≡ true → stands_before v.row (suc v.number) w ≡ false → stands_before r k v ≡ true
next_before r k v w e f = grind (arith, nat_tests)

pub under : {V : Type 0} (r k : ℕ) (w : Item V) → stands_before r k w ≡ false → IsUnder r k w.row (suc w.number)
under r k w e = grind (arith, nat_tests)

not-true : (b : Bool) → not b ≡ true → b ≡ false
not-true true e = cc
not-true false e = refl

pub head : {V : Type 0} (r k : ℕ) (w : Item V) (ws : List (Item V)) → rising_from r k (w ∷ ws) ≡ true → stands_before r k w ≡ false
head r k w ws e = not-true _ (and_parts _ _ e).0

pub tail : {V : Type 0} (r k : ℕ) (w : Item V) (ws : List (Item V)) → rising_from r k (w ∷ ws) ≡ true → rising_from w.row (suc w.number) ws ≡ true
tail r k w ws e = (and_parts _ _ e).1

joined : (a b : Bool) → a ≡ false → b ≡ true → (not a && b) ≡ true
joined a b e f = rw (e, f)

lower : {V : Type 0} (q j r k : ℕ) (ws : List (Item V)) → IsUnder q j r k → rising_from r k ws ≡ true → rising_from q j ws ≡ true
lower q j r k [] u e = refl
lower q j r k (w ∷ ws) u e = joined _ _ (not_before q j r k w u (head r k w ws e)) (tail r k w ws e)

-- below the first of them there is none
pub none_below : {V : Type 0} (q j r k : ℕ) (ws : List (Item V)) → IsBelow q j r k → rising_from r k ws ≡ true → found ws q j ≡ None
none_below q j r k [] u e = refl
none_below q j r k (w ∷ ws) u e =
    let t = not_at q j r k w u (head r k w ws e) in
    rw t (none_below q j w.row (suc w.number) ws (behind q j r k w u (head r k w ws e)) (tail r k w ws e))

-- the value that a search comes to
abbrev pub value_at : {V : Type 0} → ℕ → ℕ → Option (Item V) → Option V
value_at r k None = None
value_at r k (Some w) = if stands_at r k w then Some w.value else None

pub searched : {V : Type 0} (r k a b : ℕ) (ws : List (Item V)) → rising_from a b ws ≡ true → found ws r k ≡ value_at r k (slice_get ws (place_of r k ws))
searched r k a b [] e = refl
searched {V} r k a b (w ∷ ws) e = by (searched r k w.row (suc w.number) ws (tail a b w ws e)) (stands_before r k w) refl
  where
    by : found ws r k ≡ value_at r k (slice_get ws (place_of r k ws)) → (t : Bool) → stands_before r k w ≡ t → found (w ∷ ws) r k ≡ value_at r k (slice_get (w ∷ ws) (if t then suc (place_of r k ws) else 0))
    by ih true t = rw (before_at r k w t) ih
    by ih false t = ap (λ (n : Option V). if stands_at r k w then Some w.value else n) (none_below r k w.row (suc w.number) ws (here r k w t) (tail a b w ws e))

-- the number and the value that a search for the next comes to
abbrev pub next_in : {V : Type 0} → ℕ → Option (Item V) → Option (ℕ × V)
next_in r None = None
next_in r (Some w) = if w.row == r then Some (w.number, w.value) else None

next_like : {V : Type 0} (f g : ℕ → Option V) (from : ℕ) (o : Option (ℕ × V)) → ((k : ℕ) → from ≤ k → g k ≡ f k) → IsNextIn f from o → IsNextIn g from o
next_like f g from None e h = λ k l. e k l ∙ h k l
next_like f g from (Some x) e h = (h.0, e x.0 h.0 ∙ h.1, λ k l m. e k l ∙ h.2 k l m)

itself : {V : Type 0} (r : ℕ) (w : Item V) → (w.row == r) ≡ true → stands_at r w.number w ≡ true
itself r w e = grind (arith, nat_tests)

passed : {V : Type 0} (r from k : ℕ) (w : Item V) → from ≤ k → stands_before r from w ≡ true → stands_at r k w ≡ false
passed r from k w l e = grind (arith, nat_tests)

in_row : {V : Type 0} (r from : ℕ) (w : Item V) → stands_before r from w ≡ false → (w.row == r) ≡ true → from ≤ w.number
in_row r from w e f = grind (arith, nat_tests)

under_it : {V : Type 0} (r k : ℕ) (w : Item V) → (w.row == r) ≡ true → k < w.number → stands_at r k w ≡ false
under_it r k w e l = grind (arith, nat_tests)

under_all : {V : Type 0} (r k : ℕ) (w : Item V) → (w.row == r) ≡ true → k < w.number → IsBelow r k w.row (suc w.number)
under_all r k w e l = grind (arith, nat_tests)

row_over : {V : Type 0} (r from k : ℕ) (w : Item V) → stands_before r from w ≡ false → (w.row == r) ≡ false → stands_at r k w ≡ false
row_over r from k w e f = grind (arith, nat_tests)

row_above : {V : Type 0} (r from k : ℕ) (w : Item V) → stands_before r from w ≡ false → (w.row == r) ≡ false → IsBelow r k w.row (suc w.number)
row_above r from k w e f = grind (arith, nat_tests)

pub next_is : {V : Type 0} (r from a b : ℕ) (ws : List (Item V)) → rising_from a b ws ≡ true → IsNextIn (found ws r) from (next_in r (slice_get ws (place_of r from ws)))
next_is r from a b [] e = λ k l. refl
next_is r from a b (w ∷ ws) e = by (next_is r from w.row (suc w.number) ws (tail a b w ws e)) (stands_before r from w) refl
  where
    rest : rising_from w.row (suc w.number) ws ≡ true
    rest = tail a b w ws e

    at : (t : Bool) → (w.row == r) ≡ t → stands_before r from w ≡ false → IsNextIn (found (w ∷ ws) r) from (if t then Some (w.number, w.value) else None)
    at true t f = (in_row r from w f t, rw (itself r w t), λ k l m. rw (under_it r k w t m) (none_below r k w.row (suc w.number) ws (under_all r k w t m) rest))
    at false t f = λ k l. rw (row_over r from k w f t) (none_below r k w.row (suc w.number) ws (row_above r from k w f t) rest)

    by : IsNextIn (found ws r) from (next_in r (slice_get ws (place_of r from ws))) → (t : Bool) → stands_before r from w ≡ t → IsNextIn (found (w ∷ ws) r) from (next_in r (slice_get (w ∷ ws) (if t then suc (place_of r from ws) else 0)))
    by ih true t = next_like (found ws r) (found (w ∷ ws) r) from (next_in r (slice_get ws (place_of r from ws))) (λ k l. rw (passed r from k w l t)) ih
    by ih false t = at (w.row == r) refl t

-- an item that is put
pub put_found : {V : Type 0} (w : Item V) (ws : List (Item V)) (r k : ℕ) → found (put w ws) r k ≡ (if stands_at r k w then Some w.value else found ws r k)
put_found w [] r k = refl
put_found {V} w (v ∷ ws) r k = by (put_found w ws r k) (stands_before w.row w.number v) refl
  where
    apart : stands_before w.row w.number v ≡ true → stands_at r k v ≡ true → stands_at r k w ≡ false
    apart e f = grind (arith, nat_tests)

    over : stands_at w.row w.number v ≡ true → stands_at r k v ≡ stands_at r k w
    over e = grind (arith, nat_tests)

    past : found (put w ws) r k ≡ (if stands_at r k w then Some w.value else found ws r k) → (t : Bool) → stands_at r k v ≡ t → stands_before w.row w.number v ≡ true → (if t then Some v.value else found (put w ws) r k) ≡ (if stands_at r k w then Some w.value else (if t then Some v.value else found ws r k))
    past ih true t e = rw (apart e t)
    past ih false t e = ih

    hides : (t : Bool) (x y z : Option V) → (if t then x else y) ≡ (if t then x else (if t then z else y))
    hides true x y z = refl
    hides false x y z = refl

    at : (t : Bool) → stands_at w.row w.number v ≡ t → found (if t then w ∷ ws else w ∷ v ∷ ws) r k ≡ (if stands_at r k w then Some w.value else found (v ∷ ws) r k)
    at true t = rw (over t) (hides (stands_at r k w) (Some w.value) (found ws r k) (Some v.value))
    at false t = refl

    by : found (put w ws) r k ≡ (if stands_at r k w then Some w.value else found ws r k) → (t : Bool) → stands_before w.row w.number v ≡ t → found (if t then v ∷ put w ws else (if stands_at w.row w.number v then w ∷ ws else w ∷ v ∷ ws)) r k ≡ (if stands_at r k w then Some w.value else found (v ∷ ws) r k)
    by ih true t = past ih (stands_at r k v) refl t
    by ih false t = at (stands_at w.row w.number v) refl

pub put_rising : {V : Type 0} (w : Item V) (ws : List (Item V)) (a b : ℕ) → rising_from a b ws ≡ true → stands_before a b w ≡ false → rising_from a b (put w ws) ≡ true
put_rising w [] a b e f = joined _ _ f refl
put_rising w (v ∷ ws) a b e f = by (put_rising w ws v.row (suc v.number) (tail a b v ws e)) (stands_before w.row w.number v) refl
  where
    rest : rising_from v.row (suc v.number) ws ≡ true
    rest = tail a b v ws e

    after : stands_before w.row w.number v ≡ true → stands_before v.row (suc v.number) w ≡ false
    after t = grind (arith, nat_tests)

    level : stands_at w.row w.number v ≡ true → IsUnder w.row (suc w.number) v.row (suc v.number)
    level t = grind (arith, nat_tests)

    apart : stands_before w.row w.number v ≡ false → stands_at w.row w.number v ≡ false → stands_before w.row (suc w.number) v ≡ false
    apart s t = grind (arith, nat_tests)

    at : (t : Bool) → stands_at w.row w.number v ≡ t → stands_before w.row w.number v ≡ false → rising_from a b (if t then w ∷ ws else w ∷ v ∷ ws) ≡ true
    at true t s = joined _ _ f (lower w.row (suc w.number) v.row (suc v.number) ws (level t) rest)
    at false t s = joined _ _ f (joined _ _ (apart s t) rest)

    by : (stands_before v.row (suc v.number) w ≡ false → rising_from v.row (suc v.number) (put w ws) ≡ true) → (t : Bool) → stands_before w.row w.number v ≡ t → rising_from a b (if t then v ∷ put w ws else (if stands_at w.row w.number v then w ∷ ws else w ∷ v ∷ ws)) ≡ true
    by ih true t = joined _ _ (head a b v ws e) (ih (after t))
    by ih false t = at (stands_at w.row w.number v) refl t

-- over the one at its place, or between two
pub put_over : {V : Type 0} (w : Item V) (ws : List (Item V)) → is_found w.row w.number (slice_get ws (place_of w.row w.number ws)) ≡ true → slice_set ws (place_of w.row w.number ws) w ≡ put w ws
put_over w [] e = cc
put_over {V} w (u ∷ ws) e = by (put_over w ws) (stands_before w.row w.number u) refl e
  where
    by : (is_found w.row w.number (slice_get ws (place_of w.row w.number ws)) ≡ true → slice_set ws (place_of w.row w.number ws) w ≡ put w ws) → (t : Bool) → stands_before w.row w.number u ≡ t → is_found w.row w.number (slice_get (u ∷ ws) (if t then suc (place_of w.row w.number ws) else 0)) ≡ true → slice_set (u ∷ ws) (if t then suc (place_of w.row w.number ws) else 0) w ≡ (if t then u ∷ put w ws else (if stands_at w.row w.number u then w ∷ ws else w ∷ u ∷ ws))
    by ih true t d = ap (λ (xs : List (Item V)). u ∷ xs) (ih d)
    by ih false t d = rw d

pub put_between : {V : Type 0} (w : Item V) (ws : List (Item V)) → is_found w.row w.number (slice_get ws (place_of w.row w.number ws)) ≡ false → insert ws (place_of w.row w.number ws) w ≡ put w ws
put_between w [] e = refl
put_between {V} w (u ∷ ws) e = by (put_between w ws) (stands_before w.row w.number u) refl e
  where
    by : (is_found w.row w.number (slice_get ws (place_of w.row w.number ws)) ≡ false → insert ws (place_of w.row w.number ws) w ≡ put w ws) → (t : Bool) → stands_before w.row w.number u ≡ t → is_found w.row w.number (slice_get (u ∷ ws) (if t then suc (place_of w.row w.number ws) else 0)) ≡ false → insert (u ∷ ws) (if t then suc (place_of w.row w.number ws) else 0) w ≡ (if t then u ∷ put w ws else (if stands_at w.row w.number u then w ∷ ws else w ∷ u ∷ ws))
    by ih true t d = ap (λ (xs : List (Item V)). u ∷ xs) (ih d)
    by ih false t d = rw d

-- what passes a test of its row and number
pub kept_rising : {V : Type 0} (p : Item V → Bool) (a b : ℕ) (ws : List (Item V)) → rising_from a b ws ≡ true → rising_from a b (filter p ws) ≡ true
kept_rising p a b [] e = refl
kept_rising p a b (w ∷ ws) e = by (kept_rising p w.row (suc w.number) ws (tail a b w ws e)) (p w)
  where
    by : rising_from w.row (suc w.number) (filter p ws) ≡ true → (t : Bool) → rising_from a b (if t then w ∷ filter p ws else filter p ws) ≡ true
    by rest true = joined _ _ (head a b w ws e) rest
    by rest false = lower a b w.row (suc w.number) (filter p ws) (under a b w (head a b w ws e)) rest

pub kept_found : {V : Type 0} (t : ℕ → ℕ → Bool) (ws : List (Item V)) (r k : ℕ) → found (filter (λ w. not (t w.row w.number)) ws) r k ≡ (if t r k then None else found ws r k)
kept_found {V} t [] r k = by (t r k)
  where
    none : Option V
    none = None

    by : (b : Bool) → none ≡ (if b then none else none)
    by true = refl
    by false = refl
kept_found t (w ∷ ws) r k = by (kept_found t ws r k) (t w.row w.number) refl (stands_at r k w) refl
  where
    same : stands_at r k w ≡ true → t r k ≡ t w.row w.number
    same e = let s : ((r == w.row) ≡ true) × ((k == w.number) ≡ true) = and_parts _ _ e in let q : r ≡ w.row = grind (arith, nat_tests) in let j : k ≡ w.number = grind (arith, nat_tests) in ap (λ n. t n k) q ∙ ap (t w.row) j

    by : found (filter (λ v. not (t v.row v.number)) ws) r k ≡ (if t r k then None else found ws r k) → (b : Bool) → t w.row w.number ≡ b → (s : Bool) → stands_at r k w ≡ s → found (if not b then w ∷ filter (λ v. not (t v.row v.number)) ws else filter (λ v. not (t v.row v.number)) ws) r k ≡ (if t r k then None else (if s then Some w.value else found ws r k))
    by rest true b true s = rest ∙ rw (same s ∙ b)
    by rest true b false s = rest
    by rest false b true s = rw (s, same s ∙ b)
    by rest false b false s = rw s rest

-- a binary search comes to the place
above : {V : Type 0} (a b : ℕ) (ws : List (Item V)) → rising_from a b ws ≡ true → (j : ℕ) (d : Item V) → j < length ws → stands_before a b (get_or ws j d) ≡ false
above a b [] e j d l = absurd (omega arith)
above a b (w ∷ ws) e zero d l = head a b w ws e
above a b (w ∷ ws) e (suc j) d l = not_before a b w.row (suc w.number) (get_or ws j d) (under a b w (head a b w ws e)) (above w.row (suc w.number) ws (tail a b w ws e) j d (omega arith))

pub partitioned : {V : Type 0} (r k a b : ℕ) (ws : List (Item V)) → rising_from a b ws ≡ true → IsPartitionedBy (stands_before r k) ws
partitioned r k a b [] e i j d l m f = absurd (omega arith)
partitioned r k a b (w ∷ ws) e zero zero d l m f = f
partitioned r k a b (w ∷ ws) e zero (suc j) d l m f = next_before r k w (get_or ws j d) f (above w.row (suc w.number) ws (tail a b w ws e) j d (omega arith))
partitioned r k a b (w ∷ ws) e (suc i) zero d l m f = absurd (omega arith)
partitioned r k a b (w ∷ ws) e (suc i) (suc j) d l m f = partitioned r k w.row (suc w.number) ws (tail a b w ws e) i j d (omega arith) (omega arith) f

pub place_is : {V : Type 0} (r k : ℕ) (ws : List (Item V)) (i : ℕ) → i ≤ length ws → IsPartitionPoint (λ w. stands_before r k w ≡ true) (λ w. stands_before r k w ≡ false) ws i → i ≡ place_of r k ws
place_is r k [] i l h = omega arith
place_is r k (w ∷ ws) zero l h = let e = h.1 0 w (omega arith) (omega arith) in rw e
place_is r k (w ∷ ws) (suc i) l h = let e = h.0 0 w (omega arith) (omega arith) in
    rw e (ap (λ (n : ℕ). suc n) (place_is r k ws i (omega arith) ((λ m d p q. h.0 (suc m) d (omega arith) (omega arith)), (λ m d p q. h.1 (suc m) d (omega arith) (omega arith)))))

-- no item stands before number 0 of row 0
pub from_first : {V : Type 0} (w : Item V) → stands_before 0 0 w ≡ false
from_first w = grind (arith, nat_tests)

-- what a read says, by what a search came to
pub found_none : {V : Type 0} (r k : ℕ) (ws : List (Item V)) → rising_from 0 0 ws ≡ true → slice_get ws (place_of r k ws) ≡ None → None ≡ found ws r k
found_none r k ws e at = sym (searched r k 0 0 ws e ∙ ap (value_at r k) at)

pub found_some : {V : Type 0} (r k : ℕ) (ws : List (Item V)) (w : Item V) → rising_from 0 0 ws ≡ true → slice_get ws (place_of r k ws) ≡ Some w → stands_at r k w ≡ true → Some w.value ≡ found ws r k
found_some r k ws w e at t = sym (searched r k 0 0 ws e ∙ (ap (value_at r k) at ∙ rw t))

pub found_other : {V : Type 0} (r k : ℕ) (ws : List (Item V)) (w : Item V) → rising_from 0 0 ws ≡ true → slice_get ws (place_of r k ws) ≡ Some w → stands_at r k w ≡ false → None ≡ found ws r k
found_other r k ws w e at t = sym (searched r k 0 0 ws e ∙ (ap (value_at r k) at ∙ rw t))

pub next_none : {V : Type 0} (r k : ℕ) (ws : List (Item V)) → rising_from 0 0 ws ≡ true → slice_get ws (place_of r k ws) ≡ None → IsNextIn (found ws r) k None
next_none r k ws e at = subst (λ o. IsNextIn (found ws r) k (next_in r o)) at (next_is r k 0 0 ws e)

pub next_some : {V : Type 0} (r k : ℕ) (ws : List (Item V)) (w : Item V) → rising_from 0 0 ws ≡ true → slice_get ws (place_of r k ws) ≡ Some w → w.row ≡ r → IsNextIn (found ws r) k (Some (w.number, w.value))
next_some r k ws w e at s =
    let t : (w.row == r) ≡ true = grind (arith, nat_tests) in
    subst (λ b. IsNextIn (found ws r) k (if b then Some (w.number, w.value) else None)) t (subst (λ o. IsNextIn (found ws r) k (next_in r o)) at (next_is r k 0 0 ws e))

pub next_other : {V : Type 0} (r k : ℕ) (ws : List (Item V)) (w : Item V) → rising_from 0 0 ws ≡ true → slice_get ws (place_of r k ws) ≡ Some w → (w.row ≡ r → ⊥) → IsNextIn (found ws r) k None
next_other r k ws w e at s =
    let t : (w.row == r) ≡ false = grind (arith, nat_tests) in
    subst (λ b. IsNextIn (found ws r) k (if b then Some (w.number, w.value) else None)) t (subst (λ o. IsNextIn (found ws r) k (next_in r o)) at (next_is r k 0 0 ws e))

-- two lists with the same values everywhere are the same
not_itself : {V : Type 0} (x : Item V) → stands_before x.row x.number x ≡ false
not_itself x = grind (arith, nat_tests)

at_itself : {V : Type 0} (x : Item V) → stands_at x.row x.number x ≡ true
at_itself x = grind (arith, nat_tests)

below_it : {V : Type 0} (x y : Item V) → stands_before x.row x.number y ≡ true → IsBelow y.row y.number x.row x.number
below_it x y s = grind (arith, nat_tests)

level : {V : Type 0} (x y : Item V) → stands_before x.row x.number y ≡ false → stands_before y.row y.number x ≡ false → stands_at x.row x.number y ≡ true
level x y s t = grind (arith, nat_tests)

pub past_it : {V : Type 0} (r k : ℕ) (x : Item V) → stands_at r k x ≡ true → IsBelow r k x.row (suc x.number)
past_it r k x s = grind (arith, nat_tests)

from_itself : {V : Type 0} (a b : ℕ) (x : Item V) (xs : List (Item V)) → rising_from a b (x ∷ xs) ≡ true → rising_from x.row x.number (x ∷ xs) ≡ true
from_itself a b x xs e = joined _ _ (not_itself x) (tail a b x xs e)

pub here_found : {V : Type 0} (x : Item V) (xs : List (Item V)) → found (x ∷ xs) x.row x.number ≡ Some x.value
here_found x xs = rw (at_itself x) refl

before_found : {V : Type 0} (a b : ℕ) (x y : Item V) (xs : List (Item V)) → rising_from a b (x ∷ xs) ≡ true → stands_before x.row x.number y ≡ true → found (x ∷ xs) y.row y.number ≡ None
before_found a b x y xs e s = none_below y.row y.number x.row x.number (x ∷ xs) (below_it x y s) (from_itself a b x xs e)

clash : {V : Type 0} (v : V) (xs ys : List (Item V)) → None ≡ Some v → xs ≡ ys
clash v xs ys e = cc

abbrev item_of : {V : Type 0} → ℕ → ℕ → V → Item V
item_of n r v = record { number = n; row = r; value = v }

same_item : {V : Type 0} (x y : Item V) → stands_at x.row x.number y ≡ true → x.value ≡ y.value → x ≡ y
same_item {V} x y s e =
    let both : ((x.row == y.row) ≡ true) × ((x.number == y.number) ≡ true) = and_parts _ _ s in
    let r : x.row ≡ y.row = grind (arith, nat_tests) in
    let n : x.number ≡ y.number = grind (arith, nat_tests) in
    ap (λ k. item_of k x.row x.value) n ∙ (ap (λ k. item_of y.number k x.value) r ∙ ap (λ (v : V). item_of y.number y.row v) e)

abbrev value_of : {V : Type 0} → V → Option V → V
value_of v None = v
value_of v (Some w) = w

there_found : {V : Type 0} (x y : Item V) (ys : List (Item V)) → stands_at x.row x.number y ≡ true → found (y ∷ ys) x.row x.number ≡ Some y.value
there_found x y ys s = rw s refl

same_value : {V : Type 0} (x y : Item V) (xs ys : List (Item V)) → stands_at x.row x.number y ≡ true → found (x ∷ xs) x.row x.number ≡ found (y ∷ ys) x.row x.number → x.value ≡ y.value
same_value {V} x y xs ys s e = ap (value_of x.value) (sym (here_found x xs) ∙ (e ∙ there_found x y ys s))

same_rest : {V : Type 0} (x : Item V) (xs ys : List (Item V)) → rising_from x.row (suc x.number) xs ≡ true → rising_from x.row (suc x.number) ys ≡ true → ((r k : ℕ) → found (x ∷ xs) r k ≡ found (x ∷ ys) r k) → (r k : ℕ) → found xs r k ≡ found ys r k
same_rest {V} x xs ys e f h r k = by (stands_at r k x) refl (h r k)
  where
    by : (t : Bool) → stands_at r k x ≡ t → ◌≡◌ {A = Option V} (if t then Some x.value else found xs r k) (if t then Some x.value else found ys r k) → found xs r k ≡ found ys r k
    by true t d = none_below r k x.row (suc x.number) xs (past_it r k x t) e ∙ sym (none_below r k x.row (suc x.number) ys (past_it r k x t) f)
    by false t d = d

pub same_found : {V : Type 0} (a b : ℕ) (xs ys : List (Item V)) → rising_from a b xs ≡ true → rising_from a b ys ≡ true → ((r k : ℕ) → found xs r k ≡ found ys r k) → xs ≡ ys
same_found a b [] [] e f h = refl
same_found a b [] (y ∷ ys) e f h = clash y.value [] (y ∷ ys) (h y.row y.number ∙ here_found y ys)
same_found a b (x ∷ xs) [] e f h = clash x.value (x ∷ xs) [] (sym (h x.row x.number) ∙ here_found x xs)
same_found {V} a b (x ∷ xs) (y ∷ ys) e f h = by (same_found x.row (suc x.number) xs ys) (stands_before x.row x.number y) refl (stands_before y.row y.number x) refl
  where
    alike : (z : Item V) → x ≡ z → rising_from z.row (suc z.number) ys ≡ true → ((r k : ℕ) → found (x ∷ xs) r k ≡ found (z ∷ ys) r k) → (rising_from x.row (suc x.number) xs ≡ true → rising_from x.row (suc x.number) ys ≡ true → ((r k : ℕ) → found xs r k ≡ found ys r k) → xs ≡ ys) → (x ∷ xs) ≡ (z ∷ ys)
    alike z p u d ih =
        let v : rising_from x.row (suc x.number) ys ≡ true = subst (λ (w : Item V). rising_from w.row (suc w.number) ys ≡ true) (sym p) u in
        let k : (r k : ℕ) → found (x ∷ xs) r k ≡ found (x ∷ ys) r k = subst (λ (w : Item V). (r k : ℕ) → found (x ∷ xs) r k ≡ found (w ∷ ys) r k) (sym p) d in
        subst (λ (w : Item V). (x ∷ xs) ≡ (w ∷ ys)) p (ap (λ (l : List (Item V)). x ∷ l) (ih (tail a b x xs e) v (same_rest x xs ys (tail a b x xs e) v k)))

    by : (rising_from x.row (suc x.number) xs ≡ true → rising_from x.row (suc x.number) ys ≡ true → ((r k : ℕ) → found xs r k ≡ found ys r k) → xs ≡ ys) → (s : Bool) → stands_before x.row x.number y ≡ s → (t : Bool) → stands_before y.row y.number x ≡ t → (x ∷ xs) ≡ (y ∷ ys)
    by ih true s t u = clash y.value (x ∷ xs) (y ∷ ys) (sym (before_found a b x y xs e s) ∙ (h y.row y.number ∙ here_found y ys))
    by ih false s true t = clash x.value (x ∷ xs) (y ∷ ys) (sym (before_found a b y x ys f t) ∙ (sym (h x.row x.number) ∙ here_found x xs))
    by ih false s false t =
        let at : stands_at x.row x.number y ≡ true = level x y s t in
        alike y (same_item x y at (same_value x y xs ys at (h x.row x.number))) (tail a b y ys f) h ih

-- each item is the one that is found at its row and number
abbrev pub AllFound : {V : Type 0} → (ℕ → ℕ → Option V) → List (Item V) → Type 0
AllFound f [] = ⊤
AllFound f (x ∷ xs) = (f x.row x.number ≡ Some x.value) × AllFound f xs

apart : {V : Type 0} (x y : Item V) → stands_before x.row (suc x.number) y ≡ false → stands_at y.row y.number x ≡ false
apart x y e = grind (arith, nat_tests)

found_later : {V : Type 0} (x : Item V) (xs : List (Item V)) (a b : ℕ) (ys : List (Item V)) → IsUnder x.row (suc x.number) a b → rising_from a b ys ≡ true → AllFound (found xs) ys → AllFound (found (x ∷ xs)) ys
found_later x xs a b [] u e h = tt
found_later {V} x xs a b (y ∷ ys) u e h =
    let s : stands_before x.row (suc x.number) y ≡ false = not_before x.row (suc x.number) a b y u (head a b y ys e) in
    (rw (apart x y s) h.0, found_later x xs y.row (suc y.number) ys (under x.row (suc x.number) y s) (tail a b y ys e) h.1)

own_next : {V : Type 0} (x : Item V) → IsUnder x.row (suc x.number) x.row (suc x.number)
own_next x = grind (arith, nat_tests)

pub all_found : {V : Type 0} (a b : ℕ) (xs : List (Item V)) → rising_from a b xs ≡ true → AllFound (found xs) xs
all_found a b [] e = tt
all_found a b (x ∷ xs) e = (here_found x xs, found_later x xs x.row (suc x.number) xs (own_next x) (tail a b x xs e) (all_found x.row (suc x.number) xs (tail a b x xs e)))
