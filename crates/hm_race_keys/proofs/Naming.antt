-- Whether a place names a frame after a page got another place.
use Rattle.std.proofs.Common.{◌≡◌, ℕ, Bool, true, false, List, [], ◌∷◌, Option, Some, None, refl, sym, ap, ◌∙◌, arith}
use Rattle.std.specs.Prelude.{◌==◌, ◌&&◌, ◌||◌, not, if◌then◌else◌, nat_lt, unwrap_or, is_some}
use Rattle.std.specs.List.{list_any}
use Rattle.std.proofs.lemmas.Bool.Decides.{nat_tests}
use Rattle.hm_base.specs.PlaceWords.{is_frame, names}
use Rattle.hm_base.specs.declared.Frame.{Frame}
use Rattle.hm_base.specs.declared.Place.{Place}
use Rattle.hm_history.specs.Memory.Places.{is_page, lower, lowest, with_page, with_place}
use Rattle.hm_race_keys.specs.Sparse.{stands_at, rising_from, found}
use Rattle.hm_race_keys.specs.PagePlaces.{places_in, listed}
use Rattle.hm_race_keys.specs.Questions.{named_beside}
use Rattle.hm_race_keys.specs.declared.sparse.Item.{Item}
use Rattle.hm_race_keys.proofs.Ordered.{AllFound, all_found}
use Rattle.hm_race_keys.proofs.Listing.{Agrees}

abbrev Test : Type 0
Test = ℕ → ℕ → Bool

lower_some : (x : ℕ × ℕ) (o : Option (ℕ × ℕ)) → is_some (lower x o) ≡ true
lower_some x None = refl
lower_some x (Some y) = by (nat_lt x.0 y.0 || ((x.0 == y.0) && nat_lt x.1 y.1))
  where
    by : (b : Bool) → is_some (if b then Some x else Some y) ≡ true
    by true = refl
    by false = refl

some_any : (T : Test) (ys : List (ℕ × ℕ)) → is_some (lowest T ys) ≡ list_any (λ y. T y.0 y.1) ys
some_any T [] = refl
some_any T (y ∷ ys) = by (T y.0 y.1) (some_any T ys)
  where
    by : (b : Bool) → is_some (lowest T ys) ≡ list_any (λ z. T z.0 z.1) ys → is_some (elim b as (λ z. Option (ℕ × ℕ)) [ true ↦ lower y (lowest T ys) | false ↦ lowest T ys ]) ≡ (b || list_any (λ z. T z.0 z.1) ys)
    by true ih = lower_some y (lowest T ys)
    by false ih = ih

-- a listed page that passes adds nothing
same_page : (T : Test) (p v : ℕ) (y : ℕ × ℕ) → is_page p v y ≡ true → T y.0 y.1 ≡ T p v
same_page T p v y e =
    let a : y.0 ≡ p = grind (arith, nat_tests) in
    let b : y.1 ≡ v = grind (arith, nat_tests) in
    ap (λ n. T n y.1) a ∙ ap (T p) b

absorbs : (T : Test) (p v : ℕ) (ys : List (ℕ × ℕ)) → list_any (is_page p v) ys ≡ true → list_any (λ y. T y.0 y.1) ys ≡ (T p v || list_any (λ y. T y.0 y.1) ys)
absorbs T p v [] e = cc
absorbs T p v (y ∷ ys) e = by (is_page p v y) refl e (absorbs T p v ys)
  where
    twice : (a b : Bool) → (a || b) ≡ (a || (a || b))
    twice true b = refl
    twice false b = refl

    past : (a b c : Bool) → b ≡ (c || b) → (a || b) ≡ (c || (a || b))
    past true b true h = refl
    past true b false h = refl
    past false b c h = h

    by : (b : Bool) → is_page p v y ≡ b → (b || list_any (is_page p v) ys) ≡ true → (list_any (is_page p v) ys ≡ true → list_any (λ z. T z.0 z.1) ys ≡ (T p v || list_any (λ z. T z.0 z.1) ys)) → (T y.0 y.1 || list_any (λ z. T z.0 z.1) ys) ≡ (T p v || (T y.0 y.1 || list_any (λ z. T z.0 z.1) ys))
    by true q d ih = rw (same_page T p v y q) (twice (T p v) (list_any (λ z. T z.0 z.1) ys))
    by false q d ih = past (T y.0 y.1) (list_any (λ z. T z.0 z.1) ys) (T p v) (ih d)

any_with : (T : Test) (p v : ℕ) (ys : List (ℕ × ℕ)) → list_any (λ y. T y.0 y.1) (with_page p v ys) ≡ (T p v || list_any (λ y. T y.0 y.1) ys)
any_with T p v ys = by (list_any (is_page p v) ys) refl
  where
    by : (b : Bool) → list_any (is_page p v) ys ≡ b → list_any (λ y. T y.0 y.1) (if b then ys else (p, v) ∷ ys) ≡ (T p v || list_any (λ y. T y.0 y.1) ys)
    by true e = absorbs T p v ys e
    by false e = refl

any_same : (T : Test) (t : Item Place → Bool) (xs : List (Item Place)) → Agrees T t xs → list_any (λ y. T y.0 y.1) (listed xs) ≡ list_any t xs
any_same T t [] h = refl
any_same T t (x ∷ xs) h = ap (λ b. b || list_any (λ y. T y.0 y.1) (listed xs)) h.0 ∙ ap (λ b. t x || b) (any_same T t xs h.1)

-- the frame is named by the place that a page got, or by that of another page
abbrev Named : (ℕ → ℕ → Option Place) → ℕ → ℕ → Place → Frame → ℕ → ℕ → Bool
Named f p v x k q u = is_frame (names (with_place (λ a b. unwrap_or (f a b) Place.Empty) p v x q u)) k

turned : (p v : ℕ) (y : Item Place) → stands_at p v y ≡ ((y.row == p) && (y.number == v))
turned p v y = grind (arith, nat_tests)

elsewhere : (f : ℕ → ℕ → Option Place) (p v : ℕ) (x : Place) (k : Frame) (xs : List (Item Place)) → is_frame (names x) k ≡ false → AllFound f xs → Agrees (Named f p v x k) (named_beside p v k) xs
elsewhere f p v x k [] e h = tt
elsewhere f p v x k (y ∷ ys) e h = (by ((y.row == p) && (y.number == v)) (turned p v y), elsewhere f p v x k ys e h.1)
  where
    by : (b : Bool) → stands_at p v y ≡ b → is_frame (names (if b then x else unwrap_or (f y.row y.number) Place.Empty)) k ≡ named_beside p v k y
    by true s = e ∙ ap (λ c. not c && is_frame (names y.value) k) (sym s)
    by false s = ap (λ (o : Option Place). is_frame (names (unwrap_or o Place.Empty)) k) h.0 ∙ ap (λ c. not c && is_frame (names y.value) k) (sym s)

named_there : (f : ℕ → ℕ → Option Place) (p v : ℕ) (x : Place) (k : Frame) → Named f p v x k p v ≡ is_frame (names x) k
named_there f p v x k = ap (λ b. is_frame (names (if b then x else unwrap_or (f p v) Place.Empty)) k) both
  where
    both : ((p == p) && (v == v)) ≡ true
    both = grind (arith, nat_tests)

pub named_after : (p v : ℕ) (x : Place) (k : Frame) (xs : List (Item Place)) → rising_from 0 0 xs ≡ true → is_some (lowest (λ q u. is_frame (names (with_place (places_in xs) p v x q u)) k) (with_page p v (listed xs))) ≡ (is_frame (names x) k || list_any (named_beside p v k) xs)
named_after p v x k xs e = some_any T (with_page p v (listed xs)) ∙ (any_with T p v (listed xs) ∙ (ap (λ b. b || list_any (λ y. T y.0 y.1) (listed xs)) (named_there (found xs) p v x k) ∙ by (is_frame (names x) k) refl))
  where
    T : Test
    T = Named (found xs) p v x k

    by : (b : Bool) → is_frame (names x) k ≡ b → (b || list_any (λ y. T y.0 y.1) (listed xs)) ≡ (b || list_any (named_beside p v k) xs)
    by true q = refl
    by false q = any_same T (named_beside p v k) xs (elsewhere (found xs) p v x k xs q (all_found 0 0 xs e))
