-- How many placed pages pass, after a page has another place, or after a commit.
use Rattle.std.proofs.Common.{◌≡◌, ℕ, ◌+◌, Bool, true, false, cond, not, ◌==◌, ◌&&◌, ◌||◌, List, [], ◌∷◌, count_by, refl, sym, ap, ◌∙◌, arith}
use Rattle.std.specs.Prelude.{if◌then◌else◌}
use Rattle.std.specs.List.{list_any}
use Rattle.std.proofs.Math.Path.{fun_ext}
use Rattle.std.proofs.lemmas.Bool.{and_parts, not-true}
use Rattle.std.proofs.lemmas.Bool.Decides.{nat_tests}
use Rattle.std.proofs.lemmas.List.Sums.{sum_by-cons}
use Rattle.hm_base.specs.declared.Place.{Place}
use Rattle.hm_history.specs.Memory.Places.{is_page, with_page, with_place}
use Rattle.hm_tables.specs.Shown.{is_once}
use Rattle.hm_folds.proofs.Counts.{one_if}
use Rattle.std.proofs.Math.Bool.{and-true, and-false}

pub count_cons : (t : ℕ × ℕ → Bool) (x : ℕ × ℕ) (xs : List (ℕ × ℕ)) → count_by t (x ∷ xs) ≡ one_if (t x) + count_by t xs
count_cons t x xs = sum_by-cons (λ y. one_if (t y)) x xs

-- tests that agree
pub count_alike : (t u : ℕ × ℕ → Bool) (xs : List (ℕ × ℕ)) → ((y : ℕ × ℕ) → t y ≡ u y) → count_by t xs ≡ count_by u xs
count_alike t u xs h = ap (λ (f : ℕ × ℕ → Bool). count_by f xs) (fun_ext h)

page_itself : (p v : ℕ) → ((p == p) && (v == v)) ≡ true
page_itself p v = grind (arith, nat_tests)

-- the page is none of them
count_apart : (test : Place → Bool) (place : ℕ → ℕ → Place) (p v : ℕ) (x : Place) (xs : List (ℕ × ℕ)) → list_any (is_page p v) xs ≡ false →
    count_by (λ y. test (with_place place p v x y.0 y.1)) xs ≡ count_by (λ y. test (place y.0 y.1)) xs
count_apart test place p v x [] h = refl
count_apart test place p v x (y ∷ ys) h =
    count_cons (λ z. test (with_place place p v x z.0 z.1)) y ys ∙ by (is_page p v y) refl h (count_apart test place p v x ys) ∙ sym (count_cons (λ z. test (place z.0 z.1)) y ys)
  where
    by : (b : Bool) → is_page p v y ≡ b → (b || list_any (is_page p v) ys) ≡ false →
        (list_any (is_page p v) ys ≡ false → count_by (λ z. test (with_place place p v x z.0 z.1)) ys ≡ count_by (λ z. test (place z.0 z.1)) ys) →
        one_if (test (cond (is_page p v y) x (place y.0 y.1))) + count_by (λ z. test (with_place place p v x z.0 z.1)) ys ≡ one_if (test (place y.0 y.1)) + count_by (λ z. test (place z.0 z.1)) ys
    by true e k r = cc
    by false e k r = ap (λ b. one_if (test (cond b x (place y.0 y.1))) + count_by (λ z. test (with_place place p v x z.0 z.1)) ys) e ∙ ap (λ n. one_if (test (place y.0 y.1)) + n) (r k)

place_at : (place : ℕ → ℕ → Place) (p v : ℕ) (y : ℕ × ℕ) → is_page p v y ≡ true → place y.0 y.1 ≡ place p v
place_at place p v y e = at (grind (arith, nat_tests)) (grind (arith, nat_tests))
  where
    at : y.0 ≡ p → y.1 ≡ v → place y.0 y.1 ≡ place p v
    at a b = rw (a, b) refl

other_absent : (p v : ℕ) (y : ℕ × ℕ) (ys : List (ℕ × ℕ)) → is_page p v y ≡ true → list_any (is_page y.0 y.1) ys ≡ false → list_any (is_page p v) ys ≡ false
other_absent p v y ys e h = at (grind (arith, nat_tests)) (grind (arith, nat_tests)) h
  where
    at : y.0 ≡ p → y.1 ≡ v → list_any (is_page y.0 y.1) ys ≡ false → list_any (is_page p v) ys ≡ false
    at a b = rw (a, b) (λ k. k)

-- the page is one of them
count_there : (test : Place → Bool) (place : ℕ → ℕ → Place) (p v : ℕ) (x : Place) (xs : List (ℕ × ℕ)) → list_any (is_page p v) xs ≡ true → is_once xs ≡ true →
    count_by (λ y. test (with_place place p v x y.0 y.1)) xs + one_if (test (place p v)) ≡ count_by (λ y. test (place y.0 y.1)) xs + one_if (test x)
count_there test place p v x [] h once = cc
count_there test place p v x (y ∷ ys) h once = by (is_page p v y) refl h (count_there test place p v x ys)
  where
    apart : (list_any (is_page y.0 y.1) ys ≡ false) × (is_once ys ≡ true)
    apart = let parts = and_parts (not (list_any (is_page y.0 y.1) ys)) (is_once ys) once in (not-true (list_any (is_page y.0 y.1) ys) parts.0, parts.1)

    after : ℕ
    after = count_by (λ z. test (with_place place p v x z.0 z.1)) ys

    by : (b : Bool) → is_page p v y ≡ b → (b || list_any (is_page p v) ys) ≡ true →
        (list_any (is_page p v) ys ≡ true → is_once ys ≡ true → count_by (λ z. test (with_place place p v x z.0 z.1)) ys + one_if (test (place p v)) ≡ count_by (λ z. test (place z.0 z.1)) ys + one_if (test x)) →
        count_by (λ z. test (with_place place p v x z.0 z.1)) (y ∷ ys) + one_if (test (place p v)) ≡ count_by (λ z. test (place z.0 z.1)) (y ∷ ys) + one_if (test x)
    by true e k r =
        let one : count_by (λ z. test (with_place place p v x z.0 z.1)) (y ∷ ys) ≡ one_if (test (cond (is_page p v y) x (place y.0 y.1))) + count_by (λ z. test (with_place place p v x z.0 z.1)) ys = count_cons (λ z. test (with_place place p v x z.0 z.1)) y ys in
        let two : count_by (λ z. test (place z.0 z.1)) (y ∷ ys) ≡ one_if (test (place y.0 y.1)) + count_by (λ z. test (place z.0 z.1)) ys = count_cons (λ z. test (place z.0 z.1)) y ys in
        let here : one_if (test (cond (is_page p v y) x (place y.0 y.1))) ≡ one_if (test x) = ap (λ b. one_if (test (cond b x (place y.0 y.1)))) e in
        let was : one_if (test (place y.0 y.1)) ≡ one_if (test (place p v)) = ap (λ z. one_if (test z)) (place_at place p v y e) in
        let rest : count_by (λ z. test (with_place place p v x z.0 z.1)) ys ≡ count_by (λ z. test (place z.0 z.1)) ys = count_apart test place p v x ys (other_absent p v y ys e apart.0) in
        omega (arith, one, two, here, was, rest)
    by false e k r =
        let one : count_by (λ z. test (with_place place p v x z.0 z.1)) (y ∷ ys) ≡ one_if (test (cond (is_page p v y) x (place y.0 y.1))) + count_by (λ z. test (with_place place p v x z.0 z.1)) ys = count_cons (λ z. test (with_place place p v x z.0 z.1)) y ys in
        let two : count_by (λ z. test (place z.0 z.1)) (y ∷ ys) ≡ one_if (test (place y.0 y.1)) + count_by (λ z. test (place z.0 z.1)) ys = count_cons (λ z. test (place z.0 z.1)) y ys in
        let here : one_if (test (cond (is_page p v y) x (place y.0 y.1))) ≡ one_if (test (place y.0 y.1)) = ap (λ b. one_if (test (cond b x (place y.0 y.1)))) e in
        let rest = r k apart.1 in
        omega (arith, one, two, here, rest)

-- a page that was not placed does not pass
pub count_placed : (test : Place → Bool) (place : ℕ → ℕ → Place) (p v : ℕ) (x : Place) (xs : List (ℕ × ℕ)) → is_once xs ≡ true → (list_any (is_page p v) xs ≡ false → test (place p v) ≡ false) →
    count_by (λ y. test (with_place place p v x y.0 y.1)) (with_page p v xs) + one_if (test (place p v)) ≡ count_by (λ y. test (place y.0 y.1)) xs + one_if (test x)
count_placed test place p v x xs once none = by (list_any (is_page p v) xs) refl
  where
    by : (b : Bool) → list_any (is_page p v) xs ≡ b → count_by (λ y. test (with_place place p v x y.0 y.1)) (cond b xs ((p, v) ∷ xs)) + one_if (test (place p v)) ≡ count_by (λ y. test (place y.0 y.1)) xs + one_if (test x)
    by true e = count_there test place p v x xs e once
    by false e =
        let one : count_by (λ z. test (with_place place p v x z.0 z.1)) ((p, v) ∷ xs) ≡ one_if (test (cond ((p == p) && (v == v)) x (place p v))) + count_by (λ z. test (with_place place p v x z.0 z.1)) xs = count_cons (λ z. test (with_place place p v x z.0 z.1)) (p, v) xs in
        let here : one_if (test (cond ((p == p) && (v == v)) x (place p v))) ≡ one_if (test x) = ap (λ b. one_if (test (cond b x (place p v)))) (page_itself p v) in
        let was : one_if (test (place p v)) ≡ 0 = ap one_if (none e) in
        let rest : count_by (λ z. test (with_place place p v x z.0 z.1)) xs ≡ count_by (λ z. test (place z.0 z.1)) xs = count_apart test place p v x xs e in
        omega (arith, one, here, was, rest)

-- what some tests gain, others lose
pub count_two : (t u a b : ℕ × ℕ → Bool) (xs : List (ℕ × ℕ)) → ((y : ℕ × ℕ) → one_if (u y) + one_if (a y) ≡ one_if (t y) + one_if (b y)) → count_by u xs + count_by a xs ≡ count_by t xs + count_by b xs
count_two t u a b [] h = refl
count_two t u a b (y ∷ ys) h =
    let r = count_two t u a b ys h in
    let e = h y in
    omega (arith, r, e, count_cons t y ys, count_cons u y ys, count_cons a y ys, count_cons b y ys)

count_none : (xs : List (ℕ × ℕ)) → count_by (λ y. false) xs ≡ 0
count_none [] = refl
count_none (y ∷ ys) = count_cons (λ z. false) y ys ∙ omega (arith, count_none ys)

pub count_and : (t : ℕ × ℕ → Bool) (b : Bool) (xs : List (ℕ × ℕ)) → count_by (λ y. t y && b) xs ≡ (if b then count_by t xs else 0)
count_and t true xs = count_alike (λ y. t y && true) t xs (λ y. and-true (t y))
count_and t false xs = count_alike (λ y. t y && false) (λ y. false) xs (λ y. and-false (t y)) ∙ count_none xs
