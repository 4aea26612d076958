-- Whether no place shares what a writable one stands for, by how many pages stand for each frame.
use Rattle.std.proofs.Common.{◌≡◌, ℕ, ◌+◌, ◌≤◌, Bool, true, false, not, ◌==◌, ◌&&◌, ◌||◌, nat_le, ◌⊎◌, inl, inr, Option, Some, None, List, [], ◌∷◌, count_by, refl, sym, ap, ◌∙◌, arith}
use Rattle.std.specs.Prelude.{unwrap_or}
use Rattle.std.specs.List.{list_any, list_all}
use Rattle.std.proofs.lemmas.Bool.{and_parts, and_from, not-true}
use Rattle.std.proofs.lemmas.Bool.Decides.{nat_tests}
use Rattle.hm_base.specs.declared.Frame.{Frame}
use Rattle.hm_base.specs.declared.Place.{Place}
use Rattle.hm_base.specs.PlaceWords.{is_frame, writable}
use Rattle.hm_history.specs.Memory.Places.{Places, is_page, one_writer, stands_for, is_frame_target}
use Rattle.hm_history.proofs.Tests.{true_false}
use Rattle.hm_history.proofs.Frames.{frame_same, frame_itself}
use Rattle.hm_tables.specs.Shown.{is_once}
use Rattle.hm_folds.specs.Shares.{has_one_writer}
use Rattle.hm_folds.specs.Standing.{pages_where, shares_where, is_backed}
use Rattle.hm_folds.proofs.Counts.{one_if}
use Rattle.hm_folds.proofs.PlacedCounts.{count_cons}
use Rattle.hm_history.proofs.Placed.{counted as one_more}

-- the page is in the list
abbrev pub is_in : ℕ × ℕ → List (ℕ × ℕ) → Bool
is_in x xs = list_any (is_page x.0 x.1) xs

itself : (x : ℕ × ℕ) → is_page x.0 x.1 x ≡ true
itself x = grind (arith, nat_tests)

-- the same page passes the same test
page_passes : (t : ℕ × ℕ → Bool) (x y : ℕ × ℕ) → is_page x.0 x.1 y ≡ true → t y ≡ t x
page_passes t x y e = at (grind (arith, nat_tests)) (grind (arith, nat_tests))
  where
    at : y.0 ≡ x.0 → y.1 ≡ x.1 → t y ≡ t x
    at a b = ap t (pair a b)
      where
        pair : y.0 ≡ x.0 → y.1 ≡ x.1 → y ≡ x
        pair a b = ap (λ n. (n, y.1)) a ∙ ap (λ n. (x.0, n)) b

-- what each page of a list passes, one of them does
all_at : (t : ℕ × ℕ → Bool) (x : ℕ × ℕ) (xs : List (ℕ × ℕ)) → list_all t xs ≡ true → is_in x xs ≡ true → t x ≡ true
all_at t x [] h i = cc
all_at t x (y ∷ ys) h i = by (is_page x.0 x.1 y) refl i (all_at t x ys (and_parts (t y) (list_all t ys) h).1)
  where
    by : (b : Bool) → is_page x.0 x.1 y ≡ b → (b || is_in x ys) ≡ true → (is_in x ys ≡ true → t x ≡ true) → t x ≡ true
    by true e k r = sym (page_passes t x y e) ∙ (and_parts (t y) (list_all t ys) h).0
    by false e k r = r k

listed_later : (x y : ℕ × ℕ) (ys : List (ℕ × ℕ)) → is_in x ys ≡ true → is_in x (y ∷ ys) ≡ true
listed_later x y ys h = by (is_page x.0 x.1 y)
  where
    by : (b : Bool) → (b || is_in x ys) ≡ true
    by true = refl
    by false = h

listed_first : (x : ℕ × ℕ) (xs : List (ℕ × ℕ)) → is_in x (x ∷ xs) ≡ true
listed_first x xs = ap (λ b. b || is_in x xs) (itself x)

all_from : (t : ℕ × ℕ → Bool) (xs : List (ℕ × ℕ)) → ((x : ℕ × ℕ) → is_in x xs ≡ true → t x ≡ true) → list_all t xs ≡ true
all_from t [] h = refl
all_from t (y ∷ ys) h = and_from (t y) (list_all t ys) (h y (listed_first y ys)) (all_from t ys (λ x i. h x (listed_later x y ys i)))

-- one of them passes, or none is counted
pub some_counted : (t : ℕ × ℕ → Bool) (xs : List (ℕ × ℕ)) → (count_by t xs ≡ 0) ⊎ ((x : ℕ × ℕ) × (is_in x xs ≡ true) × (t x ≡ true))
some_counted t [] = inl refl
some_counted t (y ∷ ys) = by (t y) refl (some_counted t ys)
  where
    by : (b : Bool) → t y ≡ b → (count_by t ys ≡ 0) ⊎ ((x : ℕ × ℕ) × (is_in x ys ≡ true) × (t x ≡ true)) → (count_by t (y ∷ ys) ≡ 0) ⊎ ((x : ℕ × ℕ) × (is_in x (y ∷ ys) ≡ true) × (t x ≡ true))
    by true e r = inr (y, listed_first y ys, e)
    by false e (inl z) = inl (count_cons t y ys ∙ ap (λ b. one_if b + count_by t ys) e ∙ omega (arith, z))
    by false e (inr z) = inr (z.0, listed_later z.0 y ys z.1, z.2)

no_more : (t : ℕ × ℕ → Bool) (y : ℕ × ℕ) (ys : List (ℕ × ℕ)) → count_by t ys ≤ count_by t (y ∷ ys)
no_more t y ys = omega (arith, count_cons t y ys)

pub counted : (t : ℕ × ℕ → Bool) (x : ℕ × ℕ) (xs : List (ℕ × ℕ)) → is_in x xs ≡ true → t x ≡ true → 1 ≤ count_by t xs
counted t x [] i h = cc
counted t x (y ∷ ys) i h = by (is_page x.0 x.1 y) refl i (λ j. counted t x ys j h)
  where
    by : (b : Bool) → is_page x.0 x.1 y ≡ b → (b || is_in x ys) ≡ true → (is_in x ys ≡ true → 1 ≤ count_by t ys) → 1 ≤ count_by t (y ∷ ys)
    by true e k r = omega (arith, one_more t y ys (page_passes t x y e ∙ h))
    by false e k r = omega (arith, no_more t y ys, r k)

-- two of them
counted_two : (t : ℕ × ℕ → Bool) (x y : ℕ × ℕ) (xs : List (ℕ × ℕ)) → is_in x xs ≡ true → is_in y xs ≡ true → is_page x.0 x.1 y ≡ false → t x ≡ true → t y ≡ true → 2 ≤ count_by t xs
counted_two t x y [] i j ne h k = cc
counted_two t x y (z ∷ zs) i j ne h k = by (is_page x.0 x.1 z) (is_page y.0 y.1 z) refl refl i j (λ a b. counted_two t x y zs a b ne h k)
  where
    both : is_page x.0 x.1 z ≡ true → is_page y.0 y.1 z ≡ true → is_page x.0 x.1 y ≡ true
    both a b = grind (arith, nat_tests)

    by : (b d : Bool) → is_page x.0 x.1 z ≡ b → is_page y.0 y.1 z ≡ d → (b || is_in x zs) ≡ true → (d || is_in y zs) ≡ true → (is_in x zs ≡ true → is_in y zs ≡ true → 2 ≤ count_by t zs) → 2 ≤ count_by t (z ∷ zs)
    by true true a e l m r = absurd (true_false (is_page x.0 x.1 y) (both a e) ne)
    by true false a e l m r = omega (arith, one_more t z zs (page_passes t x z a ∙ h), counted t y zs m k)
    by false true a e l m r = omega (arith, one_more t z zs (page_passes t y z e ∙ k), counted t x zs l h)
    by false false a e l m r = omega (arith, no_more t z zs, r l m)

-- where all that pass are one page, there is one at the most
one_page : (t : ℕ × ℕ → Bool) (x : ℕ × ℕ) (xs : List (ℕ × ℕ)) → is_once xs ≡ true → list_all (λ y. is_page x.0 x.1 y || not (t y)) xs ≡ true → count_by t xs ≤ 1
one_page t x [] once h = omega arith
one_page t x (y ∷ ys) once h = by (t y) refl (is_page x.0 x.1 y) refl (one_page t x ys parts.1 (and_parts _ (list_all (λ z. is_page x.0 x.1 z || not (t z)) ys) h).1)
  where
    parts : (not (is_in y ys) ≡ true) × (is_once ys ≡ true)
    parts = and_parts (not (is_in y ys)) (is_once ys) once

    first : (is_page x.0 x.1 y || not (t y)) ≡ true
    first = (and_parts (is_page x.0 x.1 y || not (t y)) (list_all (λ z. is_page x.0 x.1 z || not (t z)) ys) h).0

    rest : list_all (λ z. is_page x.0 x.1 z || not (t z)) ys ≡ true
    rest = (and_parts (is_page x.0 x.1 y || not (t y)) (list_all (λ z. is_page x.0 x.1 z || not (t z)) ys) h).1

    none : is_page x.0 x.1 y ≡ true → count_by t ys ≡ 0
    none e = at (some_counted t ys)
      where
        at : (count_by t ys ≡ 0) ⊎ ((z : ℕ × ℕ) × (is_in z ys ≡ true) × (t z ≡ true)) → count_by t ys ≡ 0
        at (inl z) = z
        at (inr z) = absurd (true_false (is_in y ys) (turned (is_page x.0 x.1 z.0) refl (all_at (λ w. is_page x.0 x.1 w || not (t w)) z.0 ys rest z.1)) (not-true (is_in y ys) parts.0))
          where
            same : is_page x.0 x.1 z.0 ≡ true → (y.0 ≡ z.0.0) × (y.1 ≡ z.0.1)
            same f = (grind (arith, nat_tests), grind (arith, nat_tests))

            moved : (y.0 ≡ z.0.0) × (y.1 ≡ z.0.1) → is_in y ys ≡ true
            moved f = ap (λ n. list_any (is_page n y.1) ys) f.0 ∙ ap (λ n. list_any (is_page z.0.0 n) ys) f.1 ∙ z.1

            turned : (b : Bool) → is_page x.0 x.1 z.0 ≡ b → (b || not (t z.0)) ≡ true → is_in y ys ≡ true
            turned true f k = moved (same f)
            turned false f k = absurd (true_false (t z.0) z.2 (not-true (t z.0) k))

    by : (b : Bool) → t y ≡ b → (d : Bool) → is_page x.0 x.1 y ≡ d → count_by t ys ≤ 1 → count_by t (y ∷ ys) ≤ 1
    by false e d f r = let s : count_by t (y ∷ ys) ≡ 0 + count_by t ys = count_cons t y ys ∙ ap (λ b. one_if b + count_by t ys) e in omega (arith, s, r)
    by true e true f r = omega (arith, one_more t y ys e, none f)
    by true e false f r = absurd (true_false (is_page x.0 x.1 y || not (t y)) first (ap (λ b. b || not (t y)) f ∙ ap not e))

-- what stands for a frame
backed_stands : (s : Places) (f : Frame) (x : Place) → is_backed s f x ≡ true → stands_for s x ≡ Some (Some f)
backed_stands s f x h = by (stands_for s x) refl h
  where
    by : (o : Option (Option Frame)) → stands_for s x ≡ o → is_frame (unwrap_or o None) f ≡ true → o ≡ Some (Some f)
    by None e k = cc
    by (Some None) e k = cc
    by (Some (Some g)) e k = ap (λ z. Some (Some z)) (frame_same g f k)

stands_backed : (s : Places) (f : Frame) (x : Place) → stands_for s x ≡ Some (Some f) → is_backed s f x ≡ true
stands_backed s f x e = ap (λ o. is_frame (unwrap_or o None) f) e ∙ frame_itself f

abbrev pub one_writer_at : Places → Frame → Bool
one_writer_at s f = has_one_writer (shares_where s (is_backed s f))

one_writer_from : (pages writers : ℕ) → (writers ≡ 0) ⊎ (pages ≤ 1) → (nat_le pages 1 || (writers == 0)) ≡ true
one_writer_from pages writers (inl e) = grind (arith, nat_tests)
one_writer_from pages writers (inr l) = grind (arith, nat_tests)

one_writer_to : (pages writers : ℕ) → (nat_le pages 1 || (writers == 0)) ≡ true → 1 ≤ writers → pages ≤ 1
one_writer_to pages writers h l = grind (arith, nat_tests)

-- the test of one page against the others
abbrev others : Places → ℕ × ℕ → ℕ × ℕ → Bool
others s x y = is_page x.0 x.1 y || not (is_frame_target (stands_for s (s.place x.0 x.1)) (stands_for s (s.place y.0 y.1)))

pub one_writer_all : (s : Places) → is_once s.placed ≡ true → one_writer s ≡ true → (f : Frame) → one_writer_at s f ≡ true
one_writer_all s once h f = one_writer_from (pages_where s (is_backed s f)) (pages_where s (λ x. is_backed s f x && writable x)) (by (some_counted (λ y. is_backed s f (s.place y.0 y.1) && writable (s.place y.0 y.1)) s.placed))
  where
    by : (count_by (λ y. is_backed s f (s.place y.0 y.1) && writable (s.place y.0 y.1)) s.placed ≡ 0) ⊎ ((x : ℕ × ℕ) × (is_in x s.placed ≡ true) × ((is_backed s f (s.place x.0 x.1) && writable (s.place x.0 x.1)) ≡ true)) →
        (pages_where s (λ x. is_backed s f x && writable x) ≡ 0) ⊎ (pages_where s (is_backed s f) ≤ 1)
    by (inl z) = inl z
    by (inr z) = inr (one_page (λ y. is_backed s f (s.place y.0 y.1)) x s.placed once (all_from _ s.placed (λ y i. each y (all_at (others s x) y s.placed inner i) (is_backed s f (s.place y.0 y.1)) refl)))
      where
        x : ℕ × ℕ
        x = z.0

        parts : (is_backed s f (s.place z.0.0 z.0.1) ≡ true) × (writable (s.place z.0.0 z.0.1) ≡ true)
        parts = and_parts (is_backed s f (s.place z.0.0 z.0.1)) (writable (s.place z.0.0 z.0.1)) z.2

        inner : list_all (others s z.0) s.placed ≡ true
        inner = wr (writable (s.place z.0.0 z.0.1)) parts.1 (all_at (λ w. not (writable (s.place w.0 w.1)) || list_all (others s w) s.placed) z.0 s.placed h z.1)
          where
            wr : (b : Bool) → b ≡ true → (not b || list_all (others s z.0) s.placed) ≡ true → list_all (others s z.0) s.placed ≡ true
            wr true e k = k
            wr false e k = cc

        each : (y : ℕ × ℕ) → others s z.0 y ≡ true → (b : Bool) → is_backed s f (s.place y.0 y.1) ≡ b → (is_page z.0.0 z.0.1 y || not b) ≡ true
        each y k false e = or_true (is_page z.0.0 z.0.1 y)
          where
            or_true : (b : Bool) → (b || true) ≡ true
            or_true true = refl
            or_true false = refl
        each y k true e = sym (ap (λ c. is_page z.0.0 z.0.1 y || not c) same) ∙ k
          where
            same : is_frame_target (stands_for s (s.place z.0.0 z.0.1)) (stands_for s (s.place y.0 y.1)) ≡ true
            same = ap (λ o. is_frame_target o (stands_for s (s.place y.0 y.1))) (backed_stands s f (s.place z.0.0 z.0.1) parts.0) ∙ ap (is_frame_target (Some (Some f))) (backed_stands s f (s.place y.0 y.1) e) ∙ frame_itself f

pub writer_of : (s : Places) → ((f : Frame) → one_writer_at s f ≡ true) → one_writer s ≡ true
writer_of s h = all_from (λ w. not (writable (s.place w.0 w.1)) || list_all (others s w) s.placed) s.placed (λ x i. at x i (writable (s.place x.0 x.1)) refl)
  where
    apart : (x y : ℕ × ℕ) → is_in x s.placed ≡ true → is_in y s.placed ≡ true → writable (s.place x.0 x.1) ≡ true → is_page x.0 x.1 y ≡ false → (o p : Option (Option Frame)) → stands_for s (s.place x.0 x.1) ≡ o → stands_for s (s.place y.0 y.1) ≡ p → is_frame_target o p ≡ true → ⊥
    apart x y i j w ne None p a b k = cc
    apart x y i j w ne (Some None) p a b k = cc
    apart x y i j w ne (Some (Some f)) None a b k = cc
    apart x y i j w ne (Some (Some f)) (Some None) a b k = cc
    apart x y i j w ne (Some (Some f)) (Some (Some g)) a b k = absurd (omega (arith, few, two))
      where
        first : is_backed s f (s.place x.0 x.1) ≡ true
        first = stands_backed s f (s.place x.0 x.1) a

        second : is_backed s f (s.place y.0 y.1) ≡ true
        second = stands_backed s f (s.place y.0 y.1) (b ∙ ap (λ z. Some (Some z)) (sym (frame_same f g k)))

        two : 2 ≤ pages_where s (is_backed s f)
        two = counted_two (λ z. is_backed s f (s.place z.0 z.1)) x y s.placed i j ne first second

        few : pages_where s (is_backed s f) ≤ 1
        few = one_writer_to (pages_where s (is_backed s f)) (pages_where s (λ z. is_backed s f z && writable z)) (h f) (counted (λ z. is_backed s f (s.place z.0 z.1) && writable (s.place z.0 z.1)) x s.placed i (and_from (is_backed s f (s.place x.0 x.1)) (writable (s.place x.0 x.1)) first w))

    pass : (x y : ℕ × ℕ) → is_in x s.placed ≡ true → is_in y s.placed ≡ true → writable (s.place x.0 x.1) ≡ true → (b d : Bool) → is_page x.0 x.1 y ≡ b → is_frame_target (stands_for s (s.place x.0 x.1)) (stands_for s (s.place y.0 y.1)) ≡ d → (b || not d) ≡ true
    pass x y i j w true d e k = refl
    pass x y i j w false false e k = refl
    pass x y i j w false true e k = absurd (apart x y i j w e (stands_for s (s.place x.0 x.1)) (stands_for s (s.place y.0 y.1)) refl refl k)

    at : (x : ℕ × ℕ) → is_in x s.placed ≡ true → (b : Bool) → writable (s.place x.0 x.1) ≡ b → (not b || list_all (others s x) s.placed) ≡ true
    at x i false e = refl
    at x i true e = all_from (others s x) s.placed (λ y j. pass x y i j e (is_page x.0 x.1 y) (is_frame_target (stands_for s (s.place x.0 x.1)) (stands_for s (s.place y.0 y.1))) refl refl)

-- where all frames but one have one writer, that one decides
pub one_decides : (s : Places) → is_once s.placed ≡ true → (o : Option Frame) (b : Bool) → ((f : Frame) → is_frame o f ≡ false → one_writer_at s f ≡ true) → ((f : Frame) → is_frame o f ≡ true → one_writer_at s f ≡ b) → (o ≡ None → b ≡ true) → b ≡ one_writer s
one_decides s once o true h k n = sym (writer_of s (λ f. at f (is_frame o f) refl))
  where
    at : (f : Frame) (b : Bool) → is_frame o f ≡ b → one_writer_at s f ≡ true
    at f true e = k f e
    at f false e = h f e
one_decides s once o false h k n = by o refl (one_writer s) refl
  where
    by : (p : Option Frame) → o ≡ p → (b : Bool) → one_writer s ≡ b → false ≡ b
    by None e b d = absurd (true_false false (n e) refl)
    by (Some f) e false d = refl
    by (Some f) e true d = absurd (true_false (one_writer_at s f) (one_writer_all s once d f) (k f (ap (λ q. is_frame q f) e ∙ frame_itself f)))
