-- Lists by their beginnings, and sums over views.
use Rattle.std.proofs.Common.{◌≡◌, ◌≢◌, ℕ, zero, suc, ◌+◌, ◌<◌, ◌≤◌, Option, Some, None, List, [], ◌∷◌, ◌++◌, length, slice_get, set, sum_by, sym, refl, ap, ◌∙◌, arith, append_assoc, length-append}
use mathlib.Core.Option.{some, some-injective, some-ne-none}
use mathlib.Core.List.{IsPrefix, append-nil}
use lib.ListN.{get_elem?}
use Rattle.std.proofs.lemmas.List.Sums.{sum_by-cons}

module _ {A : Type 0} where
  pub prefix_refl : (xs : List A) → IsPrefix xs xs
  prefix_refl xs = ([], append-nil xs)

  pub prefix_trans : (xs ys zs : List A) → IsPrefix xs ys → IsPrefix ys zs → IsPrefix xs zs
  prefix_trans xs ys zs p q = (p.0 ++ q.0, sym (append_assoc xs p.0 q.0) ∙ (ap (λ (l : List A). l ++ q.0) p.1 ∙ q.1))

  pub prefix_length : (xs ys : List A) → IsPrefix xs ys → length xs ≤ length ys
  prefix_length xs ys p = omega (arith, length-append xs p.0, ap (λ (l : List A). length l) p.1)

  -- of two beginnings of one list the shorter begins the longer
  pub prefix_pair : (xs ys zs : List A) → IsPrefix xs zs → IsPrefix ys zs → length xs ≤ length ys → IsPrefix xs ys
  prefix_pair [] ys zs p q le = (ys, refl)
  prefix_pair (x ∷ xs) [] zs p q le = absurd (omega arith)
  prefix_pair (x ∷ xs) (y ∷ ys) [] p q le = absurd (let e = p.1 in cc)
  prefix_pair (x ∷ xs) (y ∷ ys) (z ∷ zs) p q le =
      let e = p.1 in let f = q.1 in let xz : x ≡ z = cc in let yz : y ≡ z = cc in let t : xs ++ p.0 ≡ zs = cc in let u : ys ++ q.0 ≡ zs = cc in
      let r = prefix_pair xs ys zs (p.0, t) (q.0, u) (omega arith) in let g = r.1 in (r.0, (let h : x ≡ y = cc in cc))

  pub prefix_whole : (xs zs : List A) → IsPrefix xs zs → length zs ≤ length xs → xs ≡ zs
  prefix_whole [] [] p le = refl
  prefix_whole [] (z ∷ zs) p le = absurd (omega arith)
  prefix_whole (x ∷ xs) [] p le = absurd (let e = p.1 in cc)
  prefix_whole (x ∷ xs) (z ∷ zs) p le = let e = p.1 in let h : x ≡ z = cc in let t : xs ++ p.0 ≡ zs = cc in let r = prefix_whole xs zs (p.0, t) (omega arith) in cc

  -- what stands at a place
  pub get_append : (xs ys : List A) (i : ℕ) → i < length xs → slice_get (xs ++ ys) i ≡ slice_get xs i
  get_append [] ys i lt = absurd (omega arith)
  get_append (x ∷ xs) ys zero lt = refl
  get_append (x ∷ xs) ys (suc i) lt = get_append xs ys i (omega arith)

  pub get_last : (xs : List A) (x : A) → slice_get (xs ++ x ∷ []) (length xs) ≡ Some x
  get_last [] x = refl
  get_last (y ∷ xs) x = get_last xs x

  abbrev some_or : A → Option A → A
  some_or d None = d
  some_or d (Some x) = x

  pub same_last : (xs : List A) (x y : A) → xs ++ x ∷ [] ≡ xs ++ y ∷ [] → x ≡ y
  same_last xs x y e = ap (some_or x) (sym (get_last xs x) ∙ (ap (λ (l : List A). slice_get l (length xs)) e ∙ get_last xs y))

  -- a sum after one element changes
  pub sum_set : (f : A → ℕ) (l : List A) (i : ℕ) (a b : A) → get_elem? l i ≡ some a → sum_by f (set l i b) + f a ≡ sum_by f l + f b
  sum_set f [] i a b e = absurd (some-ne-none a (sym e))
  sum_set f (x ∷ xs) zero a b e = let h : f x ≡ f a = ap f (some-injective x a e) in omega (arith, sum_by-cons f b xs, sum_by-cons f x xs)
  sum_set f (x ∷ xs) (suc i) a b e = let r = sum_set f xs i a b e in omega (arith, sum_by-cons f x xs, sum_by-cons f x (set xs i b))

  pub sum_none : (f : A → ℕ) (l : List A) → ((i : ℕ) (a : A) → get_elem? l i ≡ some a → f a ≡ 0) → sum_by f l ≡ 0
  sum_none f [] none = refl
  sum_none f (x ∷ xs) none = let h = none 0 x refl in let r = sum_none f xs (λ i a e. none (suc i) a e) in omega (arith, sum_by-cons f x xs)

  pub one_of : (f : A → ℕ) (l : List A) (i : ℕ) (a : A) → get_elem? l i ≡ some a → f a ≤ sum_by f l
  one_of f [] i a e = absurd (some-ne-none a (sym e))
  one_of f (x ∷ xs) zero a e = let h : f x ≡ f a = ap f (some-injective x a e) in omega (arith, sum_by-cons f x xs)
  one_of f (x ∷ xs) (suc i) a e = let r = one_of f xs i a e in omega (arith, sum_by-cons f x xs)

  pub two_of : (f : A → ℕ) (l : List A) (i j : ℕ) (a b : A) → i ≢ j → get_elem? l i ≡ some a → get_elem? l j ≡ some b → f a + f b ≤ sum_by f l
  two_of f [] i j a b ne e g = absurd (some-ne-none a (sym e))
  two_of f (x ∷ xs) zero zero a b ne e g = absurd (ne refl)
  two_of f (x ∷ xs) zero (suc j) a b ne e g = let h : f x ≡ f a = ap f (some-injective x a e) in let r = one_of f xs j b g in omega (arith, sum_by-cons f x xs)
  two_of f (x ∷ xs) (suc i) zero a b ne e g = let h : f x ≡ f b = ap f (some-injective x b g) in let r = one_of f xs i a e in omega (arith, sum_by-cons f x xs)
  two_of f (x ∷ xs) (suc i) (suc j) a b ne e g = let r = two_of f xs i j a b (λ h. ne (ap suc h)) e g in omega (arith, sum_by-cons f x xs)

  pub set_at : (l : List A) (i : ℕ) (a b : A) → get_elem? l i ≡ some a → get_elem? (set l i b) i ≡ some b
  set_at [] i a b e = absurd (some-ne-none a (sym e))
  set_at (x ∷ xs) zero a b e = refl
  set_at (x ∷ xs) (suc i) a b e = set_at xs i a b e
