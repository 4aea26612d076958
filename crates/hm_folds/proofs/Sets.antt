-- Sets of mirrors, as lists of numbers that pass a test.
use Rattle.std.proofs.Common.{◌≡◌, ℕ, zero, suc, ◌+◌, ◌<◌, ◌≤◌, Bool, true, false, ◌==◌, ◌&&◌, nat_lt, Some, None, ◌⊎◌, inl, inr, List, [], ◌∷◌, ◌++◌, length, slice_set, filter, find, refl, sym, ◌∙◌, arith}
use Rattle.std.specs.List.{list_all, list_any}
use Rattle.std.proofs.lemmas.Bool.{cases_eq}
use Rattle.std.proofs.lemmas.Bool.Decides.{nat_tests}
use Rattle.std.proofs.lemmas.Grind.{elements}
use Rattle.hm_history.specs.Memory.Words.{numbers}
use Rattle.hm_folds.specs.Kept.{has_mirror, mirrors_of}

-- each number of a set passes
pub all_true : (f P : ℕ → Bool) (a n : ℕ) → ((k : ℕ) → a ≤ k → k < a + n → f k ≡ true → P k ≡ true) → list_all P (filter f (numbers a n)) ≡ true
all_true f P a zero h = refl
all_true f P a (suc n) h = grind (arith, nat_tests, h a, all_true f P (a + 1) n (λ k l m. h k (omega arith) (omega arith)))

-- one of it does not
pub all_false : (f P : ℕ → Bool) (a n i : ℕ) → a ≤ i → i < a + n → f i ≡ true → P i ≡ false → list_all P (filter f (numbers a n)) ≡ false
all_false f P a zero i l m e d = absurd (omega arith)
all_false f P a (suc n) i l m e d = grind (arith, nat_tests, all_false f P (a + 1) n i)

-- if each passes, so does a number of it
pub all_of : (f P : ℕ → Bool) (a n i : ℕ) → a ≤ i → i < a + n → list_all P (filter f (numbers a n)) ≡ true → f i ≡ true → P i ≡ true
all_of f P a n i l m h e = by (P i) refl
  where
    by : (b : Bool) → P i ≡ b → P i ≡ true
    by true d = d
    by false d = let no : false ≡ true = sym (all_false f P a n i l m e d) ∙ h in absurd (let b : ⊥ = cc in b)

-- a number is in it
pub none_below : (f : ℕ → Bool) (a n i : ℕ) → i < a → list_any (λ k. k == i) (filter f (numbers a n)) ≡ false
none_below f a zero i l = refl
none_below f a (suc n) i l = grind (arith, nat_tests, none_below f (a + 1) n i)

pub any_here : (f : ℕ → Bool) (a n i : ℕ) → a ≤ i → i < a + n → list_any (λ k. k == i) (filter f (numbers a n)) ≡ f i
any_here f a zero i l m = absurd (omega arith)
any_here f a (suc n) i l m = by (cases_eq a i) (λ p q. any_here f (a + 1) n i p q)
  where
    by : (a ≡ i) ⊎ (a ≡ i → ⊥) → (a + 1 ≤ i → i < a + 1 + n → list_any (λ k. k == i) (filter f (numbers (a + 1) n)) ≡ f i) → list_any (λ k. k == i) (filter f (numbers a (suc n))) ≡ f i
    by (inl e) r = grind (arith, nat_tests, none_below f (a + 1) n i (omega arith))
    by (inr e) r = grind (arith, nat_tests, r (omega arith) (omega arith))

-- it has a number, or none
pub some_there : (f : ℕ → Bool) (a n i : ℕ) → a ≤ i → i < a + n → f i ≡ true → nat_lt 0 (length (filter f (numbers a n))) ≡ true
some_there f a zero i l m e = absurd (omega arith)
some_there f a (suc n) i l m e = grind (arith, nat_tests, some_there f (a + 1) n i)

pub none_there : (f : ℕ → Bool) (a n : ℕ) → ((k : ℕ) → a ≤ k → k < a + n → f k ≡ false) → filter f (numbers a n) ≡ []
none_there f a zero h = refl
none_there f a (suc n) h = grind (arith, nat_tests, h a, none_there f (a + 1) n (λ k l m. h k (omega arith) (omega arith)))

-- two tests that agree
pub same_set : (f g : ℕ → Bool) (a n : ℕ) → ((k : ℕ) → a ≤ k → k < a + n → f k ≡ g k) → filter f (numbers a n) ≡ filter g (numbers a n)
same_set f g a zero h = refl
same_set f g a (suc n) h = grind (arith, nat_tests, h a, same_set f g (a + 1) n (λ k l m. h k (omega arith) (omega arith)))

-- the first of it that passes another test
pub find_at : (f g : ℕ → Bool) (a n i : ℕ) → a ≤ i → i < a + n → ((k : ℕ) → a ≤ k → k < i → (f k && g k) ≡ false) → f i ≡ true → g i ≡ true → find g (filter f (numbers a n)) ≡ Some i
find_at f g a zero i l m h d e = absurd (omega arith)
find_at f g a (suc n) i l m h d e = by (cases_eq a i) (λ p q. find_at f g (a + 1) n i p q (λ k o t. h k (omega arith) t) d e)
  where
    by : (a ≡ i) ⊎ (a ≡ i → ⊥) → (a + 1 ≤ i → i < a + 1 + n → find g (filter f (numbers (a + 1) n)) ≡ Some i) → find g (filter f (numbers a (suc n))) ≡ Some i
    by (inl j) r = grind (arith, nat_tests)
    by (inr j) r = grind (arith, nat_tests, h a (omega arith) (omega arith), r (omega arith) (omega arith))

pub find_none : (f g : ℕ → Bool) (a n : ℕ) → ((k : ℕ) → a ≤ k → k < a + n → (f k && g k) ≡ false) → find g (filter f (numbers a n)) ≡ None
find_none f g a zero h = refl
find_none f g a (suc n) h = grind (arith, nat_tests, h a, find_none f g (a + 1) n (λ k o p. h k (omega arith) (omega arith)))

-- one number more, above those that are there
pub one_more : (f g : ℕ → Bool) (a n m : ℕ) → a ≤ m → m < a + n → ((k : ℕ) → a ≤ k → k < a + n → f k ≡ true → k < m) → g m ≡ true → ((k : ℕ) → (k ≡ m → ⊥) → g k ≡ f k)
    → filter g (numbers a n) ≡ filter f (numbers a n) ++ m ∷ []
one_more f g a zero m l o h e d = absurd (omega arith)
one_more f g a (suc n) m l o h e d = by (cases_eq a m) (λ p q. one_more f g (a + 1) n m p q (λ k s t. h k (omega arith) (omega arith)) e d)
  where
    below : (b : Bool) (k : ℕ) → f k ≡ b → a ≤ k → k < a + suc n → m ≤ k → f k ≡ false
    below true k p q r t = absurd (let j = h k q r p in omega arith)
    below false k p q r t = p

    by : (a ≡ m) ⊎ (a ≡ m → ⊥) → (a + 1 ≤ m → m < a + 1 + n → filter g (numbers (a + 1) n) ≡ filter f (numbers (a + 1) n) ++ m ∷ []) → filter g (numbers a (suc n)) ≡ filter f (numbers a (suc n)) ++ m ∷ []
    by (inl i) r =
        let none : (k : ℕ) → a + 1 ≤ k → k < a + 1 + n → f k ≡ false = λ k p q. below (f k) k refl (omega arith) (omega arith) (omega arith) in
        let same : (k : ℕ) → a + 1 ≤ k → k < a + 1 + n → g k ≡ false = λ k p q. d k (λ j. absurd (omega arith)) ∙ none k p q in
        grind (arith, nat_tests, below (f a) a refl (omega arith) (omega arith) (omega arith), none_there f (a + 1) n none, none_there g (a + 1) n same)
    by (inr i) r = grind (arith, nat_tests, d a i, r (omega arith) (omega arith))

-- one mirror more
pub one_told : (xs : List Bool) (i m : ℕ) → i ≡ m → length xs ≡ 32 → m < 32 → list_all (λ k. nat_lt k m) (mirrors_of xs) ≡ true → mirrors_of (slice_set xs i true) ≡ mirrors_of xs ++ m ∷ []
one_told xs i m e n l h =
    let P : ℕ → Bool = λ k. nat_lt k m in
    rw e (one_more (has_mirror xs) (has_mirror (slice_set xs m true)) 0 32 m (omega arith) l
    (λ k a b f. let t = all_of (has_mirror xs) P 0 32 k a b h f in grind (arith, nat_tests))
    (grind (arith, elements)) (λ k ne. grind (arith, elements)))
