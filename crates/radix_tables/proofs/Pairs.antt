-- The map of a function, over a range of numbers.
use Rattle.std.proofs.Common.{◌≡◌, ◌≢◌, ℕ, zero, suc, ◌+◌, ◌^◌, ◌<◌, ◌≤◌, Bool, true, false, not, ◌&&◌, eqb, ltb, leb, cond, Option, Some, None, List, [], ◌∷◌, ◌++◌, refl, sym, ap, ◌∙◌, arith, ◌⊎◌, inl, inr}
use Rattle.std.specs.Prelude.{find, unwrap_or}
use Rattle.std.specs.List.{filter, list_any, range_with_len}
use Rattle.std.specs.Ordering.{nat_cmp}
use Rattle.std.specs.FinMap.Entries as sorted
use Rattle.std.proofs.lemmas.Bool.{cases_eq, cases_lt, eq-eqb}
use Rattle.std.proofs.lemmas.Bool.Decides.{nat_tests}
use Rattle.radix_tables.specs.Maps.{Map, pairs, pages, page_count, map_of, word_at, is_reserved, with_word, without_word, given_back, room_left, before, next_word, is_marked, marked, next_marked}
use Rattle.radix_tables.specs.Levels.{IsLeast}

other_test : (a b : ℕ) → a ≢ b → eqb a b ≡ false
other_test a b d = grind (arith, nat_tests)

-- the list of a function depends on what the function has
pub pairs_same : (f g : ℕ → ℕ) (a n : ℕ) → ((q : ℕ) → a ≤ q → g q ≡ f q) → pairs g (range_with_len a n) ≡ pairs f (range_with_len a n)
pairs_same f g a zero h = refl
pairs_same f g a (suc n) h = rw (h a (omega arith)) (ap (λ l. cond (eqb (f a) 0) [] ((a, f a) ∷ []) ++ l) (pairs_same f g (a + 1) n (λ q l. h q (omega arith))))

found : ℕ → Option ℕ
found k = cond (eqb k 0) None (Some k)

unfound : (k : ℕ) → unwrap_or (found k) 0 ≡ k
unfolding found
unfound k = by (cases_eq k 0)
  where
    by : (k ≡ 0) ⊎ (k ≢ 0) → unwrap_or (cond (eqb k 0) None (Some k)) 0 ≡ k
    by (inl e) = rw (eq-eqb k 0 e) (sym e)
    by (inr d) = rw (other_test k 0 d) refl

-- a step of a look-up
step_here : (k w : ℕ) (es : List (ℕ × ℕ)) → sorted.find nat_cmp k ((k, w) ∷ es) ≡ Some w
step_here k w es = grind (arith, nat_tests)

step_past : (q k w : ℕ) (es : List (ℕ × ℕ)) → q ≢ k → sorted.find nat_cmp q ((k, w) ∷ es) ≡ sorted.find nat_cmp q es
step_past q k w es d = grind (arith, nat_tests)

find_below : (f : ℕ → ℕ) (q a n : ℕ) → q < a → sorted.find nat_cmp q (pairs f (range_with_len a n)) ≡ None
find_below f q a zero l = refl
find_below f q a (suc n) l = by (eqb (f a) 0) (find_below f q (a + 1) n (omega arith))
  where
    by : (b : Bool) → sorted.find nat_cmp q (pairs f (range_with_len (a + 1) n)) ≡ None → sorted.find nat_cmp q (cond b [] ((a, f a) ∷ []) ++ pairs f (range_with_len (a + 1) n)) ≡ None
    by true r = r
    by false r = step_past q a (f a) _ (λ e. absurd (omega arith)) ∙ r

find_in : (f : ℕ → ℕ) (q a n : ℕ) → a ≤ q → q < a + n → sorted.find nat_cmp q (pairs f (range_with_len a n)) ≡ found (f q)
unfolding found
find_in f q a zero l m = absurd (omega arith)
find_in f q a (suc n) l m = by (eqb (f a) 0) refl (cases_eq q a) (λ (d : q ≢ a). find_in f q (a + 1) n (omega arith) (omega arith))
  where
    by : (b : Bool) → eqb (f a) 0 ≡ b → (q ≡ a) ⊎ (q ≢ a) → (q ≢ a → sorted.find nat_cmp q (pairs f (range_with_len (a + 1) n)) ≡ cond (eqb (f q) 0) None (Some (f q))) → sorted.find nat_cmp q (cond b [] ((a, f a) ∷ []) ++ pairs f (range_with_len (a + 1) n)) ≡ cond (eqb (f q) 0) None (Some (f q))
    by true e (inl p) rest =
        let x : eqb (f q) 0 ≡ true = ap (λ k. eqb (f k) 0) p ∙ e in
        find_below f q (a + 1) n (omega arith) ∙ sym (rw x refl)
    by false e (inl p) rest =
        let x : eqb (f q) 0 ≡ false = ap (λ k. eqb (f k) 0) p ∙ e in
        ap (λ k. sorted.find nat_cmp k ((a, f a) ∷ pairs f (range_with_len (a + 1) n))) p ∙ (step_here a (f a) (pairs f (range_with_len (a + 1) n)) ∙ (ap (λ k. Some (f k)) (sym p) ∙ sym (rw x refl)))
    by true e (inr d) rest = rest d
    by false e (inr d) rest = step_past q a (f a) (pairs f (range_with_len (a + 1) n)) d ∙ rest d

put_front : (f : ℕ → ℕ) (k w a n : ℕ) → k < a → sorted.put nat_cmp k w (pairs f (range_with_len a n)) ≡ (k, w) ∷ pairs f (range_with_len a n)
put_front f k w a zero l = refl
put_front f k w a (suc n) l = by (eqb (f a) 0) (put_front f k w (a + 1) n (omega arith))
  where
    first : (v : ℕ) (es : List (ℕ × ℕ)) → sorted.put nat_cmp k w ((a, v) ∷ es) ≡ (k, w) ∷ ((a, v) ∷ es)
    first v es = let e : ltb k a ≡ true = less k a l in rw e refl
      where
        less : (x y : ℕ) → x < y → ltb x y ≡ true
        less x y l = grind (arith, nat_tests)

    by : (b : Bool) → sorted.put nat_cmp k w (pairs f (range_with_len (a + 1) n)) ≡ (k, w) ∷ pairs f (range_with_len (a + 1) n) →
        sorted.put nat_cmp k w (cond b [] ((a, f a) ∷ []) ++ pairs f (range_with_len (a + 1) n)) ≡ (k, w) ∷ (cond b [] ((a, f a) ∷ []) ++ pairs f (range_with_len (a + 1) n))
    by true r = r
    by false r = first (f a) (pairs f (range_with_len (a + 1) n))

-- a word is put in
put_in : (f g : ℕ → ℕ) (p w a n : ℕ) → a ≤ p → p < a + n → w ≢ 0 → ((q : ℕ) → g q ≡ cond (eqb q p) w (f q)) →
    sorted.put nat_cmp p w (pairs f (range_with_len a n)) ≡ pairs g (range_with_len a n)
put_in f g p w a zero l m d h = absurd (omega arith)
put_in f g p w a (suc n) l m d h = by (eqb (f a) 0) refl (cases_eq p a) (λ (z : p ≢ a). put_in f g p w (a + 1) n (omega arith) (omega arith) d h)
  where
    rest_same : a ≡ p → pairs g (range_with_len (a + 1) n) ≡ pairs f (range_with_len (a + 1) n)
    rest_same e = pairs_same f g (a + 1) n (λ q k. h q ∙ rw (other_test q p (λ z. absurd (omega arith))) refl)

    here : p ≡ a → pairs g (range_with_len a (suc n)) ≡ (p, w) ∷ pairs f (range_with_len (a + 1) n)
    here e = let x : g a ≡ w = h a ∙ rw (eq-eqb a p (sym e)) refl in rw (x, other_test w 0 d, rest_same (sym e)) (ap (λ k. (k, w) ∷ pairs f (range_with_len (a + 1) n)) (sym e))

    other : p ≢ a → g a ≡ f a
    other d = h a ∙ rw (other_test a p (λ z. d (sym z))) refl

    equal : (v : ℕ) (es : List (ℕ × ℕ)) → p ≡ a → sorted.put nat_cmp p w ((a, v) ∷ es) ≡ (p, w) ∷ es
    equal v es e = let x : ltb p a ≡ false = not_less p a e in let y = eq-eqb p a e in rw (x, y) (ap (λ k. (k, w) ∷ es) (sym e))
      where
        not_less : (x y : ℕ) → x ≡ y → ltb x y ≡ false
        not_less x y e = grind (arith, nat_tests)

    later : (v : ℕ) (es : List (ℕ × ℕ)) → p ≢ a → sorted.put nat_cmp p w ((a, v) ∷ es) ≡ (a, v) ∷ sorted.put nat_cmp p w es
    later v es d = let x : ltb p a ≡ false = not_less p a l in let y = other_test p a d in rw (x, y) refl
      where
        not_less : (x y : ℕ) → y ≤ x → ltb x y ≡ false
        not_less x y e = grind (arith, nat_tests)

    by : (b : Bool) → eqb (f a) 0 ≡ b → (p ≡ a) ⊎ (p ≢ a) → (p ≢ a → sorted.put nat_cmp p w (pairs f (range_with_len (a + 1) n)) ≡ pairs g (range_with_len (a + 1) n)) → sorted.put nat_cmp p w (cond b [] ((a, f a) ∷ []) ++ pairs f (range_with_len (a + 1) n)) ≡ pairs g (range_with_len a (suc n))
    by true e (inl q) rest = put_front f p w (a + 1) n (omega arith) ∙ sym (here q)
    by false e (inl q) rest = equal (f a) (pairs f (range_with_len (a + 1) n)) q ∙ sym (here q)
    by true e (inr q) rest = rest q ∙ sym (rw (other q, e) refl)
    by false e (inr q) rest = later (f a) (pairs f (range_with_len (a + 1) n)) q ∙ (ap (λ l. (a, f a) ∷ l) (rest q) ∙ sym (rw (other q, e) refl))

-- what passes a test is kept
kept_in : (f g : ℕ → ℕ) (test : ℕ → Bool) (ns : List ℕ) → ((q : ℕ) → g q ≡ cond (test q) (f q) 0) → sorted.where_key nat_cmp test (pairs f ns) ≡ pairs g ns
kept_in f g test [] h = refl
kept_in f g test (a ∷ ns) h = by (eqb (f a) 0) refl (test a) refl (kept_in f g test ns h)
  where
    by : (b : Bool) → eqb (f a) 0 ≡ b → (t : Bool) → test a ≡ t → sorted.where_key nat_cmp test (pairs f ns) ≡ pairs g ns →
        sorted.where_key nat_cmp test (cond b [] ((a, f a) ∷ []) ++ pairs f ns) ≡ cond (eqb (g a) 0) [] ((a, g a) ∷ []) ++ pairs g ns
    by true e true t r = rw (h a, t, e) r
    by true e false t r = rw (h a, t) r
    by false e true t r = rw (h a, t, e) (ap (λ l. (a, f a) ∷ l) r)
    by false e false t r = rw (h a, t) r

-- the first pair from a number on
next_in : (f : ℕ → ℕ) (p q a n : ℕ) → p ≤ q → a ≤ q → q < a + n → f q ≢ 0 → ((v : ℕ) → p ≤ v → v < q → f v ≡ 0) → Some (q, f q) ≡ find (λ e. leb p e.0) (pairs f (range_with_len a n))
next_in f p q a zero l m k d h = absurd (omega arith)
next_in f p q a (suc n) l m k d h = by (eqb (f a) 0) refl (cases_eq q a) (λ (z : q ≢ a). next_in f p q (a + 1) n l (omega arith) (omega arith) d h)
  where
    passes : (x y : ℕ) → x ≤ y → leb x y ≡ true
    passes x y l = grind (arith, nat_tests)

    fails : (x y : ℕ) → y < x → leb x y ≡ false
    fails x y l = grind (arith, nat_tests)

    skipped : eqb (f a) 0 ≡ false → q ≢ a → (a < p) ⊎ (p ≤ a) → leb p a ≡ false
    skipped e z (inl x) = fails p a x
    skipped e z (inr x) = cc (e, eq-eqb (f a) 0 (h a x (omega arith)))

    by : (b : Bool) → eqb (f a) 0 ≡ b → (q ≡ a) ⊎ (q ≢ a) → (q ≢ a → Some (q, f q) ≡ find (λ e. leb p e.0) (pairs f (range_with_len (a + 1) n))) → Some (q, f q) ≡ find (λ e. leb p e.0) (cond b [] ((a, f a) ∷ []) ++ pairs f (range_with_len (a + 1) n))
    by true e (inl z) rest = absurd (d (rw z (is_zero (f a) e)))
      where
        is_zero : (x : ℕ) → eqb x 0 ≡ true → x ≡ 0
        is_zero x e = grind (arith, nat_tests)
    by false e (inl z) rest = rw (passes p a (omega arith)) (ap (λ k. Some (k, f k)) z)
    by true e (inr z) rest = rest z
    by false e (inr z) rest = rw (skipped e z (cases_lt a p)) (rest z)

none_in : (f : ℕ → ℕ) (p end a n : ℕ) → ((v : ℕ) → p ≤ v → v < end → f v ≡ 0) → None ≡ before end (find (λ e. leb p e.0) (pairs f (range_with_len a n)))
none_in f p end a zero h = refl
none_in f p end a (suc n) h = by (eqb (f a) 0) refl (leb p a) refl (none_in f p end (a + 1) n h)
  where
    passed : (x y : ℕ) → leb x y ≡ true → x ≤ y
    passed x y e = grind (arith, nat_tests)

    fails : (x y : ℕ) → y ≤ x → ltb x y ≡ false
    fails x y l = grind (arith, nat_tests)

    past : eqb (f a) 0 ≡ false → p ≤ a → (a < end) ⊎ (end ≤ a) → ltb a end ≡ false
    past e l (inl x) = cc (e, eq-eqb (f a) 0 (h a l x))
    past e l (inr x) = fails a end x

    by : (b : Bool) → eqb (f a) 0 ≡ b → (c : Bool) → leb p a ≡ c → None ≡ before end (find (λ e. leb p e.0) (pairs f (range_with_len (a + 1) n))) → None ≡ before end (find (λ e. leb p e.0) (cond b [] ((a, f a) ∷ []) ++ pairs f (range_with_len (a + 1) n)))
    by true e c t r = r
    by false e true t r = rw (t, past e (passed p a t) (cases_lt a end)) refl
    by false e false t r = rw t r

any_below : (test : ℕ → Bool) (b c k : ℕ) → b < c → list_any (λ x. eqb x b) (filter test (range_with_len c k)) ≡ false
any_below test b c zero l = refl
any_below test b c (suc k) l = step (test c) (any_below test b (c + 1) k (omega arith))
  where
    step : (t : Bool) → list_any (λ x. eqb x b) (filter test (range_with_len (c + 1) k)) ≡ false → list_any (λ x. eqb x b) (cond t (c ∷ filter test (range_with_len (c + 1) k)) (filter test (range_with_len (c + 1) k))) ≡ false
    step true r = rw (other_test c b (λ e. absurd (omega arith))) r
    step false r = r

-- a number is in the filter of a range
any_in : (test : ℕ → Bool) (b a n : ℕ) → a ≤ b → b < a + n → list_any (λ x. eqb x b) (filter test (range_with_len a n)) ≡ test b
any_in test b a zero l m = absurd (omega arith)
any_in test b a (suc n) l m = by (test a) refl (cases_eq b a) (λ (z : b ≢ a). any_in test b (a + 1) n (omega arith) (omega arith))
  where
    by : (t : Bool) → test a ≡ t → (b ≡ a) ⊎ (b ≢ a) → (b ≢ a → list_any (λ x. eqb x b) (filter test (range_with_len (a + 1) n)) ≡ test b) → list_any (λ x. eqb x b) (cond t (a ∷ filter test (range_with_len (a + 1) n)) (filter test (range_with_len (a + 1) n))) ≡ test b
    by true e (inl p) rest = rw (eq-eqb a b (sym p)) (sym (ap test p ∙ e))
    by false e (inl p) rest = any_below test b (a + 1) n (omega arith) ∙ sym (ap test p ∙ e)
    by true e (inr p) rest = rw (other_test a b (λ z. p (sym z))) (rest p)
    by false e (inr p) rest = rest p

any_past : (test : ℕ → Bool) (b a n : ℕ) → a + n ≤ b → list_any (λ x. eqb x b) (filter test (range_with_len a n)) ≡ false
any_past test b a zero l = refl
any_past test b a (suc n) l = by (test a) (any_past test b (a + 1) n (omega arith))
  where
    by : (t : Bool) → list_any (λ x. eqb x b) (filter test (range_with_len (a + 1) n)) ≡ false → list_any (λ x. eqb x b) (cond t (a ∷ filter test (range_with_len (a + 1) n)) (filter test (range_with_len (a + 1) n))) ≡ false
    by true r = rw (other_test a b (λ e. absurd (omega arith))) r
    by false r = r

filter_same : (s t : ℕ → Bool) (ns : List ℕ) → ((b : ℕ) → s b ≡ t b) → filter s ns ≡ filter t ns
filter_same s t [] h = refl
filter_same s t (a ∷ ns) h = rw (h a, filter_same s t ns h) refl

-- the laws of the map of a function on pages
page_below : (p : ℕ) → p < 2 ^ 36 → p < page_count
unfolding page_count
page_below p l = l

pub word_is : (f t : ℕ → ℕ) (p : ℕ) → p < 2 ^ 36 → f p ≡ word_at (map_of f t) p
word_is f t p l = sym (ap (λ o. unwrap_or o 0) (find_in f p 0 page_count (omega arith) (omega (arith, page_below p l))) ∙ unfound (f p))

pub words_same : (f g : ℕ → ℕ) → ((q : ℕ) → g q ≡ f q) → pairs g pages ≡ pairs f pages
words_same f g h = pairs_same f g 0 page_count (λ q l. h q)

pub word_set : (f g : ℕ → ℕ) (p w : ℕ) → p < 2 ^ 36 → w ≢ 0 → ((q : ℕ) → g q ≡ cond (eqb q p) w (f q)) → pairs g pages ≡ sorted.put nat_cmp p w (pairs f pages)
word_set f g p w l d h = sym (put_in f g p w 0 page_count (omega arith) (omega (arith, page_below p l)) d h)

pub word_cleared : (f g : ℕ → ℕ) (p : ℕ) → ((q : ℕ) → g q ≡ cond (eqb q p) 0 (f q)) → pairs g pages ≡ sorted.where_key nat_cmp (λ v. not (eqb v p)) (pairs f pages)
word_cleared f g p h = sym (kept_in f g (λ v. not (eqb v p)) pages (λ q. h q ∙ turned (eqb q p) (f q)))
  where
    turned : (b : Bool) (x : ℕ) → cond b 0 x ≡ cond (not b) x 0
    turned true x = refl
    turned false x = refl

pub least_word : (f t : ℕ → ℕ) (p end : ℕ) (r : Option (ℕ × ℕ)) → IsLeast f p end r → ((q : ℕ) → f q ≢ 0 → q < 2 ^ 36) → r ≡ next_word (map_of f t) p end
least_word f t p end None h l = none_in f p end 0 page_count h
least_word f t p end (Some e) h l =
    ap (λ w. Some (e.0, w)) (sym h.2) ∙ (sym (ap (λ b. cond b (Some (e.0, f e.0)) None) (within e.0 end h.1))
    ∙ ap (before end) (next_in f p e.0 0 page_count h.0 (omega arith) (omega (arith, page_below e.0 (l e.0 (λ z. h.3 (sym h.2 ∙ z))))) (λ z. h.3 (sym h.2 ∙ z)) h.4))
  where
    within : (x y : ℕ) → x < y → ltb x y ≡ true
    within x y l = grind (arith, nat_tests)

-- the first whose word is marked
marked_first : (f : ℕ → ℕ) (p : ℕ) (ns : List ℕ) → find (λ e. leb p e.0) (pairs (λ v. marked (f v)) ns) ≡ find (λ e. leb p e.0 && is_marked e.1) (pairs f ns)
marked_first f p [] = refl
marked_first f p (a ∷ ns) = by (is_marked (f a)) refl (eqb (f a) 0) refl (marked_first f p ns)
  where
    is_zero : (x : ℕ) → eqb x 0 ≡ true → x ≡ 0
    is_zero x e = grind (arith, nat_tests)

    not_and : (b c : Bool) → c ≡ false → (b && c) ≡ false
    not_and true c e = e
    not_and false c e = refl

    and_true : (b c : Bool) → c ≡ true → (b && c) ≡ b
    and_true true c e = e
    and_true false c e = refl

    by : (m : Bool) → is_marked (f a) ≡ m → (b : Bool) → eqb (f a) 0 ≡ b → find (λ e. leb p e.0) (pairs (λ v. marked (f v)) ns) ≡ find (λ e. leb p e.0 && is_marked e.1) (pairs f ns) →
        find (λ e. leb p e.0) (cond (eqb (cond m (f a) 0) 0) [] ((a, cond m (f a) 0) ∷ []) ++ pairs (λ v. marked (f v)) ns) ≡ find (λ e. leb p e.0 && is_marked e.1) (cond b [] ((a, f a) ∷ []) ++ pairs f ns)
    by false e true z r = r
    by false e false z r = r ∙ sym (ap (λ t. cond t (Some (a, f a)) (find (λ e. leb p e.0 && is_marked e.1) (pairs f ns))) (not_and (leb p a) (is_marked (f a)) e))
    by true e true z r = cc (sym e ∙ ap is_marked (is_zero (f a) z))
    by true e false z r = rw z (ap (cond (leb p a) (Some (a, f a))) r ∙ sym (ap (λ t. cond t (Some (a, f a)) (find (λ e. leb p e.0 && is_marked e.1) (pairs f ns))) (and_true (leb p a) (is_marked (f a)) e)))

pub least_marked : (f t : ℕ → ℕ) (p end : ℕ) (r : Option (ℕ × ℕ)) → IsLeast (λ v. marked (f v)) p end r → ((q : ℕ) → marked (f q) ≢ 0 → q < 2 ^ 36) → r ≡ next_marked (map_of f t) p end
least_marked f t p end r h l = least_word (λ v. marked (f v)) t p end r h l ∙ ap (before end) (marked_first f p pages)

pub some_test : (x : ℕ) → not (eqb x 0) ≡ true → x ≢ 0
some_test x e z = absurd (no (sym e ∙ rw (eq-eqb x 0 z) refl))
  where
    no : true ≡ false → ⊥
    no e = cc

pub reserved_is : (f t : ℕ → ℕ) (p : ℕ) → is_reserved (map_of f t) p ≡ true → t p ≢ 0
reserved_is f t p e = by (cases_lt p page_count)
  where
    by : (p < page_count) ⊎ (page_count ≤ p) → t p ≢ 0
    by (inl l) = some_test (t p) (sym (any_in (λ b. not (eqb (t b) 0)) p 0 page_count (omega arith) (omega arith)) ∙ e)
    by (inr l) = cc (any_past (λ b. not (eqb (t b) 0)) p 0 page_count (omega arith), e)

is_reserved_where : (f t : ℕ → ℕ) (p : ℕ) → p < page_count → t p ≢ 0 → is_reserved (map_of f t) p ≡ true
is_reserved_where f t p l d = any_in (λ b. not (eqb (t b) 0)) p 0 page_count (omega arith) (omega arith) ∙ rw (other_test (t p) 0 d) refl

pub reserved_made : (f t : ℕ → ℕ) (p : ℕ) → p < 2 ^ 36 → t p ≢ 0 → is_reserved (map_of f t) p ≡ true
reserved_made f t p l d = is_reserved_where f t p (page_below p l) d

pub reserved_kept : (f g t u : ℕ → ℕ) (p : ℕ) → ((b : ℕ) → t b ≢ 0 → u b ≢ 0) → is_reserved (map_of f t) p ≡ true → is_reserved (map_of g u) p ≡ true
reserved_kept f g t u p h e = by (cases_lt p page_count)
  where
    by : (p < page_count) ⊎ (page_count ≤ p) → is_reserved (map_of g u) p ≡ true
    by (inl l) = is_reserved_where g u p l (h p (reserved_is f t p e))
    by (inr l) = cc (any_past (λ b. not (eqb (t b) 0)) p 0 page_count (omega arith), e)

pub room_same : (t u : ℕ → ℕ) → ((b : ℕ) → u b ≡ t b) → filter (λ b. not (eqb (u b) 0)) pages ≡ filter (λ b. not (eqb (t b) 0)) pages
room_same t u h = filter_same (λ b. not (eqb (u b) 0)) (λ b. not (eqb (t b) 0)) pages (λ b. ap (λ k. not (eqb k 0)) (h b))

pub map_same : (f g t u : ℕ → ℕ) → ((q : ℕ) → g q ≡ f q) → ((b : ℕ) → u b ≡ t b) → map_of g u ≡ map_of f t
map_same f g t u p q = rw (words_same f g p, room_same t u q) refl

pub map_set : (f g t u : ℕ → ℕ) (p w : ℕ) → p < 2 ^ 36 → w ≢ 0 → ((q : ℕ) → g q ≡ cond (eqb q p) w (f q)) → ((b : ℕ) → u b ≡ t b) → map_of g u ≡ with_word (map_of f t) p w
map_set f g t u p w l d h q = rw (word_set f g p w l d h, room_same t u q) refl

pub map_cleared : (f g t u : ℕ → ℕ) (p : ℕ) → ((q : ℕ) → g q ≡ cond (eqb q p) 0 (f q)) → ((b : ℕ) → u b ≡ t b) → map_of g u ≡ without_word (map_of f t) p
map_cleared f g t u p h q = rw (word_cleared f g p h, room_same t u q) refl

none_of : (f : ℕ → ℕ) (ns : List ℕ) → ((q : ℕ) → f q ≡ 0) → pairs f ns ≡ []
none_of f [] h = refl
none_of f (a ∷ ns) h = rw (h a, none_of f ns h) refl

none_passes : (test : ℕ → Bool) (ns : List ℕ) → ((b : ℕ) → test b ≡ false) → filter test ns ≡ []
none_passes test [] h = refl
none_passes test (a ∷ ns) h = rw (h a, none_passes test ns h) refl

pub no_words : (f t : ℕ → ℕ) → ((q : ℕ) → f q ≡ 0) → ((b : ℕ) → t b ≡ 0) → map_of f t ≡ record { words = []; room = [] }
no_words f t h g = rw (none_of f pages h, none_passes (λ b. not (eqb (t b) 0)) pages (λ b. rw (eq-eqb (t b) 0 (g b)) refl)) refl

-- a map without words gives its room back
pub map_empty : (f t g u : ℕ → ℕ) (map : Map) → map_of f t ≡ map → ((q : ℕ) → f q ≡ 0) → ((q : ℕ) → g q ≡ 0) → ((b : ℕ) → u b ≡ 0) → map_of g u ≡ given_back map
map_empty f t g u map e h k l = no_words g u k l ∙ (sym (rw (none_of f pages h) refl) ∙ ap given_back e)

pub map_some : (m : Map) (p end : ℕ) (e : ℕ × ℕ) → Some e ≡ next_word m p end → m ≡ given_back m
map_some m p end e s = ap (λ (bs : List ℕ). record m { room = bs }) (stays m.words m.room s)
  where
    stays : (ws : List (ℕ × ℕ)) (bs : List ℕ) → Some e ≡ before end (find (λ e. leb p e.0) ws) → bs ≡ room_left ws bs
    stays [] bs s = cc
    stays (w ∷ ws) bs s = refl

-- a page without a word loses none
pub map_clear : (f t : ℕ → ℕ) (p : ℕ) → f p ≡ 0 → map_of f t ≡ without_word (map_of f t) p
map_clear f t p e = map_cleared f f t t p (λ q. by q (cases_eq q p)) (λ b. refl)
  where
    by : (q : ℕ) → (q ≡ p) ⊎ (q ≢ p) → f q ≡ cond (eqb q p) 0 (f q)
    by q (inl r) = rw (r, e) (grind (arith, nat_tests))
    by q (inr r) = rw (other_test q p r) refl
