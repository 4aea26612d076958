-- A set of numbers by its bits, with the summary above them.
use Rattle.std.proofs.Common.{◌≡◌, ◌≢◌, ℕ, ◌+◌, ◌-◌, ◌*◌, ◌/◌, ◌%◌, ◌^◌, ◌<◌, ◌≤◌, Bool, true, false, not, eqb, ltb, cond, List, length, get_or, set, drop, replicate, refl, sym, ap, ◌∙◌, subst, arith, ◌⊎◌, inl, inr, Option, Some, None}
use Rattle.std.specs.Int.{bit_at, w64, trailing_zeros}
use Rattle.std.specs.List.{position_or_len}
use Rattle.std.proofs.lemmas.Bool.{cases_eq, cases_lt}
use Rattle.std.proofs.lemmas.Bool.Decides.{nat_tests}
use Rattle.std.proofs.lemmas.List.{get_or-set_same, get_or-set_other, get_or-drop, get_or-replicate, length-set, length-drop, length-replicate, same_lists, get_or_default, get_or_past, get_or_read}
use Rattle.std.proofs.lemmas.List.FromFn.{length-map-range_with_len, get_or-map-range_with_len}
use Rattle.std.proofs.lemmas.List.Sums.{position_or_len_is}
use Rattle.std.proofs.lemmas.Nat.Bits.{bit_at-zero, bit_at-trailing_zeros}
use Rattle.frame_pool.specs.Bits.{bit, members, next_true, IsNext, IsSummed}
use Rattle.frame_pool.proofs.Words.{Clear, clear_word, clear_start, next_found, next_none}

pub length-members : (words : List ℕ) (n : ℕ) → length (members words n) ≡ n
length-members words n = length-map-range_with_len (bit words) 0 n

pub get_member : (words : List ℕ) (n k : ℕ) (d : Bool) → k < n → get_or (members words n) k d ≡ bit words k
get_member words n k d l = get_or-map-range_with_len (bit words) 0 n k k d l (omega arith)

-- one bit is changed
pub members_set : (words now : List ℕ) (n at : ℕ) (b : Bool) → at < n → ((k : ℕ) → bit now k ≡ cond (eqb k at) b (bit words k)) → members now n ≡ set (members words n) at b
members_set words now n at b l h = same_lists _ _ (length-members now n ∙ sym (length-set (members words n) at b ∙ length-members words n)) by
  where
    by : (k : ℕ) (d : Bool) → k < length (members now n) → get_or (members now n) k d ≡ get_or (set (members words n) at b) k d
    by k d m = let m : k < n = omega (arith, length-members now n) in get_member now n k d m ∙ h k ∙ at_k m (cases_eq k at)
      where
        at_k : k < n → (k ≡ at) ⊎ (k ≢ at) → cond (eqb k at) b (bit words k) ≡ get_or (set (members words n) at b) k d
        at_k m (inl e) = rw (e, get_or-set_same (members words n) at b d (omega (arith, length-members words n))) (grind (arith, nat_tests))
        at_k m (inr e) = rw (get_or-set_other (members words n) at k b d e, get_member words n k d m) (grind (arith, nat_tests))

-- one bit is changed of what the list tells
pub list_set : (words now : List ℕ) (size at : ℕ) (b : Bool) (xs : List Bool) → members words size ≡ xs → at < size → ((k : ℕ) → bit now k ≡ cond (eqb k at) b (bit words k)) → members now size ≡ set xs at b
list_set words now size at b xs e l h = members_set words now size at b l h ∙ ap (λ (ys : List Bool). set ys at b) e

pub members_none : (words : List ℕ) (n : ℕ) → ((k : ℕ) → bit words k ≡ false) → members words n ≡ replicate n false
members_none words n h = same_lists _ _ (length-members words n ∙ sym (length-replicate n false)) by
  where
    by : (k : ℕ) (d : Bool) → k < length (members words n) → get_or (members words n) k d ≡ get_or (replicate n false) k d
    by k d m = let m : k < n = omega (arith, length-members words n) in get_member words n k d m ∙ h k ∙ sym (get_or-replicate n k false d m)

-- the lowest member from a number on
pub next_true_some : (xs : List Bool) (from q : ℕ) → from ≤ q → q < length xs → get_or xs q false ≡ true → ((k : ℕ) → from ≤ k → k < q → get_or xs k false ≡ false) → next_true xs from ≡ Some q
next_true_some xs from q a l t h = by
    (position_or_len_is (λ x. x) (drop from xs) (q - from) false (omega (arith, length-drop from xs))
    (λ k m. get_or-drop from xs k false ∙ h (from + k) (omega arith) (omega arith))
    (λ m. get_or-drop from xs (q - from) false ∙ ap (λ i. get_or xs i false) (back q from a) ∙ t))
  where
    back : (q from : ℕ) → from ≤ q → from + (q - from) ≡ q
    back q from a = omega arith

    by : position_or_len (λ x. x) (drop from xs) ≡ q - from → next_true xs from ≡ Some q
    by e = rw (e, length-drop from xs, less (q - from) (length xs - from) (omega arith)) (ap Some (back q from a))
      where
        less : (x y : ℕ) → x < y → ltb x y ≡ true
        less x y l = grind (arith, nat_tests)

pub next_true_none : (xs : List Bool) (from : ℕ) → ((k : ℕ) → from ≤ k → get_or xs k false ≡ false) → next_true xs from ≡ None
next_true_none xs from h = by
    (position_or_len_is (λ x. x) (drop from xs) (length (drop from xs)) false (omega arith)
    (λ k m. get_or-drop from xs k false ∙ h (from + k) (omega arith))
    (λ m. absurd (omega arith)))
  where
    by : position_or_len (λ x. x) (drop from xs) ≡ length (drop from xs) → next_true xs from ≡ None
    by e = rw (e, not_less (length (drop from xs))) refl
      where
        not_less : (x : ℕ) → ltb x x ≡ false
        not_less x = grind (arith, nat_tests)

-- what the bits tell is what the list tells
pub next_member : (size : ℕ) (words summary : List ℕ) (from : ℕ) (r : Option ℕ) → IsSummed size words summary → IsNext (bit words) from r → r ≡ next_true (members words size) from
next_member size words summary from None s h = sym (next_true_none (members words size) from by)
  where
    by : (k : ℕ) → from ≤ k → get_or (members words size) k false ≡ false
    by k a = at (cases_lt k size)
      where
        at : (k < size) ⊎ (size ≤ k) → get_or (members words size) k false ≡ false
        at (inl l) = get_member words size k false l ∙ h k a
        at (inr l) = get_or_past (members words size) k false (omega (arith, length-members words size))
next_member size words summary from (Some q) s h =
    let l : q < size = inside (cases_lt q size) in
    sym (next_true_some (members words size) from q h.0 (omega (arith, length-members words size)) (get_member words size q false l ∙ h.1)
    (λ k a b. get_member words size k false (omega arith) ∙ h.2 k a b))
  where
    inside : (q < size) ⊎ (size ≤ q) → q < size
    inside (inl l) = l
    inside (inr l) = cc (s.tail q l, h.1)

-- a word that the summary passes over has no bit
pub no_word : (size : ℕ) (words summary : List ℕ) (w : ℕ) → IsSummed size words summary → bit summary w ≡ false → get_or words w 0 ≡ 0
no_word size words summary w s e = by (get_or words w 0) (sym (s.above w) ∙ e)
  where
    by : (x : ℕ) → not (eqb x 0) ≡ false → x ≡ 0
    by x e = grind (arith, nat_tests)

pub some_word : (size : ℕ) (words summary : List ℕ) (w : ℕ) → IsSummed size words summary → bit summary w ≡ true → 0 < get_or words w 0
some_word size words summary w s e = by (get_or words w 0) (sym (s.above w) ∙ e)
  where
    by : (x : ℕ) → not (eqb x 0) ≡ true → 0 < x
    by x e = grind (arith, nat_tests)

-- words without a bit in a row
pub clear_words : (words : List ℕ) (from v u : ℕ) → ((w : ℕ) → v ≤ w → w < u → get_or words w 0 ≡ 0) → Clear words from (v * 64) → Clear words from (u * 64)
clear_words words from v u z h k a b = by (cases_lt k (v * 64))
  where
    by : (k < v * 64) ⊎ (v * 64 ≤ k) → bit words k ≡ false
    by (inl p) = h k a p
    by (inr p) = rw (z (k / 64) (omega arith) (omega arith), bit_at-zero (k % 64)) refl

-- the size of the words, of a number below the size
pub word_inside : (size : ℕ) (words summary : List ℕ) (at : ℕ) → IsSummed size words summary → at < size → (at / 64 < length words) × (at / 64 / 64 < length summary)
word_inside size words summary at s l = (omega (arith, s.covers), omega (arith, s.covers, s.summed))

tail_kept : (size at : ℕ) (words now : List ℕ) (b : Bool) → at < size → ((k : ℕ) → bit now k ≡ cond (eqb k at) b (bit words k)) → ((k : ℕ) → size ≤ k → bit words k ≡ false) → (k : ℕ) → size ≤ k → bit now k ≡ false
tail_kept size at words now b l h t k m = h k ∙ rw (t k m) (by (cases_eq k at))
  where
    by : (k ≡ at) ⊎ (k ≢ at) → cond (eqb k at) b false ≡ false
    by (inl e) = absurd (omega arith)
    by (inr d) = grind (arith, nat_tests)

bit_of_zero : (words : List ℕ) (at : ℕ) → bit words at ≡ true → get_or words (at / 64) 0 ≡ 0 → ⊥
bit_of_zero words at t e = no (sym t ∙ rw (e, bit_at-zero (at % 64)) refl)
  where
    no : true ≡ false → ⊥
    no e = cc

not_zero : (words : List ℕ) (at : ℕ) → bit words at ≡ true → not (eqb (get_or words (at / 64) 0) 0) ≡ true
not_zero words at t = by (cases_eq (get_or words (at / 64) 0) 0)
  where
    by : (get_or words (at / 64) 0 ≡ 0) ⊎ (get_or words (at / 64) 0 ≢ 0) → not (eqb (get_or words (at / 64) 0) 0) ≡ true
    by (inl e) = absurd (bit_of_zero words at t e)
    by (inr d) = grind (arith, nat_tests)

set_here : (words now : List ℕ) (at : ℕ) (b : Bool) → ((k : ℕ) → bit now k ≡ cond (eqb k at) b (bit words k)) → bit now at ≡ b
set_here words now at b h = h at ∙ grind (arith, nat_tests)

-- the bits of the word and of the summary are set
pub summed_with : (size at : ℕ) (words now summary above : List ℕ) → at < size → IsSummed size words summary →
    ((k : ℕ) → bit now k ≡ cond (eqb k at) true (bit words k)) → ((w : ℕ) → w ≢ at / 64 → get_or now w 0 ≡ get_or words w 0) → length now ≡ length words →
    ((k : ℕ) → bit above k ≡ cond (eqb k (at / 64)) true (bit summary k)) → length above ≡ length summary → IsSummed size now above
summed_with size at words now summary above l s h o e g f = record {
  fits = s.fits;
  covers = omega (arith, s.covers);
  tail = tail_kept size at words now true l h s.tail;
  above = tells;
  summed = omega (arith, s.summed);
  few = omega (arith, s.few);
  few_above = omega (arith, s.few_above);
}
  where
    tells : (w : ℕ) → bit above w ≡ not (eqb (get_or now w 0) 0)
    tells w = by (cases_eq w (at / 64))
      where
        by : (w ≡ at / 64) ⊎ (w ≢ at / 64) → bit above w ≡ not (eqb (get_or now w 0) 0)
        by (inl p) = rw p (set_here summary above (at / 64) true g ∙ sym (not_zero now at (set_here words now at true h)))
        by (inr p) = g w ∙ rw (o w p) (grind (arith, nat_tests, s.above w))

-- the bit of a member is cleared, and its word has others
pub summed_without : (size at : ℕ) (words now summary : List ℕ) → at < size → IsSummed size words summary → bit words at ≡ true →
    ((k : ℕ) → bit now k ≡ cond (eqb k at) false (bit words k)) → ((w : ℕ) → w ≢ at / 64 → get_or now w 0 ≡ get_or words w 0) → length now ≡ length words →
    get_or now (at / 64) 0 ≢ 0 → IsSummed size now summary
summed_without size at words now summary l s t h o e d = record {
  fits = s.fits;
  covers = omega (arith, s.covers);
  tail = tail_kept size at words now false l h s.tail;
  above = tells;
  summed = omega (arith, s.summed);
  few = omega (arith, s.few);
  few_above = s.few_above;
}
  where
    tells : (w : ℕ) → bit summary w ≡ not (eqb (get_or now w 0) 0)
    tells w = by (cases_eq w (at / 64))
      where
        by : (w ≡ at / 64) ⊎ (w ≢ at / 64) → bit summary w ≡ not (eqb (get_or now w 0) 0)
        by (inl p) = rw p (s.above (at / 64) ∙ not_zero words at t ∙ grind (arith, nat_tests))
        by (inr p) = rw (o w p) (s.above w)

-- the bit of a member is cleared, and the summary's, since its word has no other
pub summed_without_word : (size at : ℕ) (words now summary above : List ℕ) → at < size → IsSummed size words summary →
    ((k : ℕ) → bit now k ≡ cond (eqb k at) false (bit words k)) → ((w : ℕ) → w ≢ at / 64 → get_or now w 0 ≡ get_or words w 0) → length now ≡ length words →
    get_or now (at / 64) 0 ≡ 0 → ((k : ℕ) → bit above k ≡ cond (eqb k (at / 64)) false (bit summary k)) → length above ≡ length summary → IsSummed size now above
summed_without_word size at words now summary above l s h o e z g f = record {
  fits = s.fits;
  covers = omega (arith, s.covers);
  tail = tail_kept size at words now false l h s.tail;
  above = tells;
  summed = omega (arith, s.summed);
  few = omega (arith, s.few);
  few_above = omega (arith, s.few_above);
}
  where
    tells : (w : ℕ) → bit above w ≡ not (eqb (get_or now w 0) 0)
    tells w = by (cases_eq w (at / 64))
      where
        by : (w ≡ at / 64) ⊎ (w ≢ at / 64) → bit above w ≡ not (eqb (get_or now w 0) 0)
        by (inl p) = rw p (set_here summary above (at / 64) false g ∙ rw z refl)
        by (inr p) = g w ∙ rw (o w p) (grind (arith, nat_tests, s.above w))

-- a member of the list is below the size, and its bit is set
pub is_member : (size : ℕ) (words : List ℕ) (xs : List Bool) (at : ℕ) → members words size ≡ xs → get_or xs at false ≡ true → (at < size) × (bit words at ≡ true)
is_member size words xs at e t = by (cases_lt at size)
  where
    u : get_or (members words size) at false ≡ true
    u = ap (λ (ys : List Bool). get_or ys at false) e ∙ t

    by : (at < size) ⊎ (size ≤ at) → (at < size) × (bit words at ≡ true)
    by (inl l) = (l, sym (get_member words size at false l) ∙ u)
    by (inr l) = cc (get_or_past (members words size) at false (omega (arith, length-members words size)), u)

pub size_is : (size : ℕ) (words : List ℕ) (xs : List Bool) → members words size ≡ xs → length xs ≡ size
size_is size words xs e = sym (ap length e) ∙ length-members words size

-- a set without a member
zero_bit : (n k : ℕ) → bit (replicate n 0) k ≡ false
zero_bit n k = by (cases_lt (k / 64) n)
  where
    by : (k / 64 < n) ⊎ (n ≤ k / 64) → bit (replicate n 0) k ≡ false
    by (inl l) = rw (get_or-replicate {A = ℕ} n (k / 64) 0 0 l, bit_at-zero (k % 64)) refl
    by (inr l) = rw (get_or_past {X = ℕ} (replicate n 0) (k / 64) 0 (omega (arith, length-replicate {A = ℕ} n 0)), bit_at-zero (k % 64)) refl

pub summed_none : (size n m : ℕ) → size < 2 ^ 32 → size ≤ 64 * n → n ≤ size → n ≤ 64 * m → m ≤ n → IsSummed size (replicate n 0) (replicate m 0)
summed_none size n m b c d f g = record {
  fits = b;
  covers = omega (arith, length-replicate {A = ℕ} n 0);
  tail = λ k _. zero_bit n k;
  above = tells;
  summed = omega (arith, length-replicate {A = ℕ} n 0, length-replicate {A = ℕ} m 0);
  few = omega (arith, length-replicate {A = ℕ} n 0);
  few_above = omega (arith, length-replicate {A = ℕ} m 0);
}
  where
    tells : (w : ℕ) → bit (replicate m 0) w ≡ not (eqb (get_or (replicate n 0) w 0) 0)
    tells w = zero_bit m w ∙ by (cases_lt w n)
      where
        by : (w < n) ⊎ (n ≤ w) → false ≡ not (eqb (get_or (replicate n 0) w 0) 0)
        by (inl l) = rw (get_or-replicate {A = ℕ} n w 0 0 l) refl
        by (inr l) = rw (get_or_past {X = ℕ} (replicate n 0) w 0 (omega (arith, length-replicate {A = ℕ} n 0))) refl

pub none_of : (size n : ℕ) (words : List ℕ) → words ≡ replicate n 0 → members words size ≡ replicate size false
none_of size n words e = rw e (members_none (replicate n 0) size (zero_bit n))

-- all numbers below the size are members
pub all_members : (size : ℕ) (xs : List Bool) → length xs ≡ size → ((k : ℕ) → k < size → get_or xs k false ≡ true) → xs ≡ replicate size true
all_members size xs e h = same_lists xs (replicate size true) (e ∙ sym (length-replicate size true))
    (λ k d l. get_or_default xs k d false l ∙ h k (omega arith) ∙ sym (get_or-replicate size k true d (omega arith)))

-- the word of a number, as the code reads it
pub read_word : (size at x : ℕ) (words now summary : List ℕ) → length now ≡ length words → at < size → IsSummed size words summary → x ≡ get_or now (at / 64) x → x ≡ get_or now (at / 64) 0
read_word size at x words now summary e l s h = get_or_read now (at / 64) x (omega (arith, s.covers)) h 0

-- the first word has no bit from there on
first_clear : (words : List ℕ) (from x : ℕ) → from / 64 < length words → x ≡ get_or words (from / 64) x → ((k : ℕ) → from % 64 ≤ k → k < 64 → bit_at x k ≡ 0) → Clear words from (from / 64 * 64 + 64)
first_clear words from x l e z = clear_word words from (from / 64) (λ i m a. sym (ap (λ n. bit_at n i) (get_or_read words (from / 64) x l e 0)) ∙ z i (omega arith) m) (clear_start words from)

as_product : (words : List ℕ) (from v : ℕ) → Clear words from (v * 64 + 64) → Clear words from ((v + 1) * 64)
as_product words from v h k a b = h k a (omega arith)

-- nothing is left from there on
pub nothing_past : (size : ℕ) (words summary : List ℕ) (from : ℕ) → IsSummed size words summary → length words ≤ from / 64 → None ≡ next_true (members words size) from
nothing_past size words summary from s l = next_member size words summary from None s (next_none words from (from / 64) l (clear_start words from))

-- the next is in the first word
pub next_in_first : (size : ℕ) (words summary : List ℕ) (from x b : ℕ) → IsSummed size words summary → from / 64 < length words → x ≡ get_or words (from / 64) x →
    (from % 64 ≤ b) × (b < 64) × (bit_at x b ≡ 1) × ((k : ℕ) → from % 64 ≤ k → k < b → bit_at x k ≡ 0) → Some (from / 64 * 64 + b) ≡ next_true (members words size) from
next_in_first size words summary from x b s l e h = next_member size words summary from (Some (from / 64 * 64 + b)) s
    (next_found words from (from / 64) b h.1 (omega (arith, h.0)) (sym (ap (λ n. bit_at n b) (get_or_read words (from / 64) x l e 0)) ∙ h.2) (clear_start words from)
    (λ i m a. sym (ap (λ n. bit_at n i) (get_or_read words (from / 64) x l e 0)) ∙ h.3 i (omega arith) m))

next_as : (ws summary : List ℕ) (from : ℕ) (r : Option ℕ) → ws ≡ summary → IsNext (bit ws) from r → IsNext (bit summary) from r
next_as ws summary from r e h = subst (λ (xs : List ℕ). IsNext (bit xs) from r) e h

-- no later word has any
pub next_in_none : (size : ℕ) (words summary ws : List ℕ) (from x : ℕ) → ws ≡ summary → IsSummed size words summary → from / 64 < length words → x ≡ get_or words (from / 64) x →
    ((k : ℕ) → from % 64 ≤ k → k < 64 → bit_at x k ≡ 0) → IsNext (bit ws) (from / 64 + 1) None → None ≡ next_true (members words size) from
next_in_none size words summary ws from x same s l e z m = let n = next_as ws summary (from / 64 + 1) None same m in next_member size words summary from None s
    (next_none words from (length words) (omega arith)
    (clear_words words from (from / 64 + 1) (length words) (λ w a b. no_word size words summary w s (n w a)) (as_product words from (from / 64) (first_clear words from x l e z))))

-- the next is in a later word
in_later : (size : ℕ) (words summary : List ℕ) (from x w y : ℕ) → IsSummed size words summary → from / 64 < length words → x ≡ get_or words (from / 64) x →
    ((k : ℕ) → from % 64 ≤ k → k < 64 → bit_at x k ≡ 0) → IsNext (bit summary) (from / 64 + 1) (Some w) → y ≡ get_or words w 0 → y < 2 ^ 64 → IsNext (bit words) from (Some (w * 64 + trailing_zeros w64 y))
in_later size words summary from x w y s l e z n q f = by (trailing_zeros w64 y) (bit_at-trailing_zeros w64 y (rw q (some_word size words summary w s n.1)) f)
  where
    by : (b : ℕ) → (b < 64) × (bit_at y b ≡ 1) × ((i : ℕ) → i < b → bit_at y i ≡ 0) → IsNext (bit words) from (Some (w * 64 + b))
    by b t = next_found words from w b t.0 (omega (arith, n.0)) (sym (ap (λ n. bit_at n b) q) ∙ t.1)
        (clear_words words from (from / 64 + 1) w (λ v a b. no_word size words summary v s (n.2 v a b)) (as_product words from (from / 64) (first_clear words from x l e z)))
        (λ i m a. sym (ap (λ n. bit_at n i) q) ∙ t.2 i m)

pub next_in_later : (size : ℕ) (words summary ws : List ℕ) (from x w y : ℕ) → ws ≡ summary → IsSummed size words summary → from / 64 < length words → x ≡ get_or words (from / 64) x →
    ((k : ℕ) → from % 64 ≤ k → k < 64 → bit_at x k ≡ 0) → IsNext (bit ws) (from / 64 + 1) (Some w) → y ≡ get_or words w 0 → y < 2 ^ 64 →
    Some (w * 64 + trailing_zeros w64 y) ≡ next_true (members words size) from
next_in_later size words summary ws from x w y same s l e z n q f =
    next_member size words summary from (Some (w * 64 + trailing_zeros w64 y)) s (in_later size words summary from x w y s l e z (next_as ws summary (from / 64 + 1) (Some w) same n) q f)

pub later_inside : (size : ℕ) (words summary ws : List ℕ) (from x w y : ℕ) → ws ≡ summary → IsSummed size words summary → from / 64 < length words → x ≡ get_or words (from / 64) x →
    ((k : ℕ) → from % 64 ≤ k → k < 64 → bit_at x k ≡ 0) → IsNext (bit ws) (from / 64 + 1) (Some w) → y ≡ get_or words w 0 → y < 2 ^ 64 →
    w * 64 + trailing_zeros w64 y < size
later_inside size words summary ws from x w y same s l e z n q f =
    by (w * 64 + trailing_zeros w64 y) (in_later size words summary from x w y s l e z (next_as ws summary (from / 64 + 1) (Some w) same n) q f)
  where
    by : (q : ℕ) → IsNext (bit words) from (Some q) → q < size
    by q h = at (cases_lt q size)
      where
        at : (q < size) ⊎ (size ≤ q) → q < size
        at (inl l) = l
        at (inr l) = cc (s.tail q l, h.1)

-- a word that the summary names is one of the words
pub word_there : (size : ℕ) (words summary ws : List ℕ) (w : ℕ) → ws ≡ summary → IsSummed size words summary → bit ws w ≡ true → w < length words
word_there size words summary ws w same s t = by (some_word size words summary w s (sym (ap (λ (xs : List ℕ). bit xs w) same) ∙ t)) (cases_lt w (length words))
  where
    by : 0 < get_or words w 0 → (w < length words) ⊎ (length words ≤ w) → w < length words
    by p (inl l) = l
    by p (inr l) = absurd (omega (arith, get_or_past words w 0 l))

pub summed_zeros : (size n m : ℕ) (words summary : List ℕ) → words ≡ replicate n 0 → summary ≡ replicate m 0 → size < 2 ^ 32 → size ≤ 64 * n → n ≤ size → n ≤ 64 * m → m ≤ n → IsSummed size words summary
summed_zeros size n m words summary p q b c d f g = rw (p, q) (summed_none size n m b c d f g)
