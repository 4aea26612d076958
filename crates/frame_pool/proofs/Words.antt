-- One bit of a word among many words.
use Rattle.std.proofs.Common.{◌≡◌, ◌≢◌, ℕ, ◌+◌, ◌-◌, ◌*◌, ◌/◌, ◌%◌, ◌^◌, ◌<◌, ◌≤◌, Bool, true, false, eqb, cond, List, length, get_or, set, refl, sym, ap, ◌∙◌, arith, ◌⊎◌, inl, inr, Some, None}
use Rattle.std.specs.Int.{bit_at, bit_not, w64, trailing_zeros}
use Rattle.std.specs.Int.RustNames.{bit_or}
use lib.Bits.{bit_and}
use mir.Val.{bits}
use Rattle.std.proofs.lemmas.Bool.{cases_eq, cases_lt}
use Rattle.std.proofs.lemmas.Bool.Decides.{nat_tests}
use Rattle.std.proofs.lemmas.List.{get_or-set_same, get_or-set_other, get_or_past, get_or_read}
use Rattle.std.proofs.lemmas.Nat.Bits.{bit_at-zero, bit_at_set_same, bit_at_set_other, bit_at_clear_same, bit_at_clear_other, bit_at_and, bit_at_mask_inside, bit_at_mask_below, bit_at-trailing_zeros, bit_at-lt, ones_shl, and_high_mask}
use Rattle.frame_pool.specs.Bits.{bit, IsNext}

same_place : (k at : ℕ) → k / 64 ≡ at / 64 → k % 64 ≡ at % 64 → k ≡ at
same_place k at e f = omega arith

-- a word is written, and one of its bits is what the write is for
pub bit_written : (words : List ℕ) (at k word : ℕ) (b : Bool) → at / 64 < length words → eqb (bit_at word (at % 64)) 1 ≡ b →
    ((i : ℕ) → i < 64 → i ≢ at % 64 → bit_at word i ≡ bit_at (get_or words (at / 64) 0) i) →
    bit (set words (at / 64) word) k ≡ cond (eqb k at) b (bit words k)
bit_written words at k word b l e h = by (cases_eq (k / 64) (at / 64)) (cases_eq (k % 64) (at % 64)) (cases_eq k at)
  where
    by : (k / 64 ≡ at / 64) ⊎ (k / 64 ≢ at / 64) → (k % 64 ≡ at % 64) ⊎ (k % 64 ≢ at % 64) → (k ≡ at) ⊎ (k ≢ at) → bit (set words (at / 64) word) k ≡ cond (eqb k at) b (bit words k)
    by p q (inl r) = rw (r, get_or-set_same words (at / 64) word 0) (grind (arith, nat_tests))
    by (inl p) (inl q) (inr r) = absurd (r (same_place k at p q))
    by (inl p) (inr q) (inr r) = rw (p, get_or-set_same words (at / 64) word 0) (grind (arith, nat_tests, h (k % 64)))
    by (inr p) q (inr r) = rw (get_or-set_other words (at / 64) (k / 64) word 0 p) (grind (arith, nat_tests))

pub bit_set : (words : List ℕ) (at k o : ℕ) → at / 64 < length words → o ≡ get_or words (at / 64) o →
    bit (set words (at / 64) (bit_or o (1 * 2 ^ (at % 64) % 2 ^ bits w64))) k ≡ cond (eqb k at) true (bit words k)
bit_set words at k o l e =
    let m : at % 64 < 64 = omega arith in
    bit_written words at k _ true l (ap (λ n. eqb n 1) (bit_at_set_same w64 o (at % 64) m))
    (λ i a d. bit_at_set_other w64 o (at % 64) m i d ∙ ap (λ n. bit_at n i) (get_or_read words (at / 64) o l e 0))

pub bit_cleared : (words : List ℕ) (at k o : ℕ) → at / 64 < length words → o ≡ get_or words (at / 64) o →
    bit (set words (at / 64) (bit_and o (bit_not w64 (1 * 2 ^ (at % 64) % 2 ^ bits w64)))) k ≡ cond (eqb k at) false (bit words k)
bit_cleared words at k o l e =
    let m : at % 64 < 64 = omega arith in
    bit_written words at k _ false l (ap (λ n. eqb n 1) (bit_at_clear_same w64 o (at % 64) m))
    (λ i a d. bit_at_clear_other w64 o (at % 64) m i a d ∙ ap (λ n. bit_at n i) (get_or_read words (at / 64) o l e 0))

-- the bits of a word from one on
abbrev pub high : ℕ → ℕ → ℕ
high word from = bit_and word (18446744073709551615 * 2 ^ from % 18446744073709551616)

high_is : (word from : ℕ) → from < 64 → high word from ≡ bit_and word (2 ^ 64 - 2 ^ from)
high_is word from l = ap (bit_and word) (ones_shl 64 from (omega arith))

high_bit : (word from i : ℕ) → from < 64 → from ≤ i → i < 64 → bit_at (high word from) i ≡ bit_at word i
high_bit word from i l a b = ap (λ n. bit_at n i) (high_is word from l) ∙ bit_at_and word (2 ^ 64 - 2 ^ from) i ∙
    omega (arith, bit_at_mask_inside from 64 i a b, bit_at-lt word i)

low_bit : (word from i : ℕ) → from < 64 → i < from → bit_at (high word from) i ≡ 0
low_bit word from i l a = ap (λ n. bit_at n i) (high_is word from l) ∙ bit_at_and word (2 ^ 64 - 2 ^ from) i ∙
    omega (arith, bit_at_mask_below from 64 i a)

pub none_high : (word from : ℕ) → from < 64 → high word from ≡ 0 → (k : ℕ) → from ≤ k → k < 64 → bit_at word k ≡ 0
none_high word from l e k a b = sym (high_bit word from k l a b) ∙ ap (λ n. bit_at n k) e ∙ bit_at-zero k

pub positive : {n : ℕ} → n ≢ 0 → 0 < n
positive d = omega arith

pub first_high : (word from : ℕ) → from < 64 → high word from ≢ 0 → word < 2 ^ 64 →
    (from ≤ trailing_zeros w64 (high word from)) × (trailing_zeros w64 (high word from) < 64) × (bit_at word (trailing_zeros w64 (high word from)) ≡ 1) ×
    ((k : ℕ) → from ≤ k → k < trailing_zeros w64 (high word from) → bit_at word k ≡ 0)
first_high word from l d f = by (trailing_zeros w64 (high word from)) (bit_at-trailing_zeros w64 (high word from) (positive d) (omega (arith, high_is word from l, and_high_mask 64 from (omega arith) word f)))
  where
    by : (q : ℕ) → (q < 64) × (bit_at (high word from) q ≡ 1) × ((i : ℕ) → i < q → bit_at (high word from) i ≡ 0) →
        (from ≤ q) × (q < 64) × (bit_at word q ≡ 1) × ((k : ℕ) → from ≤ k → k < q → bit_at word k ≡ 0)
    by q t = let up : from ≤ q = at_least (cases_lt q from) in
        (up, t.0, sym (high_bit word from q l up t.0) ∙ t.1, λ k a b. sym (high_bit word from k l a (omega arith)) ∙ t.2 k b)
      where
        at_least : (q < from) ⊎ (from ≤ q) → from ≤ q
        at_least (inl p) = absurd (omega (arith, low_bit word from q l p, t.1))
        at_least (inr p) = p

word_bit : (words : List ℕ) (w i : ℕ) → i < 64 → bit words (w * 64 + i) ≡ eqb (bit_at (get_or words w 0) i) 1
word_bit words w i l = let e : (w * 64 + i) / 64 ≡ w = omega arith in let f : (w * 64 + i) % 64 ≡ i = omega arith in rw (e, f) refl

-- no bit is set from there on and below a number
abbrev pub Clear : List ℕ → ℕ → ℕ → Type 0
Clear words from upto = (k : ℕ) → from ≤ k → k < upto → bit words k ≡ false

-- no bit of the next word is set either
pub clear_word : (words : List ℕ) (from w : ℕ) → ((i : ℕ) → i < 64 → from ≤ w * 64 + i → bit_at (get_or words w 0) i ≡ 0) → Clear words from (w * 64) → Clear words from (w * 64 + 64)
clear_word words from w z h k a b = by (cases_lt k (w * 64))
  where
    by : (k < w * 64) ⊎ (w * 64 ≤ k) → bit words k ≡ false
    by (inl p) = h k a p
    by (inr p) = let e : k ≡ w * 64 + (k - w * 64) = omega arith in
        ap (bit words) e ∙ word_bit words w (k - w * 64) (omega arith) ∙ ap (λ n. eqb n 1) (z (k - w * 64) (omega arith) (omega arith))

pub next_found : (words : List ℕ) (from w b : ℕ) → b < 64 → from ≤ w * 64 + b → bit_at (get_or words w 0) b ≡ 1 → Clear words from (w * 64) →
    ((i : ℕ) → i < b → from ≤ w * 64 + i → bit_at (get_or words w 0) i ≡ 0) → IsNext (bit words) from (Some (w * 64 + b))
next_found words from w b l a e h z = (a, word_bit words w b l ∙ ap (λ n. eqb n 1) e, by)
  where
    by : (k : ℕ) → from ≤ k → k < w * 64 + b → bit words k ≡ false
    by k m n = at (cases_lt k (w * 64))
      where
        at : (k < w * 64) ⊎ (w * 64 ≤ k) → bit words k ≡ false
        at (inl p) = h k m p
        at (inr p) = let e : k ≡ w * 64 + (k - w * 64) = omega arith in
            ap (bit words) e ∙ word_bit words w (k - w * 64) (omega arith) ∙ ap (λ n. eqb n 1) (z (k - w * 64) (omega arith) (omega arith))

bit_past : (words : List ℕ) (k : ℕ) → length words ≤ k / 64 → bit words k ≡ false
bit_past words k l = rw (get_or_past words (k / 64) 0 l, bit_at-zero (k % 64)) refl

pub next_none : (words : List ℕ) (from w : ℕ) → length words ≤ w → Clear words from (w * 64) → IsNext (bit words) from None
next_none words from w l h k a = by (cases_lt k (w * 64))
  where
    by : (k < w * 64) ⊎ (w * 64 ≤ k) → bit words k ≡ false
    by (inl p) = h k a p
    by (inr p) = bit_past words k (omega arith)

pub clear_start : (words : List ℕ) (from : ℕ) → Clear words from (from / 64 * 64)
clear_start words from k a b = absurd (omega arith)
