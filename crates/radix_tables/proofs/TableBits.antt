-- Bits that say of each word whether it passes a test.
use Rattle.std.proofs.Common.{◌≡◌, ◌≢◌, ℕ, ◌+◌, ◌*◌, ◌/◌, ◌%◌, ◌^◌, ◌<◌, ◌≤◌, Bool, true, false, eqb, cond, Option, Some, None, List, length, get_or, set, refl, sym, ap, ◌∙◌, arith, ◌⊎◌, inl, inr}
use Rattle.std.specs.Option.{MatchOption}
use Rattle.std.specs.Int.{bit_at}
use Rattle.std.proofs.lemmas.Bool.{cases_eq}
use Rattle.std.proofs.lemmas.Bool.Decides.{nat_tests}
use Rattle.std.proofs.lemmas.List.{get_or-set_same, get_or-set_other, length-set}
use Rattle.frame_pool.specs.Bits.{bit}
use Rattle.radix_tables.specs.Maps.{is_marked, marked}
use Rattle.radix_tables.specs.Walks.{table_in, IsLonger, IsChild}
use Rattle.radix_tables.specs.Levels.{AreBits, is_used, from_second, word_of}
use Rattle.radix_tables.specs.declared.levels.Levels.{Levels}
use Rattle.radix_tables.proofs.Tables.{longer}

pub bits_set : (test : ℕ → Bool) (words bits now : List ℕ) (at word : ℕ) (b : Bool) → AreBits test words bits → at < length words → length now ≡ length bits → b ≡ test word →
    ((k : ℕ) → bit now k ≡ cond (eqb k at) b (bit bits k)) → AreBits test (set words at word) now
bits_set test words bits now at word b h l e is all = record {
  covers = omega (arith, length-set words at word, h.covers);
  each = λ k. all k ∙ by k (cases_eq k at);
}
  where
    same : (x : ℕ) → eqb x x ≡ true
    same x = grind (arith, nat_tests)

    other : (x y : ℕ) → x ≢ y → eqb x y ≡ false
    other x y d = grind (arith, nat_tests)

    by : (k : ℕ) → (k ≡ at) ⊎ (k ≢ at) → cond (eqb k at) b (bit bits k) ≡ test (get_or (set words at word) k 0)
    by k (inl p) = ap (λ i. cond (eqb i at) b (bit bits k)) p ∙ (ap (λ t. cond t b (bit bits k)) (same at)
        ∙ (is ∙ ap test (sym (ap (λ i. get_or (set words at word) i 0) p ∙ get_or-set_same words at word 0 l))))
    by k (inr p) = ap (λ t. cond t b (bit bits k)) (other k at p) ∙ (h.each k ∙ ap test (sym (get_or-set_other words at k word 0 p)))

pub bits_longer : (test : ℕ → Bool) {words now bits : List ℕ} → AreBits test words bits → IsLonger words now → length now ≤ 64 * length bits → AreBits test now bits
bits_longer test h l c = record { covers = c; each = λ k. h.each k ∙ ap test (sym (longer l k)) }

pub bits_grown : (test : ℕ → Bool) {words bits now : List ℕ} → AreBits test words bits → ((k : ℕ) → bit now k ≡ bit bits k) → length bits ≤ length now → AreBits test words now
bits_grown test h b l = record { covers = omega (arith, h.covers); each = λ k. b k ∙ h.each k }

pub bits_child : (test : ℕ → Bool) {words bits now : List ℕ} (xs ys : List ℕ) (at : ℕ) → AreBits test words bits → IsChild xs ys words now at → length now ≤ 64 * length bits → AreBits test now bits
bits_child test {words} {bits} {now} xs ys at h c l = by c.step
  where
    t : ℕ
    t = get_or ys at 0

    by : ((get_or xs at 0 ≢ 0) × (ys ≡ xs) × (now ≡ words)) ⊎ ((get_or xs at 0 ≡ 0) × (ys ≡ set xs at t) × (2 ≤ t) × (length words ≤ t * 64) × (length now ≡ t * 64 + 64) × IsLonger words now) → AreBits test now bits
    by (inl s) = rw s.2 h
    by (inr s) = bits_longer test h s.5 l

-- the bits of a table
pub table_bit : (bits : List ℕ) (t k : ℕ) → bit bits (t * 64 + k % 64) ≡ eqb (bit_at (get_or bits t 0) (k % 64)) 1
table_bit bits t k = ap (λ i. eqb (bit_at (get_or bits i 0) ((t * 64 + k % 64) % 64)) 1) high ∙ ap (λ i. eqb (bit_at (get_or bits t 0) i) 1) low
  where
    high : (t * 64 + k % 64) / 64 ≡ t
    high = omega arith

    low : (t * 64 + k % 64) % 64 ≡ k % 64
    low = omega arith

-- the numbers of a table's entries whose bits are not set
abbrev pub NoBit : List ℕ → ℕ → ℕ → ℕ → Type 0
NoBit bits t from upto = (k : ℕ) → from ≤ k → k < upto → bit bits (t * 64 + k % 64) ≡ false

pub found_none : {X : Type 0} {r : Option X} {N : Type 0} (P : X → Type 0) → r ≡ None → N → MatchOption r N P
found_none {r = None} P e h = h
found_none {r = Some x} P e h = cc

-- the words of the pages that a table is for
entry_bit : (test : ℕ → Bool) (l : Levels) (bits : List ℕ) (t page v : ℕ) → AreBits test l.words.items bits → t ≡ table_in (from_second l) (page / 64) → v / 64 ≡ page / 64 → bit bits (t * 64 + v % 64) ≡ test (word_of l v)
entry_bit test l bits t page v h e f = h.each (t * 64 + v % 64) ∙ ap (λ b. test (get_or l.words.items (b * 64 + v % 64) 0)) (e ∙ ap (table_in (from_second l)) (sym f))

pub none_word : (test : ℕ → Bool) (g : ℕ → ℕ) (l : Levels) (bits : List ℕ) (t page : ℕ) → AreBits test l.words.items bits → t ≡ table_in (from_second l) (page / 64) → NoBit bits t page ((page / 64 + 1) * 64) →
    ((w : ℕ) → test w ≡ false → g w ≡ 0) → (v : ℕ) → page ≤ v → v < (page / 64 + 1) * 64 → g (word_of l v) ≡ 0
none_word test g l bits t page h e z none v a b = none (word_of l v) (sym (entry_bit test l bits t page v h e (omega arith)) ∙ z v a b)

pub some_word : (test : ℕ → Bool) (g : ℕ → ℕ) (l : Levels) (bits : List ℕ) (t page found w : ℕ) → AreBits test l.words.items bits → t ≡ table_in (from_second l) (page / 64) → page < 2 ^ 36 →
    (page ≤ found) × (found < (page / 64 + 1) * 64) × (bit bits (t * 64 + found % 64) ≡ true) × NoBit bits t page found → w ≡ get_or l.words.items (t * 64 + found % 64) 0 →
    ((w : ℕ) → test w ≡ false → g w ≡ 0) → ((w : ℕ) → test w ≡ true → (g w ≡ w) × (w ≢ 0)) →
    (page ≤ found) × (found < 2 ^ 36) × (g (word_of l found) ≡ w) × (w ≢ 0) × ((v : ℕ) → page ≤ v → v < found → g (word_of l v) ≡ 0)
some_word test g l bits t page found w h e p n s none some = (
  n.0,
  omega (arith, n.0, n.1),
  (some (word_of l found) is).0 ∙ word,
  λ z. (some (word_of l found) is).1 (word ∙ z),
  λ v a b. none (word_of l v) (sym (entry_bit test l bits t page v h e (omega (arith, n.0, n.1))) ∙ n.3 v a b),
)
  where
    block : found / 64 ≡ page / 64
    block = omega (arith, n.0, n.1)

    word : word_of l found ≡ w
    word = ap (λ b. get_or l.words.items (b * 64 + found % 64) 0) (ap (table_in (from_second l)) block ∙ sym e) ∙ sym s

    is : test (word_of l found) ≡ true
    is = sym (entry_bit test l bits t page found h e block) ∙ n.2

-- used words and marked words
pub unused : (w : ℕ) → is_used w ≡ false → w ≡ 0
unused w e = grind (arith, nat_tests)

pub used : (w : ℕ) → is_used w ≡ true → (w ≡ w) × (w ≢ 0)
used w e = (refl, some w e)
  where
    some : (w : ℕ) → is_used w ≡ true → w ≢ 0
    some w e = grind (arith, nat_tests)

pub unmarked : (w : ℕ) → is_marked w ≡ false → marked w ≡ 0
unmarked w e = ap (λ b. cond b w 0) e

pub with_mark : (w : ℕ) → is_marked w ≡ true → (marked w ≡ w) × (w ≢ 0)
with_mark w e = (ap (λ b. cond b w 0) e, λ z. cc (sym e ∙ ap is_marked z))

pub marked_some : (w : ℕ) → marked w ≢ 0 → w ≢ 0
marked_some w d e = d (ap marked e)

pub marked_none : {w : ℕ} → w ≡ 0 → marked w ≡ 0
marked_none e = ap marked e
