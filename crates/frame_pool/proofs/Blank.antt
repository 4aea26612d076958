-- Parts of a pool's bytes that have zeros alone.
use Rattle.std.proofs.Common.{◌≡◌, ◌≢◌, ℕ, ◌+◌, ◌-◌, ◌*◌, ◌/◌, ◌%◌, ◌<◌, ◌≤◌, Bool, true, false, List, length, get_or, replicate, ◌++◌, refl, sym, ap, ◌∙◌, arith, ◌⊎◌, inl, inr}
use Rattle.std.specs.List.{splice}
use Rattle.std.proofs.lemmas.Bool.{cases_lt}
use Rattle.std.proofs.lemmas.List.{same_lists, places, length-replicate}
use Rattle.frame_pool.specs.Frames.{overwritten, part_of}
use Rattle.frame_pool.specs.Parts.{Marks, AreParts, part_marked, zero_part}
use Rattle.frame_pool.proofs.Overwrites.{length-overwritten, get_overwritten_below, get_overwritten_in, get_overwritten_past}

-- a part without a mark has zeros
pub zero_part_length : length zero_part ≡ 512
unfolding zero_part
zero_part_length = length-replicate {A = ℕ} 512 0

blank_at : (xs : List ℕ) (m : Marks) (at k : ℕ) → AreParts xs m → at % 512 ≡ 0 → part_marked m (at / 512) ≡ false → k < 512 → get_or xs (at + k) 0 ≡ 0
blank_at xs m at k s z e l = s.blank (at + k) (ap (part_marked m) same ∙ e)
  where
    same : (at + k) / 512 ≡ at / 512
    same = omega (arith, z, l)

part_of_zeros : (xs : List ℕ) (at m : ℕ) → ((k : ℕ) → k < m → get_or xs (at + k) 0 ≡ 0) → at + m ≤ length xs → part_of xs at m ≡ replicate m 0
part_of_zeros xs at m h l = same_lists _ _ (grind (arith, places)) (λ k d j. grind (arith, places, h k))

zeros_over : (xs : List ℕ) (at m : ℕ) → ((k : ℕ) → k < m → get_or xs (at + k) 0 ≡ 0) → at + m ≤ length xs → xs ≡ overwritten xs at (replicate m 0)
zeros_over xs at m h l = same_lists _ _ (grind (arith, places)) by
  where
    by : (k d : ℕ) → k < length xs → get_or xs k d ≡ get_or (overwritten xs at (replicate m 0)) k d
    by k d i = at_k (cases_lt k at) (cases_lt k (at + m))
      where
        there : at ≤ k → k < at + m → get_or xs k 0 ≡ 0
        there p q = let e : at + (k - at) ≡ k = omega arith in ap (λ j. get_or xs j 0) (sym e) ∙ h (k - at) (omega arith)

        at_k : (k < at) ⊎ (at ≤ k) → (k < at + m) ⊎ (at + m ≤ k) → get_or xs k d ≡ get_or (overwritten xs at (replicate m 0)) k d
        at_k (inl p) q = grind (arith, places)
        at_k (inr p) (inl q) = let b = there p q in grind (arith, places)
        at_k (inr p) (inr q) = grind (arith, places)

pub part_is_blank : (xs : List ℕ) (m : Marks) (at : ℕ) → AreParts xs m → at % 512 ≡ 0 → part_marked m (at / 512) ≡ false → at + 512 ≤ length xs → part_of xs at 512 ≡ zero_part
unfolding zero_part
part_is_blank xs m at s z e l = part_of_zeros xs at 512 (λ k. blank_at xs m at k s z e) l

-- zeros over a part that has them
pub blank_over : (xs : List ℕ) (m : Marks) (at : ℕ) → AreParts xs m → at % 512 ≡ 0 → part_marked m (at / 512) ≡ false → at + 512 ≤ length xs → xs ≡ overwritten xs at zero_part
unfolding zero_part
blank_over xs m at s z e l = zeros_over xs at 512 (λ k. blank_at xs m at k s z e) l

-- a part, after all before it in a row of them
more_zeros : (xs : List ℕ) (at p m : ℕ) → at + p + m ≤ length xs → overwritten (overwritten xs at (replicate p 0)) (at + p) (replicate m 0) ≡ overwritten xs at (replicate (p + m) 0)
more_zeros xs at p m l = same_lists _ _ (grind (arith, places)) (λ k d h. grind (arith, places))

pub zeros_on : (xs : List ℕ) (at n : ℕ) → at + n * 512 + 512 ≤ length xs → overwritten (overwritten xs at (replicate (n * 512) 0)) (at + n * 512) zero_part ≡ overwritten xs at (replicate ((n + 1) * 512) 0)
unfolding zero_part
zeros_on xs at n l = more_zeros xs at (n * 512) 512 l ∙ ap (λ k. overwritten xs at (replicate k 0)) next
  where
    next : n * 512 + 512 ≡ (n + 1) * 512
    next = omega arith

pub copy_on : (xs ys : List ℕ) (at to n : ℕ) → to + n * 512 + 512 ≤ length xs → at + n * 512 + 512 ≤ length ys →
    overwritten (overwritten xs to (part_of ys at (n * 512))) (to + n * 512) (part_of ys (at + n * 512) 512) ≡ overwritten xs to (part_of ys at ((n + 1) * 512))
copy_on xs ys at to n l m = same_lists _ _ (grind (arith, places)) (λ k d h. grind (arith, places))

-- a part of another frame than that which is written over
pub part_elsewhere : (xs ys : List ℕ) (at to n i : ℕ) → at % 4096 ≡ 0 → to % 4096 ≡ 0 → at ≢ to → length ys ≡ n → n ≤ 4096 → i + 512 ≤ 4096 → to + 4096 ≤ length xs → at + 4096 ≤ length xs →
    part_of (overwritten xs to ys) (at + i) 512 ≡ part_of xs (at + i) 512
part_elsewhere xs ys at to n i y z d e m l p q = same_lists _ _ (grind (arith, places)) by
  where
    apart : (at + 4096 ≤ to) ⊎ (to + 4096 ≤ at)
    apart = side (cases_lt at to)
      where
        side : (at < to) ⊎ (to ≤ at) → (at + 4096 ≤ to) ⊎ (to + 4096 ≤ at)
        side (inl a) = inl (omega (arith, y, z, a))
        side (inr a) = inr (omega (arith, y, z, d, a))

    by : (k b : ℕ) → k < length (part_of (overwritten xs to ys) (at + i) 512) → get_or (part_of (overwritten xs to ys) (at + i) 512) k b ≡ get_or (part_of xs (at + i) 512) k b
    by k b h = at_k apart
      where
        at_k : (at + 4096 ≤ to) ⊎ (to + 4096 ≤ at) → get_or (part_of (overwritten xs to ys) (at + i) 512) k b ≡ get_or (part_of xs (at + i) 512) k b
        at_k (inl a) = grind (arith, places)
        at_k (inr a) = grind (arith, places)

-- the marks after a write
pub parts_written : (xs ys : List ℕ) (m now : Marks) (at : ℕ) → AreParts xs m → at + length ys ≤ length xs → now.size ≡ m.size →
    ((k : ℕ) → part_marked m k ≡ true → part_marked now k ≡ true) → ((i : ℕ) → at ≤ i → i < at + length ys → part_marked now (i / 512) ≡ true) → AreParts (overwritten xs at ys) now
parts_written xs ys m now at s l c kept marked = record {
  room = omega (arith, s.room, c, length-overwritten xs at ys l);
  blank = blank;
}
  where
    no : (b : Bool) → b ≡ true → b ≡ false → ⊥
    no true e f = cc
    no false e f = cc

    unmarked : (b c : Bool) → (b ≡ true → c ≡ true) → c ≡ false → b ≡ false
    unmarked true c h f = absurd (no c (h refl) f)
    unmarked false c h f = refl

    blank : (i : ℕ) → part_marked now (i / 512) ≡ false → get_or (overwritten xs at ys) i 0 ≡ 0
    blank i e = by (cases_lt i at) (cases_lt i (at + length ys))
      where
        old : get_or xs i 0 ≡ 0
        old = s.blank i (unmarked _ _ (kept (i / 512)) e)

        by : (i < at) ⊎ (at ≤ i) → (i < at + length ys) ⊎ (at + length ys ≤ i) → get_or (overwritten xs at ys) i 0 ≡ 0
        by (inl p) q = get_overwritten_below xs at ys i (omega arith) p ∙ old
        by (inr p) (inl q) = absurd (no _ (marked i p q) e)
        by (inr p) (inr q) = get_overwritten_past xs at ys i (omega arith) q ∙ old

zeros_at : (n i : ℕ) → get_or (replicate {A = ℕ} n 0) i 0 ≡ 0
zeros_at n i = by (cases_lt i n)
  where
    by : (i < n) ⊎ (n ≤ i) → get_or (replicate {A = ℕ} n 0) i 0 ≡ 0
    by (inl p) = grind (arith, places)
    by (inr p) = grind (arith, places)

zero_at : (j : ℕ) → get_or zero_part j 0 ≡ 0
unfolding zero_part
zero_at j = zeros_at 512 j

-- the marks after a part was cleared
pub parts_cleared : (xs : List ℕ) (m now : Marks) (at : ℕ) → AreParts xs m → at % 512 ≡ 0 → at + 512 ≤ length xs → now.size ≡ m.size →
    ((k : ℕ) → k ≢ at / 512 → part_marked now k ≡ part_marked m k) → AreParts (overwritten xs at zero_part) now
parts_cleared xs m now at s z l c others = record {
  room = omega (arith, s.room, c, length-overwritten xs at zero_part (omega (arith, zero_part_length)));
  blank = blank;
}
  where
    blank : (i : ℕ) → part_marked now (i / 512) ≡ false → get_or (overwritten xs at zero_part) i 0 ≡ 0
    blank i e = by (cases_lt i at) (cases_lt i (at + 512))
      where
        old : i / 512 ≢ at / 512 → get_or xs i 0 ≡ 0
        old d = s.blank i (sym (others (i / 512) d) ∙ e)

        by : (i < at) ⊎ (at ≤ i) → (i < at + 512) ⊎ (at + 512 ≤ i) → get_or (overwritten xs at zero_part) i 0 ≡ 0
        by (inl p) q = get_overwritten_below xs at zero_part i (omega arith) p ∙ old (λ d. omega (arith, z, d))
        by (inr p) (inl q) = get_overwritten_in xs at zero_part i (omega arith) p (omega (arith, zero_part_length)) ∙ zero_at (i - at)
        by (inr p) (inr q) = get_overwritten_past xs at zero_part i (omega arith) (omega (arith, zero_part_length)) ∙ old (λ d. omega (arith, z, d))

-- marks that were added at the end, and set from one on and before another
pub marks_kept : (xs ys zs : List Bool) (first end k : ℕ) → ys ≡ xs ++ replicate (end - length xs) false → zs ≡ splice ys first end (replicate (end - first) true) → first ≤ end →
    get_or xs k false ≡ true → get_or zs k false ≡ true
marks_kept xs ys zs first end k e f l t = rw (f, e) (by (cases_lt k (length xs)) (cases_lt k first) (cases_lt k end))
  where
    past : length xs ≤ k → ⊥
    past p = no (sym t ∙ grind (arith, places))
      where
        no : true ≡ false → ⊥
        no e = cc

    by : (k < length xs) ⊎ (length xs ≤ k) → (k < first) ⊎ (first ≤ k) → (k < end) ⊎ (end ≤ k) →
        get_or (splice (xs ++ replicate (end - length xs) false) first end (replicate (end - first) true)) k false ≡ true
    by (inr p) q r = absurd (past p)
    by (inl p) (inl q) r = grind (arith, places)
    by (inl p) (inr q) (inl r) = grind (arith, places)
    by (inl p) (inr q) (inr r) = grind (arith, places)

pub marks_set : (xs ys zs : List Bool) (first end k : ℕ) → ys ≡ xs ++ replicate (end - length xs) false → zs ≡ splice ys first end (replicate (end - first) true) → first ≤ k → k < end →
    get_or zs k false ≡ true
marks_set xs ys zs first end k e f l m = rw (f, e) (grind (arith, places))

pub part_length : (xs : List ℕ) (at n : ℕ) → at + n ≤ length xs → length (part_of xs at n) ≡ n
part_length xs at n l = grind (arith, places)

pub length_copied : (xs ys : List ℕ) (to at n : ℕ) → to + n ≤ length xs → at + n ≤ length ys → length (overwritten xs to (part_of ys at n)) ≡ length xs
length_copied xs ys to at n l m = length-overwritten xs to (part_of ys at n) (omega (arith, part_length ys at n m))
