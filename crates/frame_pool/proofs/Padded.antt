-- Bytes that are followed by zeros up to a length.
use Rattle.std.proofs.Common.{◌≡◌, ℕ, ◌+◌, ◌-◌, ◌<◌, ◌≤◌, List, length, take, drop, replicate, ◌++◌, sym, ap, ◌∙◌, arith, ◌⊎◌, inl, inr}
use Rattle.std.proofs.Math.Seq.{take-append-add, drop-append-add}
use Rattle.std.proofs.lemmas.Bool.{cases_lt}
use Rattle.std.proofs.lemmas.Grind.{common_steps}
use Rattle.std.proofs.lemmas.List.{append_assoc, length-append, length-replicate, replicate-append-replicate, append-nil, take-append-le, drop-append-le, take-replicate, drop-replicate, take_all, drop_all, length-take, length-take-le, length-drop}
use Rattle.frame_pool.specs.Frames.{overwritten, padded, part_of}
use Rattle.frame_pool.proofs.Overwrites.{length-overwritten}

-- zeros at the end change nothing, and reach as far as they should
pub grown_same : (xs ys : List ℕ) (k n : ℕ) → ys ≡ xs ++ replicate (k - length xs) 0 → length xs ≤ n → k ≤ n → padded ys n ≡ padded xs n
grown_same xs ys k n e l m = rw e (append_assoc xs (replicate (k - length xs) 0) (replicate (n - length (xs ++ replicate (k - length xs) 0)) 0)
    ∙ ap (λ (zs : List ℕ). xs ++ zs) (replicate-append-replicate (k - length xs) (n - length (xs ++ replicate (k - length xs) 0)) 0 ∙ ap (λ i. replicate i 0) count))
  where
    len : length (xs ++ replicate (k - length xs) 0) ≡ length xs + (k - length xs)
    len = length-append xs (replicate (k - length xs) 0) ∙ ap (λ i. length xs + i) (length-replicate {A = ℕ} (k - length xs) 0)

    count : k - length xs + (n - length (xs ++ replicate (k - length xs) 0)) ≡ n - length xs
    count = omega (arith, len)

pub grown_least : (xs ys : List ℕ) (k : ℕ) → ys ≡ xs ++ replicate (k - length xs) 0 → k ≤ length ys
grown_least xs ys k e = omega (arith, ap length e, length-append xs (replicate (k - length xs) 0), length-replicate {A = ℕ} (k - length xs) 0)

pub grown_most : (xs ys : List ℕ) (k n : ℕ) → ys ≡ xs ++ replicate (k - length xs) 0 → length xs ≤ n → k ≤ n → length ys ≤ n
grown_most xs ys k n e l m = omega (arith, ap length e, length-append xs (replicate (k - length xs) 0), length-replicate {A = ℕ} (k - length xs) 0)

-- a write before the zeros
overwritten_before : (xs zs ys : List ℕ) (at : ℕ) → at + length ys ≤ length xs → overwritten (xs ++ zs) at ys ≡ overwritten xs at ys ++ zs
overwritten_before xs zs ys at l =
    rw (take-append-le at xs zs (omega arith), drop-append-le (at + length ys) xs zs l)
    (sym (append_assoc (take at xs) (ys ++ drop (at + length ys) xs) zs ∙ ap (λ (r : List ℕ). take at xs ++ r) (append_assoc ys (drop (at + length ys) xs) zs)))

pub written_over : (xs ys : List ℕ) (n at : ℕ) → at + length ys ≤ length xs → padded (overwritten xs at ys) n ≡ overwritten (padded xs n) at ys
written_over xs ys n at l =
    ap (λ i. overwritten xs at ys ++ replicate (n - i) 0) (length-overwritten xs at ys l) ∙ sym (overwritten_before xs (replicate (n - length xs) 0) ys at l)

-- the same, after zeros were added up to a length
pub written_grown : (xs grown now s ys : List ℕ) (k n at : ℕ) → padded xs n ≡ s → grown ≡ xs ++ replicate (k - length xs) 0 → now ≡ overwritten grown at ys →
    length xs ≤ n → k ≤ n → at + length ys ≤ k → padded now n ≡ overwritten s at ys
written_grown xs grown now s ys k n at is e f l m o =
    ap (λ (zs : List ℕ). padded zs n) f ∙ (written_over grown ys n at (omega (arith, grown_least xs grown k e))
    ∙ ap (λ (zs : List ℕ). overwritten zs at ys) (grown_same xs grown k n e l m ∙ is))

-- what is read of them
padded_cut : (xs : List ℕ) (n j : ℕ) → length xs + j ≤ n → take (length xs + j) (padded xs n) ≡ xs ++ replicate j 0
padded_cut xs n j l = take-append-add xs (replicate (n - length xs) 0) j ∙ ap (λ (zs : List ℕ). xs ++ zs) (take-replicate j (n - length xs) 0 (omega arith))

take_padded : (xs : List ℕ) (n m : ℕ) → m ≤ n → take m (padded xs n) ≡ padded (take m xs) m
take_padded xs n m l = by (cases_lt m (length xs))
  where
    by : (m < length xs) ⊎ (length xs ≤ m) → take m (padded xs n) ≡ padded (take m xs) m
    by (inl p) = let none : m - length (take m xs) ≡ 0 = omega (arith, length-take-le m xs (omega arith)) in
        take-append-le m xs (replicate (n - length xs) 0) (omega arith) ∙ (sym (append-nil (take m xs)) ∙ ap (λ i. take m xs ++ replicate i 0) (sym none))
    by (inr p) = let e : m ≡ length xs + (m - length xs) = omega arith in
        ap (λ i. take i (padded xs n)) e ∙ (padded_cut xs n (m - length xs) (omega arith) ∙ ap (λ (zs : List ℕ). padded zs m) (sym (take_all m xs p)))

drop_past : (xs : List ℕ) (n j at : ℕ) → at ≡ length xs + j → drop at (padded xs n) ≡ padded (drop at xs) (n - at)
drop_past xs n j at e = rw (drop_all at xs (omega arith)) (ap (λ i. drop i (padded xs n)) e ∙ (drop-append-add xs (replicate (n - length xs) 0) j
    ∙ (drop-replicate j (n - length xs) 0 ∙ ap (λ i. replicate i 0) count)))
  where
    count : n - length xs - j ≡ n - at - 0
    count = omega arith

drop_padded : (xs : List ℕ) (n at : ℕ) → drop at (padded xs n) ≡ padded (drop at xs) (n - at)
drop_padded xs n at = by (cases_lt at (length xs))
  where
    by : (at < length xs) ⊎ (length xs ≤ at) → drop at (padded xs n) ≡ padded (drop at xs) (n - at)
    by (inl p) = let e : n - length xs ≡ n - at - length (drop at xs) = omega (arith, length-drop at xs) in
        drop-append-le at xs (replicate (n - length xs) 0) (omega arith) ∙ ap (λ i. drop at xs ++ replicate i 0) e
    by (inr p) = drop_past xs n (at - length xs) at (omega arith)

pub part_shown : (xs : List ℕ) (n at m : ℕ) → at + m ≤ n → padded (part_of xs at m) m ≡ part_of (padded xs n) at m
part_shown xs n at m l = let e : at + m - at ≡ m = omega arith in
    rw e (sym (ap (take m) (drop_padded xs n at) ∙ take_padded (drop at xs) (n - at) m (omega arith)))

pub part_before : (xs : List ℕ) (n at m : ℕ) → at + m ≤ length xs → length xs ≤ n → part_of (padded xs n) at m ≡ part_of xs at m
part_before xs n at m l k = sym (part_shown xs n at m (omega arith)) ∙ (ap (λ i. part_of xs at m ++ replicate i 0) none ∙ append-nil (part_of xs at m))
  where
    none : m - length (part_of xs at m) ≡ 0
    none = omega (arith, length-take (at + m - at) (drop at xs), length-drop at xs)

pub length_padded : (xs : List ℕ) (n : ℕ) → length xs ≤ n → length (padded xs n) ≡ n
length_padded xs n l = omega (arith, length-append xs (replicate (n - length xs) 0), length-replicate {A = ℕ} (n - length xs) 0)

pub length_part : (xs : List ℕ) (at m : ℕ) → length (padded (part_of xs at m) m) ≡ m
length_part xs at m = grind (arith, common_steps)

-- a copy within them, after zeros were added up to the end of the source and that of the target
pub copied_grown : (xs ys zs now s : List ℕ) (k i n at to m : ℕ) → padded xs n ≡ s → ys ≡ xs ++ replicate (k - length xs) 0 → zs ≡ ys ++ replicate (i - length ys) 0 →
    now ≡ overwritten zs to (part_of zs at m) → length xs ≤ n → k ≤ n → i ≤ n → at + m ≤ k → to + m ≤ i → padded now n ≡ overwritten s to (part_of s at m)
copied_grown xs ys zs now s k i n at to m is e f g l p q r t =
    ap (λ (ws : List ℕ). padded ws n) g ∙ (written_over zs (part_of zs at m) n to (omega (arith, len, source, target))
    ∙ (ap (overwritten (padded zs n) to) (sym (part_before zs n at m source within)) ∙ ap (λ (ws : List ℕ). overwritten ws to (part_of ws at m)) same))
  where
    first : length ys ≤ n
    first = grown_most xs ys k n e l p

    within : length zs ≤ n
    within = grown_most ys zs i n f first q

    longer : length ys ≤ length zs
    longer = omega (arith, ap length f, length-append ys (replicate (i - length ys) 0))

    source : at + m ≤ length zs
    source = omega (arith, longer, grown_least xs ys k e)

    target : to + m ≤ length zs
    target = omega (arith, grown_least ys zs i f)

    len : length (part_of zs at m) ≡ m
    len = omega (arith, source, length-take (at + m - at) (drop at zs), length-drop at zs)

    same : padded zs n ≡ s
    same = grown_same ys zs i n f first q ∙ (grown_same xs ys k n e l p ∙ is)
