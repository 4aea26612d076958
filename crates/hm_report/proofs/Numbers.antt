-- The text of a number, two or four digits at a time.
use Rattle.std.proofs.Common.{◌≡◌, ℕ, ◌+◌, ◌/◌, ◌%◌, ◌^◌, ◌<◌, ◌≤◌, [], ◌∷◌, ◌++◌, length, arith, append_assoc, length-append, ap, refl, ◌∙◌}
use Rattle.std.proofs.lemmas.Fmt.{decimal_digit, decimal_step, length-decimal-le}
use Rattle.std.specs.Fmt.{decimal}
use Rattle.hm_report.specs.Words.{pair_text}

pub decimal_one : (n : ℕ) → n < 10 → decimal n ≡ (48 + n) ∷ []
decimal_one n h = decimal_digit n h

pub decimal_two : (n : ℕ) → 10 ≤ n → n < 100 → decimal n ≡ pair_text n
decimal_two n lo hi = rw (decimal_step n lo (omega arith), decimal_digit (n / 10) (omega arith))

pub decimal_pair : (n : ℕ) → 100 ≤ n → n < 2 ^ 64 → decimal n ≡ decimal (n / 100) ++ pair_text (n % 100)
decimal_pair n lo hi =
    let a : n / 10 / 10 ≡ n / 100 = omega arith in
    let b : n / 10 % 10 ≡ n % 100 / 10 = omega arith in
    let c : n % 10 ≡ n % 100 % 10 = omega arith in
    rw (decimal_step n (omega arith) hi, decimal_step (n / 10) (omega arith) (omega arith), append_assoc, a, b, ← c)

pub length_pair : (n : ℕ) → 100 ≤ n → n < 2 ^ 64 → length (decimal n) ≡ length (decimal (n / 100)) + 2
length_pair n lo hi = ap length (decimal_pair n lo hi) ∙ length-append _ _

pub length_two : (n : ℕ) → 10 ≤ n → n < 100 → length (decimal n) ≡ 2
length_two n lo hi = ap length (decimal_two n lo hi)

pub length_one : (n : ℕ) → n < 10 → length (decimal n) ≡ 1
length_one n h = ap length (decimal_digit n h)

pub length_decimal : (n : ℕ) → n < 2 ^ 64 → length (decimal n) ≤ 64
length_decimal n h = length-decimal-le 64 n (omega arith) (omega arith) h

pub decimal_four : (n : ℕ) → 10000 ≤ n → n < 2 ^ 64 → decimal n ≡ decimal (n / 10000) ++ (pair_text (n / 100 % 100) ++ pair_text (n % 100))
decimal_four n lo hi =
    let a : n / 100 / 100 ≡ n / 10000 = omega arith in
    rw (decimal_pair n (omega arith) hi, decimal_pair (n / 100) (omega arith) (omega arith), append_assoc, a) refl

pub length_four : (n : ℕ) → 10000 ≤ n → n < 2 ^ 64 → length (decimal n) ≡ length (decimal (n / 10000)) + 4
length_four n lo hi =
    ap length (decimal_four n lo hi) ∙ length-append (decimal (n / 10000)) (pair_text (n / 100 % 100) ++ pair_text (n % 100))
