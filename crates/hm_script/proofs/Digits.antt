-- A number is written after the digits before its last one.
use Rattle.std.proofs.Common.{◌≡◌, ℕ, ◌+◌, ◌*◌, ◌/◌, ◌%◌, ◌^◌, ◌<◌, ◌≤◌, false, List, [], ◌∷◌, ◌++◌, sym, ap, ◌∙◌, arith, append_assoc}
use Rattle.std.specs.Fmt.{decimal, digits}
use Rattle.std.proofs.lemmas.Fmt.{decimal_digit, decimal_step, hex_one_digit}
use Rattle.hm_script.proofs.HexDigits.{glyph, digits_step}

pub last_decimal : (old : List ℕ) (n : ℕ) → n < 10 → old ++ (48 + n) ∷ [] ≡ old ++ decimal n
last_decimal old n low = ap (λ (x : List ℕ). old ++ x) (sym (decimal_digit n low))

pub more_decimal : (old out : List ℕ) (n : ℕ) → 10 ≤ n → n < 2 ^ 64 → out ≡ old ++ decimal (n / 10) → out ++ (48 + n % 10) ∷ [] ≡ old ++ decimal n
more_decimal old out n many small e =
    ap (λ (x : List ℕ). x ++ (48 + n % 10) ∷ []) e ∙ append_assoc old (decimal (n / 10)) ((48 + n % 10) ∷ []) ∙ ap (λ (x : List ℕ). old ++ x) (sym (decimal_step n many small))

pub last_hex : (old : List ℕ) (n : ℕ) → n < 16 → old ++ glyph n ∷ [] ≡ old ++ digits 16 false n
last_hex old n low = ap (λ (x : List ℕ). old ++ x) (sym (hex_one_digit false n low))

pub more_hex : (old out : List ℕ) (n : ℕ) → 16 ≤ n → n < 2 ^ 64 → out ≡ old ++ digits 16 false (n / 16) → out ++ glyph (n % 16) ∷ [] ≡ old ++ digits 16 false n
more_hex old out n many small e =
    let whole : n / 16 * 16 + n % 16 ≡ n = omega arith in
    let step = digits_step (n / 16) (n % 16) (omega arith) (omega arith) (omega arith) in
    ap (λ (x : List ℕ). x ++ glyph (n % 16) ∷ []) e ∙ append_assoc old (digits 16 false (n / 16)) (glyph (n % 16) ∷ []) ∙ ap (λ (x : List ℕ). old ++ x) (sym step ∙ ap (digits 16 false) whole)
