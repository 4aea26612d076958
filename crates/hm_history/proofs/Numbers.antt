-- Numbers in a row, in two parts.
use Rattle.std.proofs.Common.{◌≡◌, ℕ, ◌+◌, zero, suc, List, ◌∷◌, ◌++◌, length, refl, sym, ap, ◌∙◌, arith, add-zero}
use Rattle.hm_history.specs.Memory.Words.{numbers}

-- so many numbers, and then those behind them
pub numbers_append : (a m n : ℕ) → numbers a (m + n) ≡ numbers a m ++ numbers (a + m) n
numbers_append a zero n = let z : zero + n ≡ n = omega arith in ap (numbers a) z ∙ ap (λ k. numbers k n) (sym (add-zero a))
numbers_append a (suc m) n =
    let s : suc m + n ≡ suc (m + n) = omega arith in
    let k : (a + 1) + m ≡ a + suc m = omega arith in
    ap (numbers a) s ∙ ap (λ (z : List ℕ). a ∷ z) (numbers_append (a + 1) m n ∙ ap (λ j. numbers (a + 1) m ++ numbers j n) k)

-- how many there are
pub number_count : (from n : ℕ) → length (numbers from n) ≡ n
number_count from zero = refl
number_count from (suc n) = ap suc (number_count (from + 1) n)
