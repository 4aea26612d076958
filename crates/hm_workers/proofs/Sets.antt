-- Sets of actors, as bits of a word.
use Rattle.std.proofs.Common.{◌≡◌, ℕ, ◌-◌, bit_and, arith}
use Rattle.std.proofs.lemmas.Nat.Bits.{bit_at_and, bit_at-lt}
use Rattle.std.specs.Int.{bit_at}
use Rattle.hm_workers.specs.Gates.{IsIn}

pub in_first : (a b place : ℕ) → IsIn (bit_and a b) place → IsIn a place
in_first a b place h = let i : ℕ = place - 1 in let one : bit_at (bit_and a b) i ≡ 1 = h.2 in let both = bit_at_and a b i in let low = bit_at-lt a i in let is : bit_at a i ≡ 1 = omega arith in (h.0, h.1, is)
