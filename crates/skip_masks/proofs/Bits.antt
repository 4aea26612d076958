-- The words grow by a bit at their low end, and stay below a power of two.
use Rattle.std.proofs.Common.{◌≡◌, ℕ, zero, suc, ◌+◌, ◌-◌, ◌*◌, ◌^◌, ◌<◌, ◌≤◌, Bool, true, false, cond, sym, ap, subst, ◌∙◌, arith}
use Rattle.std.proofs.Math.Nat.{pow-suc}
use Rattle.std.proofs.Math.Pow.{pow_mono}
use Rattle.skip_rules.specs.Rules.{divides}
use Rattle.skip_masks.specs.Masks.{bit_of, mask_of}

bit_below : (every page : ℕ) → bit_of every page ≤ 1
bit_below every page = by (divides every page)
  where
    by : (b : Bool) → cond b 1 0 ≤ 1
    by true = omega arith
    by false = omega arith

doubled_below : (m p bit q : ℕ) → m < p → bit ≤ 1 → q ≡ 2 * p → bit + 2 * m < q
doubled_below m p bit q h one e = omega (arith, h, one, e)

power_suc : (n : ℕ) → 2 ^ suc n ≡ 2 * 2 ^ n
power_suc n = pow-suc 2 n ∙ twice (2 ^ n)
  where
    twice : (p : ℕ) → p * 2 ≡ 2 * p
    twice p = omega arith

pub mask_below : (every first n : ℕ) → mask_of every first n < 2 ^ n
mask_below every first zero = omega arith
mask_below every first (suc n) = doubled_below (mask_of every (first + 1) n) (2 ^ n) (bit_of every first) (2 ^ suc n) (mask_below every (first + 1) n) (bit_below every first) (power_suc n)

more : (every first n : ℕ) → mask_of every first (n + 1) ≡ bit_of every first + 2 * mask_of every (first + 1) n
more every first n =
    let one_more : n + 1 ≡ suc n = omega arith in
    ap (mask_of every first) one_more

-- the word of one page more at the front
pub mask_more : (every first left count : ℕ) → 0 < left → left ≤ count → mask_of every (first + left) (count - left) * 2 + bit_of every (first + (left - 1)) ≡ mask_of every (first + (left - 1)) (count - (left - 1))
mask_more every first left count some le =
    let m = mask_of every (first + left) (count - left) in
    let after : first + (left - 1) + 1 ≡ first + left = omega (arith, some) in
    let next : mask_of every (first + (left - 1) + 1) (count - left) ≡ m = ap (λ (f : ℕ). mask_of every f (count - left)) after in
    let longer : count - (left - 1) ≡ count - left + 1 = omega (arith, some, le) in
    sym (ap (mask_of every (first + (left - 1))) longer ∙ more every (first + (left - 1)) (count - left) ∙ ap (λ (z : ℕ). bit_of every (first + (left - 1)) + 2 * z) next ∙ omega arith)

-- it fits a word
pub fits_word : (every first n : ℕ) → n ≤ 64 → mask_of every first n < 2 ^ 64
fits_word every first n h = omega (arith, mask_below every first n, pow_mono h)

pub grown_fits : (every first left count mask : ℕ) → 0 < left → left ≤ count → count ≤ 64 → mask ≡ mask_of every (first + left) (count - left) → mask * 2 + bit_of every (first + (left - 1)) < 2 ^ 64
grown_fits every first left count mask some le few is = subst (λ (z : ℕ). z < 2 ^ 64) (sym (ap (λ (m : ℕ). m * 2 + bit_of every (first + (left - 1))) is ∙ mask_more every first left count some le)) (fits_word every (first + (left - 1)) (count - (left - 1)) (omega (arith, few)))
