use Rattle.std.proofs.Common.{◌≡◌, ◌+◌, ◌-◌, ℕ, subst, arith}
use Rattle.std.proofs.lemmas.Nat.Bits.{bit_at-trailing_zeros}
use Rattle.std.specs.Int.{bit_at, trailing_zeros, w64}
use Rattle.hm_workers.proofs.places.first.Goals as goal

pub returns-clause-some : goal.returns-clause-some
returns-clause-some c = λ more.
    let set : ℕ = c.args.set in
    let lowest = bit_at-trailing_zeros w64 set more c.ranges.set.fits in
    let zeros : ℕ = trailing_zeros w64 set in
    let before : zeros ≡ c.from.result + 1 - 1 = let e = c.from.ensures in omega arith in
    let small = lowest.0 in
    (omega arith, omega arith, subst (λ (k : ℕ). bit_at set k ≡ 1) before lowest.1)
