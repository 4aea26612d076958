-- Small laws of tests.
use Rattle.std.proofs.Common.{◌≡◌, ℕ, true, ◌&&◌, eqb, arith}
use Rattle.std.proofs.lemmas.Bool.Decides.{nat_tests}

-- a page is itself
pub page_itself : (p v : ℕ) → (eqb p p && eqb v v) ≡ true
page_itself p v = grind (arith, nat_tests)
