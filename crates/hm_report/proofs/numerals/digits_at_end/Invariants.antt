use Rattle.std.proofs.Common.{◌≡◌, ◌≤◌, ℕ, List, false, drop}
use Rattle.std.specs.Fmt.{digits, digits_onto}
use Rattle.hm_report.proofs.numerals.digits_at_end.Given as goal

-- the digits that are left, and those that were written, are the number's
pub record SoFar (base number left at : ℕ) (into : List ℕ) : Type 0 where
  pub within : at ≤ 64
  pub text : digits_onto at base false left (drop at into) ≡ digits base false number

abbrev pub invariant-loop-at : goal.invariant-loop-at
invariant-loop-at l = SoFar l.base l.number l.left l.at l.into

abbrev pub decreases-loop-at : goal.decreases-loop-at
decreases-loop-at l = l.at
