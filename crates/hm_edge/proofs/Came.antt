-- What holds of the bytes that came holds of those that were left.
use Rattle.std.proofs.Common.{◌≡◌, ℕ, List, Option, Some, None, refl, sym, ◌∙◌, subst}
use Rattle.std.specs.Prelude.{IfSome}
use Rattle.hm_edge.specs.Input.{CameWhole}

pub came_as : (P : List ℕ → Type 0) (left after : Option (List ℕ)) (bytes : List ℕ) → CameWhole left after bytes → P bytes → IfSome left P
came_as P None after bytes came p = tt
came_as P (Some l) after bytes came p = subst P (sym came.0) p

pub came_bytes : (left after : Option (List ℕ)) (bytes all : List ℕ) → CameWhole left after bytes → left ≡ Some all → all ≡ bytes
came_bytes None after bytes all came e = cc
came_bytes (Some l) after bytes all came e = let same : l ≡ all = cc in sym same ∙ came.0

-- what is shown of the bytes that are left, if they are known
pub given : {P : List ℕ → Type 0} (left : Option (List ℕ)) → ((bytes : List ℕ) → left ≡ Some bytes → P bytes) → IfSome left P
given None f = tt
given (Some bytes) f = f bytes refl
