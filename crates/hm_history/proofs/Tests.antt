-- A test has one answer, and an option one value.
use Rattle.std.proofs.Common.{◌≡◌, Bool, true, false, Option, Some, None}

pub true_false : (b : Bool) → b ≡ true → b ≡ false → ⊥
true_false b h k = cc

pub some_none : {X : Type 0} (y : Option X) (x : X) → y ≡ Some x → y ≡ None → ⊥
some_none y x e d = cc

pub same_some : {X : Type 0} (y : Option X) (x z : X) → y ≡ Some x → y ≡ Some z → x ≡ z
same_some y x z e d = cc

-- a test cannot be false and true
pub never : {X : Type 0} (b : Bool) → b ≡ false → b ≡ true → X
never b h k = absurd (true_false b k h)

pub no_test : {X : Type 0} → false ≡ true → X
no_test e = cc
