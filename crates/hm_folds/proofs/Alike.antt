-- Lists whose items show the same.
use Rattle.std.proofs.Common.{◌≡◌, ℕ, zero, suc, Option, Some, None, List, [], ◌∷◌, ◌++◌}
use Rattle.std.specs.Prelude.{slice_get}

-- one more that shows it
pub alike_more : {X Y : Type 0} (of : Option X → Y) (z : Y) (xs : List X) (x : X) (k : ℕ) → of None ≡ z → of (Some x) ≡ z → of (slice_get xs k) ≡ z → of (slice_get (xs ++ x ∷ []) k) ≡ z
alike_more of z [] x zero none here so = here
alike_more of z [] x (suc k) none here so = none
alike_more of z (y ∷ xs) x zero none here so = so
alike_more of z (y ∷ xs) x (suc k) none here so = alike_more of z xs x k none here so
