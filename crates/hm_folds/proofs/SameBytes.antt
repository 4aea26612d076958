-- Maps with the same entries have the same bytes.
use Rattle.std.proofs.Common.{◌≡◌, ℕ, refl}
use Rattle.hm_folds.specs.Stored.{byte_in}
use Rattle.hm_folds.specs.declared.stored.Stored.{Stored}

pub same_bytes : (x y : Stored) → x.bytes.entries ≡ y.bytes.entries → (a : ℕ) → byte_in x a ≡ byte_in y a
same_bytes x y e a = rw e refl
