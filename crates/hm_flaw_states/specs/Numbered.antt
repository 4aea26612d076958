-- Keys of one form have one number.
use Rattle.std.proofs.Common.{◌≡◌, ap}
use Rattle.std.specs.Prelude.{⊤}
use Rattle.hm_flaw_states.specs.Keyed.{form_in, key_number, point_number}
use Rattle.hm_flaw_states.specs.declared.key.FlawKey.{FlawKey}

-- a number is made of the form alone
pub same_number : (x y : FlawKey) → ⊤ → ⊤ → form_in x ≡ form_in y → key_number x ≡ key_number y
same_number x y k l e = ap point_number e
