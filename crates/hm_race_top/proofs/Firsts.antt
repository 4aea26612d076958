-- What stands before the first byte of a kind.
use Rattle.std.proofs.Common.{◌≡◌, ℕ, ◌≤◌, Bool, true, false, cond, ltb, Some, None, List, length, take, refl, sym, ap, arith}
use Rattle.std.specs.List.{position, position_or_len, before_first}
use Rattle.std.proofs.lemmas.Bool.Decides.{nat_tests}
use Rattle.std.proofs.lemmas.List.{take_all}

-- up to the place where it is found
pub before_found : (p : ℕ → Bool) (xs : List ℕ) (i : ℕ) → position p xs ≡ Some i → take i xs ≡ before_first p xs
before_found p xs i e = by (ltb (position_or_len p xs) (length xs)) e
  where
    by : (t : Bool) → cond t (Some (position_or_len p xs)) None ≡ Some i → take i xs ≡ before_first p xs
    by true e = let n : i ≡ position_or_len p xs = cc in ap (λ (k : ℕ). take k xs) n
    by false e = cc

-- and all if it is not found
pub before_none : (p : ℕ → Bool) (xs : List ℕ) → position p xs ≡ None → xs ≡ before_first p xs
before_none p xs e = by (ltb (position_or_len p xs) (length xs)) refl e
  where
    all : ltb (position_or_len p xs) (length xs) ≡ false → length xs ≤ position_or_len p xs
    all past = grind (arith, nat_tests)

    by : (t : Bool) → ltb (position_or_len p xs) (length xs) ≡ t → cond t (Some (position_or_len p xs)) None ≡ None → xs ≡ before_first p xs
    by true past e = cc
    by false past e = sym (take_all (position_or_len p xs) xs (all past))
