-- Pages and places: what lies past the last page, how many bytes are read, and what an empty place is.
use Rattle.std.proofs.Common.{◌≡◌, ℕ, zero, suc, ◌+◌, ◌^◌, ◌≤◌, Bool, true, false, ◌&&◌, nat_lt, nat_le, None, List, [], ◌∷◌, length, refl, ap, arith}
use Rattle.std.specs.Prelude.{find}
use Rattle.std.specs.List.{list_all}
use Rattle.std.proofs.lemmas.Bool.{and_parts}
use Rattle.std.proofs.lemmas.Bool.Decides.{nat_tests}
use Rattle.hm_base.specs.declared.Place.{Place}
use Rattle.hm_history.specs.Memory.Words.{page_of, bytes_from, is_empty_place, writable}
use Rattle.hm_history.specs.Memory.Places.{cpu_reads}

pub address_past : (a : ℕ) → 2 ^ 48 ≤ a → 2 ^ 36 ≤ page_of a
address_past a l = omega (arith, l)

-- no listed page lies past the last one
pub none_past : (test : ℕ × ℕ → Bool) (from : ℕ) (ws : List (ℕ × ℕ)) → 2 ^ 36 ≤ from → list_all (λ e. nat_lt e.0 (2 ^ 36)) ws ≡ true → find (λ e. nat_le from e.0 && test e) ws ≡ None
none_past test from [] l h = refl
none_past test from (w ∷ ws) l h = rw (find, not_here) (none_past test from ws l (and_parts (nat_lt w.0 (2 ^ 36)) _ h).1)
  where
    below : nat_lt w.0 (2 ^ 36) ≡ true
    below = (and_parts (nat_lt w.0 (2 ^ 36)) _ h).0

    past : nat_le from w.0 ≡ false
    past = grind (arith, nat_tests, below)

    not_here : (nat_le from w.0 && test w) ≡ false
    not_here = ap (λ b. b && test w) past

-- this many bytes are read
pub bytes_length : (f : ℕ → ℕ) (at n : ℕ) → length (bytes_from f at n) ≡ n
bytes_length f at zero = refl
bytes_length f at (suc n) = ap suc (bytes_length f (at + 1) n)

pub empty_is : (x : Place) → is_empty_place x ≡ true → Place.Empty ≡ x
empty_is Place.Empty e = refl
empty_is Place.Zero e = cc
empty_is (Place.Sys n w) e = cc
empty_is (Place.Own d n w) e = cc
empty_is (Place.Moving f w) e = cc
empty_is (Place.Exclusive n a) e = cc

-- a place that the CPU may read is not empty
pub reads_not_empty : (x : Place) → cpu_reads x ≡ true → is_empty_place x ≡ false
reads_not_empty x h = grind arith

-- an empty place is not writable
pub no_empty_writable : (x : Place) → is_empty_place x ≡ true → writable x ≡ false
no_empty_writable x e = grind arith
