-- Lemmas on lists, results, areas and scripts that several crates use.
use Rattle.std.proofs.Common.{◌≡◌, ℕ, zero, suc, ◌+◌, ◌≤◌, Bool, true, false, ◌&&◌, nat_lt, cond, Some, List, [], ◌∷◌, length, refl, arith}
use Rattle.std.proofs.Common.{Result, Ok, Err, IsOk, is_ok}
use Rattle.std.specs.Prelude.{slice_get, IsTrue, if◌then◌else◌}
use Rattle.std.specs.List.{list_all}
use Rattle.std.proofs.lemmas.Bool.{and_parts}
use Rattle.std.proofs.lemmas.Bool.Decides.{nat_tests}
use Rattle.hm_base.specs.Areas.{with_area}
use Rattle.hm_base.specs.PlaceWords.{pool_index}
use Rattle.hm_base.specs.Program.{op_fits, op_in_range}
use Rattle.hm_base.specs.declared.area.Area.{Area}
use Rattle.hm_base.specs.declared.PoolId.{PoolId}
use Rattle.hm_base.specs.declared.ops.Op.{Op}

-- an item of a list of which all pass
pub each_passes : {X : Type 0} (t : X → Bool) (xs : List X) (i : ℕ) (x : X) → list_all t xs ≡ true → slice_get xs i ≡ Some x → t x ≡ true
each_passes t [] i x h e = cc
each_passes t (y ∷ xs) zero x h e = grind arith
each_passes t (y ∷ xs) (suc i) x h e = each_passes t xs i x (rest (t y) h) e
  where
    rest : (b : Bool) → (b && list_all t xs) ≡ true → list_all t xs ≡ true
    rest true k = k
    rest false k = cc

-- what is one thing or the other by a result is the first if that is Ok
pub when_ok : {A T E : Type 0} (r : Result T E) (x a b : A) → IsOk r → x ≡ cond (is_ok r) a b → x ≡ a
when_ok (Ok y) x a b o e = e
when_ok (Err y) x a b o e = cc

-- an operation that fits is in range
pub in_range : (n : ℕ) (o : Op) → op_fits n o ≡ true → IsTrue (op_in_range o)
in_range n o h = (and_parts (op_in_range o) _ h).0

-- a store's bytes are few
pub few_bytes : (n p a : ℕ) (bs : List ℕ) → op_fits n (Op.Store p a bs) ≡ true → length bs ≤ 256
few_bytes n p a bs h = grind (arith, nat_tests)

pub few_device_bytes : (n m a : ℕ) (bs : List ℕ) → op_fits n (Op.DeviceStore m a bs) ≡ true → length bs ≤ 256
few_device_bytes n m a bs h = grind (arith, nat_tests)

-- each number is that of a pool
abbrev pub pool_numbered : ℕ → PoolId
pool_numbered zero = PoolId.System
pool_numbered (suc d) = PoolId.Device d

pub number_of_pool : (n : ℕ) → pool_index (pool_numbered n) ≡ n
number_of_pool zero = refl
number_of_pool (suc d) = omega arith

-- an area more
pub length_with_area : (n : Area) (as_ : List Area) → length (with_area n as_) ≡ length as_ + 1
length_with_area n [] = refl
length_with_area n (a ∷ as_) = by (nat_lt n.span.first a.span.first) (length_with_area n as_)
  where
    by : (b : Bool) → length (with_area n as_) ≡ length as_ + 1 → length (if b then n ∷ (a ∷ as_) else (a ∷ with_area n as_)) ≡ suc (length as_) + 1
    by true ih = omega arith
    by false ih = omega (arith, ih)
