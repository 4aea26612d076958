-- The operations of a script, and its actors.
use Rattle.std.proofs.Common.{◌≡◌, ℕ, zero, suc, ◌+◌, ◌≤◌, ◌<◌, Bool, true, false, ◌&&◌, ◌||◌, Some, List, [], ◌∷◌, length, refl, ap, ◌∙◌, arith, subst}
use Rattle.std.specs.Prelude.{slice_get}
use Rattle.std.specs.List.{list_all, list_any}
use Rattle.std.proofs.lemmas.Bool.{and_from, and_parts, or_left, or_right}
use Rattle.hm_base.proofs.Shared.{each_passes}
use Rattle.hm_base.specs.Program.{op_fits, op_in_range}
use Rattle.hm_base.specs.declared.ops.Op.{Op}
use Rattle.hm_history.specs.Memory.Words.{numbers}

each_in_range : (n : ℕ) (os : List Op) → list_all (op_fits n) os ≡ true → list_all (λ o. op_in_range o) os ≡ true
each_in_range n [] h = refl
each_in_range n (o ∷ os) h =
    let p = and_parts (op_fits n o) (list_all (op_fits n) os) h in
    and_from (op_in_range o) _ (and_parts (op_in_range o) _ p.0).0 (each_in_range n os p.1)

pub all_in_range : (n : ℕ) (actors : List (List Op)) (a : ℕ) (os : List Op) → list_all (list_all (op_fits n)) actors ≡ true → slice_get actors a ≡ Some os → list_all (λ o. op_in_range o) os ≡ true
all_in_range n actors a os h e = each_in_range n os (each_passes (list_all (op_fits n)) actors a os h e)

none_from : (t : ℕ → Bool) (from n : ℕ) → ((b : ℕ) → b < n → t (from + b) ≡ false) → list_any t (numbers from n) ≡ false
none_from t from zero h = refl
none_from t from (suc n) h = both (t from) _ (subst (λ k. t k ≡ false) (omega arith) (h 0 (omega arith))) (none_from t (from + 1) n (λ b lt. subst (λ k. t k ≡ false) (omega arith) (h (suc b) (omega arith))))
  where
    both : (x y : Bool) → x ≡ false → y ≡ false → (x || y) ≡ false
    both x y h k = grind arith

one_from : (t : ℕ → Bool) (from n b : ℕ) → b < n → t (from + b) ≡ true → list_any t (numbers from n) ≡ true
one_from t from zero b lt h = absurd (omega arith)
one_from t from (suc n) zero lt h = or_left (t from) _ (subst (λ k. t k ≡ true) (omega arith) h)
one_from t from (suc n) (suc b) lt h =
    or_right (t from) _ (one_from t (from + 1) n b (omega arith) (subst (λ k. t k ≡ true) (omega arith) h))

-- a number below n passes the test, or none does
pub one_of : (t : ℕ → Bool) (n b : ℕ) → b < n → t b ≡ true → list_any t (numbers 0 n) ≡ true
one_of t n b lt h = one_from t 0 n b lt (subst (λ k. t k ≡ true) (omega arith) h)

pub none_of : (t : ℕ → Bool) (n : ℕ) → ((b : ℕ) → b < n → t b ≡ false) → list_any t (numbers 0 n) ≡ false
none_of t n h = none_from t 0 n (λ b lt. subst (λ k. t k ≡ false) (omega arith) (h b lt))
