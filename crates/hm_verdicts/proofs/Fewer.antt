-- Lists that lose items.
use Rattle.std.proofs.Common.{subst, sym, arith, ◌<◌, ◌≤◌, true≢false, length, suc}
use Rattle.std.proofs.lemmas.List.Sums.{length-filter, count_by-le-length}
use Rattle.std.specs.Prelude.{◌≡◌, Bool, true, false, not, ◌||◌, if◌then◌else◌, List, [], ◌∷◌}
use Rattle.std.specs.List.{list_any}
use Rattle.hm_protocol.specs.Words.{drop_if}

-- no more are left
pub fewer : {X : Type 0} → (p : X → Bool) (xs : List X) → length (drop_if p xs) ≤ length xs
fewer p xs = subst (λ n. n ≤ length xs) (sym (length-filter (λ x. not (p x)) xs))
    (count_by-le-length (λ x. not (p x)) xs)

-- one less is left, if some are lost
pub some_fewer : {X : Type 0} → (p : X → Bool) (xs : List X) → list_any p xs ≡ true → length (drop_if p xs) < length xs
some_fewer p [] e = absurd (true≢false (sym e))
some_fewer {X} p (x ∷ xs) e = by_bool (p x) (some_fewer p xs) e
  where
    by_bool : (b : Bool) → (list_any p xs ≡ true → length (drop_if p xs) < length xs) → (b || list_any p xs) ≡ true
        → length (if not b then x ∷ drop_if p xs else drop_if p xs) < suc (length xs)
    by_bool true h e = omega (arith, fewer p xs)
    by_bool false h e = omega (arith, h e)
