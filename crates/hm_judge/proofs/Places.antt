-- Lines by their place.
use Rattle.std.proofs.Common.{◌≡◌, ℕ, zero, suc, ◌+◌, ◌≤◌, Some, None, List, [], ◌∷◌, length, drop, refl, ap, arith, sym, ◌∙◌, length-drop}
use Rattle.std.specs.Prelude.{slice_get}
use Rattle.std.proofs.lemmas.List.{drop-drop}
use Rattle.hm_script.specs.Automaton.{lines}
use Rattle.std.proofs.lemmas.Option.{slice_get_past}

-- one place on
pub drop_next : {X : Type 0} (xs ys : List X) (n : ℕ) (x : X) → drop n xs ≡ x ∷ ys → drop (n + 1) xs ≡ ys
drop_next xs ys n x e = sym (drop-drop 1 n xs) ∙ ap (drop 1) e

-- what is left begins with what is at the place
pub get_here : {X : Type 0} (xs ys : List X) (n : ℕ) (x : X) → drop n xs ≡ x ∷ ys → slice_get xs n ≡ Some x
get_here [] ys zero x e = absurd cc
get_here [] ys (suc n) x e = absurd cc
get_here (y ∷ xs) ys zero x e = let same : y ≡ x = cc in ap Some same
get_here (y ∷ xs) ys (suc n) x e = get_here xs ys n x e

-- nothing is at a place behind which nothing is left
pub get_past : {X : Type 0} (xs : List X) (n m : ℕ) → drop n xs ≡ [] → n ≤ m → slice_get xs m ≡ None
get_past xs n m e le = slice_get_past xs m (omega (arith, ap length e, length-drop n xs))

-- an empty text has no lines
pub no_lines : (bytes : List ℕ) → length bytes ≡ 0 → lines bytes ≡ []
no_lines [] e = refl
no_lines (b ∷ bytes) e = absurd (omega (arith, e))
