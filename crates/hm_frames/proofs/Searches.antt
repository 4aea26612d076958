-- The searches in a pool are those of the definitions.
use Rattle.std.proofs.Common.{◌≡◌, ℕ, suc, ◌+◌, ◌-◌, ◌<◌, Bool, true, false, not, cond, Some, List, [], ◌∷◌, length, get_or, drop, refl, sym, ap, ◌∙◌, arith}
use Rattle.std.specs.List.{position, position_from}
use Rattle.std.specs.Prelude.{option_map}
use Rattle.std.proofs.lemmas.List.{get_or-drop, length-drop}
use Rattle.std.proofs.lemmas.Iterator.Adapters.{position_from-zero}
use Rattle.hm_history.specs.Memory.Words.{least}
use Rattle.frame_pool.specs.Bits.{next_true}

-- a list's first element that passes is the least number that does
pub least_position : {X : Type 0} (p : X → Bool) (t : ℕ → Bool) (d : X) (xs : List X) (from : ℕ) → ((k : ℕ) → k < length xs → p (get_or xs k d) ≡ t (from + k)) → position_from p from xs ≡ least t from (length xs)
least_position p t d [] from h = refl
least_position {X} p t d (x ∷ xs) from h = by (p x) refl (t from) refl (least_position p t d xs (from + 1) (λ k l. let e : from + suc k ≡ from + 1 + k = omega arith in h (suc k) (omega arith) ∙ ap t e))
  where
    here : p x ≡ t from
    here = let e : from + 0 ≡ from = omega arith in h 0 (omega arith) ∙ ap t e

    by : (a : Bool) → p x ≡ a → (b : Bool) → t from ≡ b → position_from p (from + 1) xs ≡ least t (from + 1) (length xs) →
        cond (p x) (Some from) (position_from p (from + 1) xs) ≡ elim (t from) [ true ↦ Some from | false ↦ least t (from + 1) (length xs) ]
    by true e true f later = rw (e, f) refl
    by true e false f later = cc (e, f, here)
    by false e true f later = cc (e, f, here)
    by false e false f later = rw (e, f) later

shifted : (xs : List Bool) (from i : ℕ) → option_map (λ k. from + k) (position_from (λ x. x) i xs) ≡ position_from (λ x. x) (from + i) xs
shifted [] from i = refl
shifted (true ∷ xs) from i = refl
shifted (false ∷ xs) from i = let e : from + (i + 1) ≡ from + i + 1 = omega arith in shifted xs from (i + 1) ∙ ap (λ j. position_from (λ x. x) j xs) e

-- the lowest number from there on
pub next_least : (t : ℕ → Bool) (xs : List Bool) (from : ℕ) → ((n : ℕ) → get_or xs n false ≡ t n) → next_true xs from ≡ least t from (length xs - from)
next_least t xs from h =
    ap (option_map (λ k. from + k)) (position_from-zero (λ x. x) (drop from xs)) ∙ shifted (drop from xs) from 0
    ∙ (let e : from + 0 ≡ from = omega arith in ap (λ j. position_from (λ x. x) j (drop from xs)) e)
    ∙ least_position (λ x. x) t false (drop from xs) from (λ k l. get_or-drop from xs k false ∙ h (from + k))
    ∙ ap (least t from) (length-drop from xs)

-- the lowest number that is not in the list
pub free_least : (t : ℕ → Bool) (xs : List Bool) → ((n : ℕ) → get_or xs n false ≡ t n) → position not xs ≡ least (λ n. not (t n)) 0 (length xs)
free_least t xs h = position_from-zero not xs ∙ least_position not (λ n. not (t n)) false xs 0 (λ k l. let e : 0 + k ≡ k = omega arith in ap not (h k) ∙ ap (λ n. not (t n)) (sym e))
