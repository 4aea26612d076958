-- What is made of the positions that pass a test: one position more.
use Rattle.std.proofs.Common.{◌≡◌, ℕ, ◌+◌, Bool, true, false, cond, List, [], ◌∷◌, ◌++◌, map, filter, sym, ap, ◌∙◌, arith, append-nil}
use Rattle.std.proofs.lemmas.List.{map-append}
use Rattle.std.proofs.lemmas.List.Elements.{filter-append}
use Rattle.hm_history.specs.Memory.Words.{numbers}
use Rattle.hm_history.proofs.Numbers.{numbers_append}

next : {X : Type 0} (f : ℕ → X) (p : ℕ → Bool) (k : ℕ) → map f (filter p (numbers 0 (k + 1))) ≡ map f (filter p (numbers 0 k)) ++ map f (cond (p k) (k ∷ []) [])
next f p k =
    let here : 0 + k ≡ k = omega arith in
    let all : numbers 0 (k + 1) ≡ numbers 0 k ++ k ∷ [] = numbers_append 0 k 1 ∙ ap (λ n. numbers 0 k ++ n ∷ []) here in
    ap (λ (ns : List ℕ). map f (filter p ns)) all ∙ ap (λ (ns : List ℕ). map f ns) (filter-append p (numbers 0 k) (k ∷ [])) ∙ map-append f (filter p (numbers 0 k)) (cond (p k) (k ∷ []) [])

-- it passes
pub kept : {X : Type 0} (f : ℕ → X) (p : ℕ → Bool) (k : ℕ) (x : X) (old new : List X) → old ≡ map f (filter p (numbers 0 k)) → p k ≡ true → x ≡ f k → new ≡ old ++ x ∷ [] → new ≡ map f (filter p (numbers 0 (k + 1)))
kept f p k x old new so passes is more =
    more ∙ ap (λ ys. ys ++ x ∷ []) so ∙ ap (λ y. map f (filter p (numbers 0 k)) ++ y ∷ []) is
    ∙ sym (next f p k ∙ ap (λ b. map f (filter p (numbers 0 k)) ++ map f (cond b (k ∷ []) [])) passes)

-- it does not
pub left_out : {X : Type 0} (f : ℕ → X) (p : ℕ → Bool) (k : ℕ) (old new : List X) → old ≡ map f (filter p (numbers 0 k)) → p k ≡ false → new ≡ old → new ≡ map f (filter p (numbers 0 (k + 1)))
left_out f p k old new so fails same =
    same ∙ so ∙ sym (next f p k ∙ ap (λ b. map f (filter p (numbers 0 k)) ++ map f (cond b (k ∷ []) [])) fails ∙ append-nil (map f (filter p (numbers 0 k))))
