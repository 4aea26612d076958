-- Lists that grow by one actor at a time.
use Rattle.std.proofs.Common.{◌≡◌, ℕ, suc, ◌+◌, ◌<◌, List, [], ◌∷◌, ◌++◌, length, get_or, take, sym, ap, ◌∙◌, arith, append_assoc, append-nil}
use Rattle.std.specs.Prelude.{map}
use Rattle.std.proofs.lemmas.List.{map-append, take_more, length-take-le}
use Rattle.hm_history.specs.Memory.Words.{numbers}
use Rattle.hm_history.specs.declared.Progress.{Progress}
use Rattle.hm_history.proofs.Numbers.{numbers_append}
use Rattle.hm_judge.specs.Standing.{standing_line, standing_lines}

-- ---- what is due

-- one actor more
pub one_more : {X : Type 0} (f : ℕ → X) (old new : List X) (n : ℕ) (x : X) → old ≡ map f (numbers 0 n) → x ≡ f n → new ≡ old ++ x ∷ [] → new ≡ map f (numbers 0 (n + 1))
one_more f old new n x so is next =
    next ∙ ap (λ y. old ++ y ∷ []) is ∙ ap (λ ys. ys ++ f n ∷ []) so ∙ sym (map-append f (numbers 0 n) (n ∷ [])) ∙ ap (map f) (sym more)
  where
    here : 0 + n ≡ n
    here = omega arith

    more : numbers 0 (n + 1) ≡ numbers 0 n ++ n ∷ []
    more = numbers_append 0 n 1 ∙ ap (λ k. numbers 0 n ++ k ∷ []) here

-- ---- their lines

lines_append : (at a : ℕ) (ps qs : List Progress) → standing_lines at a (ps ++ qs) ≡ standing_lines at a ps ++ standing_lines at (a + length ps) qs
lines_append at a [] qs = let same : a ≡ a + 0 = omega arith in ap (λ k. standing_lines at k qs) same
lines_append at a (p ∷ ps) qs =
    let more : (a + 1) + length ps ≡ a + suc (length ps) = omega arith in
    ap (λ (z : List ℕ). standing_line at a p ++ z) (lines_append at (a + 1) ps qs ∙ ap (λ k. standing_lines at (a + 1) ps ++ standing_lines at k qs) more)
    ∙ sym (append_assoc (standing_line at a p) (standing_lines at (a + 1) ps) (standing_lines at (a + suc (length ps)) qs))

-- the line of one actor more
pub one_line_more : (at i : ℕ) (ps : List Progress) (p : Progress) (old text new : List ℕ) → i < length ps → p ≡ get_or ps i p → text ≡ old ++ standing_lines at 0 (take i ps) → new ≡ text ++ standing_line at i p → new ≡ old ++ standing_lines at 0 (take (i + 1) ps)
one_line_more at i ps p old text new below is so next =
    next ∙ ap (λ (z : List ℕ). z ++ standing_line at i p) so ∙ append_assoc old (standing_lines at 0 (take i ps)) (standing_line at i p)
    ∙ ap (λ (z : List ℕ). old ++ z) (sym more)
  where
    few : 0 + length (take i ps) ≡ i
    few = omega (arith, length-take-le i ps (omega (arith, below)))

    more : standing_lines at 0 (take (i + 1) ps) ≡ standing_lines at 0 (take i ps) ++ standing_line at i p
    more = ap (standing_lines at 0) (take_more ps i p below ∙ ap (λ q. take i ps ++ q ∷ []) (sym is)) ∙ lines_append at 0 (take i ps) (p ∷ [])
        ∙ ap (λ k. standing_lines at 0 (take i ps) ++ standing_lines at k (p ∷ [])) few ∙ ap (λ (z : List ℕ). standing_lines at 0 (take i ps) ++ z) (append-nil (standing_line at i p))
