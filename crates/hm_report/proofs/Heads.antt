-- A word after others.
use Rattle.std.proofs.Common.{◌≡◌, ℕ, List, [], ◌∷◌, ◌++◌, ◌∙◌, ap, sym, append_assoc, append-nil}
use Rattle.hm_report.specs.Line.{spaced}

-- words, and one more
pub one_more : (words : List (List ℕ)) (x : List ℕ) → spaced words ++ 32 ∷ x ≡ spaced (words ++ x ∷ [])
one_more [] x = sym (append-nil (32 ∷ x))
one_more (w ∷ words) x = append_assoc (32 ∷ w) (spaced words) (32 ∷ x) ∙ ap (λ e. (32 ∷ w) ++ e) (one_more words x)
