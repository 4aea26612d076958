-- The first word of a text and what is left.
use Rattle.std.proofs.Common.{◌≡◌, ℕ, suc, ◌+◌, Some, List, ◌∷◌, ◌++◌, get_or, take, drop, ap, ◌∙◌, arith}
use Rattle.std.specs.Prelude.{position}
use Rattle.std.proofs.lemmas.Bool.Decides.{Decides-eqb}
use Rattle.std.proofs.lemmas.List.Quantifiers.{position-Some}
use Rattle.std.proofs.Math.Seq.{split_at}
use Rattle.hm_script.proofs.Splits.{is_space}

pub at_space : (xs : List ℕ) (i : ℕ) → position is_space xs ≡ Some i → xs ≡ take i xs ++ 32 ∷ drop (i + 1) xs
at_space xs i e =
    let h = position-Some is_space xs i 0 e in
    let s : get_or xs i 0 ≡ 32 = (Decides-eqb (get_or xs i 0) 32).0 h.1 in
    let n : suc i ≡ i + 1 = omega arith in
    split_at xs i 0 h.0 ∙ ap (λ b. take i xs ++ b ∷ drop (suc i) xs) s ∙ ap (λ k. take i xs ++ 32 ∷ drop k xs) n
