-- Bytes and their lines.
use Rattle.std.proofs.Common.{◌≡◌, ℕ, zero, suc, Bool, true, false, not, eqb, List, [], ◌∷◌, ◌++◌, take, refl, sym, ap, ◌∙◌, arith, append_assoc}
use Rattle.std.specs.List.{list_all}
use Rattle.std.proofs.lemmas.Bool.{eqb-true, and_parts}
use Rattle.std.proofs.lemmas.Bool.Decides.{nat_tests}
use Rattle.std.proofs.Math.Seq.{take-nil}
use Rattle.hm_script.specs.Automaton.{lines, onto_line}

-- all lines behind one another
abbrev pub joined : List (List ℕ) → List ℕ
joined [] = []
joined (l ∷ ls) = l ++ joined ls

onto_joined : (b : ℕ) (ls : List (List ℕ)) → joined (onto_line b ls) ≡ b ∷ joined ls
onto_joined b [] = refl
onto_joined b (l ∷ ls) = refl

pub joined_lines : (xs : List ℕ) → joined (lines xs) ≡ xs
joined_lines [] = refl
joined_lines (b ∷ xs) = by (joined_lines xs) (eqb b 10) refl
  where
    by : joined (lines xs) ≡ xs → (t : Bool) → eqb b 10 ≡ t → joined (lines (b ∷ xs)) ≡ b ∷ xs
    by rest true e = let is : b ≡ 10 = eqb-true b 10 e in rw is (ap (λ (z : List ℕ). 10 ∷ z) rest)
    by rest false e = rw e (onto_joined b (lines xs) ∙ ap (λ (z : List ℕ). b ∷ z) rest)

pub joined_append : (xs ys : List (List ℕ)) → joined (xs ++ ys) ≡ joined xs ++ joined ys
joined_append [] ys = refl
joined_append (x ∷ xs) ys = ap (λ (z : List ℕ). x ++ z) (joined_append xs ys) ∙ sym (append_assoc x (joined xs) (joined ys))

onto_take : (b n : ℕ) (ls : List (List ℕ)) → take (suc n) (onto_line b ls) ≡ onto_line b (take (suc n) ls)
onto_take b n [] = ap (λ (z : List (List ℕ)). (b ∷ []) ∷ z) (take-nil n)
onto_take b n (l ∷ ls) = refl

-- the first lines are lines again
pub lines_take : (xs : List ℕ) (n : ℕ) → lines (joined (take n (lines xs))) ≡ take n (lines xs)
lines_take xs zero = refl
lines_take [] (suc n) = refl
lines_take (b ∷ xs) (suc n) = by (lines_take xs) (eqb b 10) refl
  where
    by : ((k : ℕ) → lines (joined (take k (lines xs))) ≡ take k (lines xs)) → (t : Bool) → eqb b 10 ≡ t → lines (joined (take (suc n) (lines (b ∷ xs)))) ≡ take (suc n) (lines (b ∷ xs))
    by rest true e = let is : b ≡ 10 = eqb-true b 10 e in rw is (ap (λ (z : List (List ℕ)). (10 ∷ []) ∷ z) (rest n))
    by rest false e =
        let first : lines (b ∷ xs) ≡ onto_line b (lines xs) = rw e refl in
        let cut : take (suc n) (lines (b ∷ xs)) ≡ onto_line b (take (suc n) (lines xs)) = ap (take (suc n)) first ∙ onto_take b n (lines xs) in
        let bytes : joined (take (suc n) (lines (b ∷ xs))) ≡ b ∷ joined (take (suc n) (lines xs)) = ap joined cut ∙ onto_joined b (take (suc n) (lines xs)) in
        let again : lines (b ∷ joined (take (suc n) (lines xs))) ≡ onto_line b (lines (joined (take (suc n) (lines xs)))) = rw e refl in
        ap lines bytes ∙ again ∙ ap (onto_line b) (rest (suc n)) ∙ sym cut

-- any byte but a line feed
abbrev pub no_feed : ℕ → Bool
no_feed b = not (eqb b 10)

no_feed_is : (b : ℕ) → no_feed b ≡ true → eqb b 10 ≡ false
no_feed_is b h = grind (arith, nat_tests)

-- bytes without a line feed, and then one, are a line
pub lines_whole : (x rest : List ℕ) → list_all no_feed x ≡ true → lines (x ++ 10 ∷ rest) ≡ (x ++ 10 ∷ []) ∷ lines rest
lines_whole [] rest h = refl
lines_whole (b ∷ x) rest h =
    let first = no_feed_is b (and_parts (no_feed b) (list_all no_feed x) h).0 in
    rw (first, lines_whole x rest (and_parts (no_feed b) (list_all no_feed x) h).1) refl
