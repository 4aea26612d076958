-- Texts that grow by one block, or by one actor's lines.
use Rattle.std.proofs.Common.{◌≡◌, ℕ, suc, ◌+◌, ◌<◌, ◌≤◌, List, [], ◌∷◌, ◌++◌, map, length, get_or, take, sym, ap, ◌∙◌, arith, append_assoc, append-nil, add-zero}
use Rattle.std.proofs.lemmas.List.{take_more, length-take-le, map-append, length-map}
use Rattle.hm_history.specs.Memory.Words.{numbers}
use Rattle.hm_history.specs.declared.Kind.{Kind}
use Rattle.hm_history.proofs.Numbers.{numbers_append, number_count}
use Rattle.hm_race_lines.specs.Answers.{actor_lines, lines_from, answer_lines}
use Rattle.hm_race_top.specs.Text.Text.{block_text, blocks_text}
use Rattle.hm_race_top.specs.declared.text.block.OutcomeBlock.{OutcomeBlock}

blocks_append : (n : ℕ) (xs ys : List OutcomeBlock) → blocks_text n (xs ++ ys) ≡ blocks_text n xs ++ blocks_text (n + length xs) ys
blocks_append n [] ys = ap (λ k. blocks_text k ys) (sym (add-zero n))
blocks_append n (x ∷ xs) ys =
    let more : (n + 1) + length xs ≡ n + suc (length xs) = omega arith in
    ap (λ (z : List ℕ). block_text n x ++ z) (blocks_append (n + 1) xs ys ∙ ap (λ k. blocks_text (n + 1) xs ++ blocks_text k ys) more)
    ∙ sym (append_assoc (block_text n x) (blocks_text (n + 1) xs) (blocks_text (n + suc (length xs)) ys))

pub one_block : (bs : List OutcomeBlock) (i : ℕ) (b : OutcomeBlock) (old text new : List ℕ) → i < length bs → b ≡ get_or bs i b → text ≡ old ++ blocks_text 1 (take i bs) → new ≡ text ++ block_text (i + 1) b → new ≡ old ++ blocks_text 1 (take (i + 1) bs)
one_block bs i b old text new below is so next =
    let le : i ≤ length bs = omega arith in
    let at : 1 + length (take i bs) ≡ i + 1 = omega (arith, length-take-le i bs le) in
    let front : take (i + 1) bs ≡ take i bs ++ b ∷ [] = take_more bs i b below ∙ ap (λ (x : OutcomeBlock). take i bs ++ x ∷ []) (sym is) in
    next ∙ ap (λ (z : List ℕ). z ++ block_text (i + 1) b) so ∙ append_assoc old (blocks_text 1 (take i bs)) (block_text (i + 1) b)
    ∙ ap (λ (z : List ℕ). old ++ z) (sym (ap (blocks_text 1) front ∙ blocks_append 1 (take i bs) (b ∷ []) ∙ ap (λ k. blocks_text 1 (take i bs) ++ blocks_text k (b ∷ [])) at
    ∙ ap (λ (z : List ℕ). blocks_text 1 (take i bs) ++ z) (append-nil (block_text (i + 1) b))))

lines_append : (a : ℕ) (xs ys : List (List Kind)) → lines_from a (xs ++ ys) ≡ lines_from a xs ++ lines_from (a + length xs) ys
lines_append a [] ys = ap (λ k. lines_from k ys) (sym (add-zero a))
lines_append a (x ∷ xs) ys =
    let more : (a + 1) + length xs ≡ a + suc (length xs) = omega arith in
    ap (λ (z : List ℕ). actor_lines a x ++ z) (lines_append (a + 1) xs ys ∙ ap (λ k. lines_from (a + 1) xs ++ lines_from k ys) more)
    ∙ sym (append_assoc (actor_lines a x) (lines_from (a + 1) xs) (lines_from (a + suc (length xs)) ys))

pub one_actor : (f : ℕ → List Kind) (k : ℕ) (ks : List Kind) (text new : List ℕ) → text ≡ answer_lines (map f (numbers 0 k)) → ks ≡ f k → new ≡ text ++ actor_lines k ks → new ≡ answer_lines (map f (numbers 0 (k + 1)))
one_actor f k ks text new so is next =
    let here : 0 + k ≡ k = omega arith in
    let at : 0 + length (map f (numbers 0 k)) ≡ k = omega (arith, length-map (numbers 0 k) f, number_count 0 k) in
    let all : map f (numbers 0 (k + 1)) ≡ map f (numbers 0 k) ++ f k ∷ [] =
    ap (λ (ns : List ℕ). map f ns) (numbers_append 0 k 1 ∙ ap (λ n. numbers 0 k ++ n ∷ []) here) ∙ map-append f (numbers 0 k) (k ∷ []) in
    next ∙ ap (λ (z : List ℕ). z ++ actor_lines k ks) so ∙ ap (λ (l : List Kind). answer_lines (map f (numbers 0 k)) ++ actor_lines k l) is
    ∙ sym (ap answer_lines all ∙ lines_append 0 (map f (numbers 0 k)) (f k ∷ []) ∙ ap (λ n. lines_from 0 (map f (numbers 0 k)) ++ lines_from n (f k ∷ [])) at
    ∙ ap (λ (z : List ℕ). lines_from 0 (map f (numbers 0 k)) ++ z) (append-nil (actor_lines k (f k))))
