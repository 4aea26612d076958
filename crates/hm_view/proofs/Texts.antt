-- Texts that grow by one piece at a time.
use Rattle.std.proofs.Common.{◌≡◌, ℕ, suc, ◌+◌, ◌<◌, Option, Some, None, List, [], ◌∷◌, ◌++◌, length, get_or, take, sym, ap, ◌∙◌, subst, arith, append_assoc, append-nil}
use Rattle.std.specs.Prelude.{nat_le}
use Rattle.std.specs.List.{flat_map}
use Rattle.std.proofs.lemmas.Grind.{flat_map-append}
use Rattle.std.proofs.lemmas.Option.{slice_get-get_or}
use Rattle.hm_base.specs.Program.{Program}
use Rattle.hm_history.specs.Memory.Words.{numbers}
use Rattle.hm_history.specs.declared.Entry.{Entry}
use Rattle.hm_history.proofs.Numbers.{numbers_append}
use Rattle.hm_view.specs.Changes.{change_line, change_lines}
use Rattle.hm_view.specs.Shown.{Change}
use Rattle.hm_view.specs.Rows.{row, row_at, rows, finding, finding_at, findings}

-- the lines of changes and of others after them
pub lines_append : (xs ys : List Change) → change_lines (xs ++ ys) ≡ change_lines xs ++ change_lines ys
lines_append xs ys = flat_map-append change_line xs ys

-- one number more
numbers_more : (n : ℕ) → numbers 0 (n + 1) ≡ numbers 0 n ++ n ∷ []
numbers_more n = numbers_append 0 n 1 ∙ ap (λ k. numbers 0 n ++ k ∷ []) here
  where
    here : 0 + n ≡ n
    here = omega arith

-- the piece of one number more
pub one_piece : (f : ℕ → List ℕ) (old text new : List ℕ) (n : ℕ) → text ≡ old ++ flat_map f (numbers 0 n) → new ≡ text ++ f n → new ≡ old ++ flat_map f (numbers 0 (n + 1))
one_piece f old text new n so next =
    next ∙ ap (λ (xs : List ℕ). xs ++ f n) so ∙ append_assoc old (flat_map f (numbers 0 n)) (f n)
    ∙ ap (λ (xs : List ℕ). old ++ xs) (sym more)
  where
    more : flat_map f (numbers 0 (n + 1)) ≡ flat_map f (numbers 0 n) ++ f n
    more = ap (flat_map f) (numbers_more n) ∙ flat_map-append f (numbers 0 n) (n ∷ []) ∙ ap (λ (xs : List ℕ). flat_map f (numbers 0 n) ++ xs) (append-nil (f n))

-- one more behind what was added
grows : (old text here more new : List ℕ) → text ≡ old ++ here → new ≡ text ++ more → new ≡ old ++ (here ++ more)
grows old text here more new so next = next ∙ ap (λ (xs : List ℕ). xs ++ more) so ∙ append_assoc old here more

-- the finding of one entry more
pub one_finding : (h : List Entry) (i : ℕ) (e : Entry) (old text new : List ℕ) → i < length h → e ≡ get_or h i e → text ≡ old ++ findings h i → new ≡ text ++ finding i e → new ≡ old ++ findings h (i + 1)
one_finding h i e old text new below same so next =
    subst (λ k. new ≡ old ++ findings h k) one
    (grows old text (findings h i) (finding_at h i) new so (next ∙ ap (λ (y : Entry). text ++ finding i y) same ∙ ap (λ (xs : List ℕ). text ++ xs) (sym is)))
  where
    one : suc i ≡ i + 1
    one = omega arith

    is : finding_at h i ≡ finding i (get_or h i e)
    is = ap (λ (y : Option Entry). elim y as (λ _. List ℕ) [ None ↦ [] | Some e ↦ finding i e ]) (slice_get-get_or h i e below)

-- the row of one entry more
pub one_row : (c : Program) (h : List Entry) (from i : ℕ) (d : Entry) (old text new : List ℕ) → i < length h → text ≡ old ++ rows c h from i → new ≡ text ++ row c (take i h) (nat_le from i) (get_or h i d) → new ≡ old ++ rows c h from (i + 1)
one_row c h from i d old text new below so next =
    subst (λ k. new ≡ old ++ rows c h from k) one
    (grows old text (rows c h from i) (row_at c h from i) new so (next ∙ ap (λ (xs : List ℕ). text ++ xs) (sym is)))
  where
    one : suc i ≡ i + 1
    one = omega arith

    is : row_at c h from i ≡ row c (take i h) (nat_le from i) (get_or h i d)
    is = ap (λ (y : Option Entry). elim y as (λ _. List ℕ) [ None ↦ [] | Some e ↦ row c (take i h) (nat_le from i) e ]) (slice_get-get_or h i d below)
