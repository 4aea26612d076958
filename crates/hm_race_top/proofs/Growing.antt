-- How the text of what has been read grows.
use Rattle.std.proofs.Common.{◌≡◌, ℕ, List, [], ◌∷◌, ◌++◌, map, sym, ap, ◌∙◌, append_assoc, append-nil}
use Rattle.std.specs.Prelude.{codes}
use Rattle.std.specs.List.{flat_map}
use Rattle.std.proofs.lemmas.Grind.{flat_map-append}
use Rattle.hm_race_top.specs.declared.text.conditions.condition.Literal.{Literal}
use Rattle.hm_race_top.specs.Text.Conditions.Grammar.{joined, literal_text, all_text, body_text}
use Rattle.hm_race_top.specs.Text.Conditions.Reading.{ended_text, held_text}

-- ---- texts in a row

shifted : {X : Type 0} (f : X → List ℕ) (between : List ℕ) (xs : List X) (x : X) → flat_map (λ y. between ++ y) (map f (xs ++ x ∷ [])) ≡ between ++ (flat_map (λ y. f y ++ between) xs ++ f x)
shifted f between [] x = append-nil (between ++ f x)
shifted f between (y ∷ xs) x =
    let rest = flat_map (λ z. f z ++ between) xs in
    append_assoc between (f y) (flat_map (λ z. between ++ z) (map f (xs ++ x ∷ [])))
    ∙ ap (λ (z : List ℕ). between ++ (f y ++ z)) (shifted f between xs x)
    ∙ ap (λ (z : List ℕ). between ++ z) (sym (append_assoc (f y) between (rest ++ f x)) ∙ sym (append_assoc (f y ++ between) rest (f x)))

pub joined_last : {X : Type 0} (f : X → List ℕ) (between : List ℕ) (xs : List X) (x : X) → joined between (map f (xs ++ x ∷ [])) ≡ flat_map (λ y. f y ++ between) xs ++ f x
joined_last f between [] x = append-nil (f x)
joined_last f between (y ∷ xs) x =
    let rest = flat_map (λ z. f z ++ between) xs in
    ap (λ (z : List ℕ). f y ++ z) (shifted f between xs x) ∙ sym (append_assoc (f y) between (rest ++ f x)) ∙ sym (append_assoc (f y ++ between) rest (f x))

-- ---- one more word

pub tail_more : (e h o w : List ℕ) → e ++ (h ++ (o ++ w)) ≡ (e ++ (h ++ o)) ++ w
tail_more e h o w = ap (λ (z : List ℕ). e ++ z) (sym (append_assoc h o w)) ∙ sym (append_assoc e (h ++ o) w)

pub more_open : (e h o was w new : List ℕ) → o ≡ was → new ≡ was ++ w → e ++ (h ++ new) ≡ (e ++ (h ++ o)) ++ w
more_open e h o was w new is next = ap (λ (z : List ℕ). e ++ (h ++ z)) (next ∙ ap (λ (z : List ℕ). z ++ w) (sym is)) ∙ tail_more e h o w

pub and_more : (e w : List ℕ) (ls new : List Literal) (l : Literal) → new ≡ ls ++ l ∷ [] → w ≡ codes "and" → e ++ (held_text new ++ []) ≡ (e ++ (held_text ls ++ literal_text l)) ++ 32 ∷ w
and_more e w ls new l is word =
    let one : held_text (l ∷ []) ≡ literal_text l ++ codes " and" = append-nil (literal_text l ++ codes " and") in
    ap (λ (z : List ℕ). e ++ z) (append-nil (held_text new) ∙ ap held_text is ∙ flat_map-append (λ (k : Literal). literal_text k ++ codes " and") ls (l ∷ []) ∙ ap (λ (z : List ℕ). held_text ls ++ z) one)
    ∙ tail_more e (held_text ls) (literal_text l) (codes " and") ∙ ap (λ (z : List ℕ). (e ++ (held_text ls ++ literal_text l)) ++ 32 ∷ z) (sym word)

all_last : (ls new : List Literal) (l : Literal) → new ≡ ls ++ l ∷ [] → all_text new ≡ held_text ls ++ literal_text l
all_last ls new l is = ap all_text is ∙ joined_last literal_text (codes " and") ls l

pub or_more : (body all : List (List Literal)) (w : List ℕ) (ls new : List Literal) (l : Literal) → new ≡ ls ++ l ∷ [] → all ≡ body ++ new ∷ [] → w ≡ codes "or" → ended_text all ++ ([] ++ []) ≡ (ended_text body ++ (held_text ls ++ literal_text l)) ++ 32 ∷ w
or_more body all w ls new l is alls word =
    let one : ended_text (new ∷ []) ≡ (held_text ls ++ literal_text l) ++ codes " or" = append-nil (all_text new ++ codes " or") ∙ ap (λ (z : List ℕ). z ++ codes " or") (all_last ls new l is) in
    append-nil (ended_text all) ∙ ap ended_text alls ∙ flat_map-append (λ (ks : List Literal). all_text ks ++ codes " or") body (new ∷ []) ∙ ap (λ (z : List ℕ). ended_text body ++ z) one
    ∙ sym (append_assoc (ended_text body) (held_text ls ++ literal_text l) (codes " or")) ∙ ap (λ (z : List ℕ). (ended_text body ++ (held_text ls ++ literal_text l)) ++ 32 ∷ z) (sym word)

pub finished : (body all : List (List Literal)) (ls new : List Literal) (l : Literal) → new ≡ ls ++ l ∷ [] → all ≡ body ++ new ∷ [] → body_text all ≡ ended_text body ++ (held_text ls ++ literal_text l)
finished body all ls new l is alls = ap body_text alls ∙ joined_last all_text (codes " or") body new ∙ ap (λ (z : List ℕ). ended_text body ++ z) (all_last ls new l is)
