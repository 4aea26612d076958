-- The words of an answer, one after another.
use Rattle.std.proofs.Common.{◌≡◌, ℕ, ◌<◌, Bool, true, false, cond, Some, List, [], ◌∷◌, ◌++◌, length, take, refl, sym, ap, ◌∙◌, arith, append_assoc}
use Rattle.std.specs.Prelude.{◌&&◌, position}
use Rattle.std.specs.List.{list_all, onto_first}
use Rattle.std.proofs.lemmas.Bool.{and_from, and_parts}
use Rattle.std.proofs.lemmas.List.{get_or-take, length-take}
use Rattle.std.proofs.lemmas.List.Folds.{list_all-append}
use Rattle.std.proofs.lemmas.List.Quantifiers.{position-Some}
use Rattle.std.proofs.lemmas.List.Splits.{slice_split_none, length-slice_split}
use Rattle.hm_script.specs.Splitting.{split}
use Rattle.hm_script.proofs.Splits.{is_space}
use Rattle.hm_race_top.specs.declared.text.conditions.condition.Literal.{Literal}
use Rattle.hm_race_top.specs.declared.text.conditions.words.Place.{Place}
use Rattle.hm_race_top.specs.declared.text.conditions.reading.Reading.{Reading}
use Rattle.hm_race_top.specs.Text.Conditions.Grammar.{word_kind, goes_on, begins, has_more, is_front, is_answer, are_plain, is_plain}
use Rattle.hm_race_top.specs.Text.Conditions.Reading.{line_stands, stands}

-- ---- one word

pub word_alone : (xs : List ℕ) (i : ℕ) → position is_space xs ≡ Some i → split (take i xs) ≡ take i xs ∷ []
word_alone xs i e =
    let h = position-Some is_space xs i 0 e in
    slice_split_none is_space (take i xs) (λ k d lt.
    let low : k < i = omega (arith, lt, length-take i xs) in
    ap is_space (get_or-take i xs k d low) ∙ (position-Some is_space xs i d e).2 k low)

-- ---- one word more

pub split_more : (line word : List ℕ) → split word ≡ word ∷ [] → split (line ++ 32 ∷ word) ≡ split line ++ word ∷ []
split_more [] word alone = ap (λ (z : List (List ℕ)). [] ∷ z) alone
split_more (b ∷ line) word alone = by (is_space b) (split line) refl (split_more line word alone)
  where
    by : (t : Bool) (parts : List (List ℕ)) → split line ≡ parts → split (line ++ 32 ∷ word) ≡ split line ++ word ∷ []
        → cond t ([] ∷ split (line ++ 32 ∷ word)) (onto_first b (split (line ++ 32 ∷ word))) ≡ cond t ([] ∷ split line) (onto_first b (split line)) ++ word ∷ []
    by true parts e rest = ap (λ (z : List (List ℕ)). [] ∷ z) rest
    by false [] e rest = absurd (omega (arith, ap length e, length-slice_split is_space line))
    by false (p ∷ parts) e rest = ap (onto_first b) (rest ∙ ap (λ (z : List (List ℕ)). z ++ word ∷ []) e) ∙ ap (λ (z : List (List ℕ)). onto_first b z ++ word ∷ []) (sym e)

begins_more : (ws : List (List ℕ)) (w : List ℕ) → begins ws ≡ true → begins (ws ++ w ∷ []) ≡ true
begins_more [] w h = absurd cc
begins_more (v ∷ ws) w h = h

more_of : (ws : List (List ℕ)) (w : List ℕ) → begins ws ≡ true → has_more (ws ++ w ∷ []) ≡ true
more_of [] w h = absurd cc
more_of (v ∷ []) w h = refl
more_of (v ∷ u ∷ ws) w h = refl

front_more : (ws : List (List ℕ)) (w : List ℕ) → is_front ws ≡ true → goes_on (word_kind w) ≡ true → is_answer (ws ++ w ∷ []) ≡ true
front_more ws w front goes =
    let h = and_parts _ _ front in
    let rest : list_all (λ v. goes_on (word_kind v)) (ws ++ w ∷ []) ≡ true = list_all-append (λ v. goes_on (word_kind v)) ws (w ∷ []) ∙ and_from _ _ h.1 (and_from _ _ goes refl) in
    and_from _ _ (more_of ws w h.0) (and_from _ _ (begins_more ws w h.0) rest)

pub longer_answer : (line new word : List ℕ) → new ≡ (line ++ 32 ∷ []) ++ word → split word ≡ word ∷ [] → is_front (split line) ≡ true → goes_on (word_kind word) ≡ true → is_answer (split new) ≡ true
longer_answer line new word is alone front goes =
    ap (λ (z : List ℕ). is_answer (split z)) (is ∙ append_assoc line (32 ∷ []) word) ∙ ap is_answer (split_more line word alone) ∙ front_more (split line) word front goes

-- ---- what has been read

pub kept : (a b c d : Bool) → (a && (b && c)) ≡ true → d ≡ true → (a && (b && d)) ≡ true
kept a b c d h e = let f = and_parts _ _ h in and_from _ _ f.0 (and_from _ _ (and_parts _ _ f.1).0 e)

pub line_of : (r : Reading) (p : Place) → stands r ≡ true → r.place ≡ p → line_stands p r.line ≡ true
line_of r p h e = ap (λ (q : Place). line_stands q r.line) (sym e) ∙ (and_parts _ _ (and_parts _ _ h).1).1

pub inside_front : (r : Reading) → stands r ≡ true → r.place ≡ Place.Inside → is_front (split r.line) ≡ true
inside_front r h e = (and_parts _ _ (line_of r Place.Inside h e)).1

pub more_plain : (r : Reading) (new : List Literal) (l : Literal) → stands r ≡ true → r.place ≡ Place.Inside → l.line ≡ r.line → new ≡ r.literals ++ l ∷ [] → are_plain new ≡ true
more_plain r new l h e same is =
    ap are_plain is ∙ list_all-append (λ (k : Literal). is_answer (split k.line)) r.literals (l ∷ [])
    ∙ and_from _ _ (and_parts _ _ (and_parts _ _ h).1).0 (and_from _ _ (ap (λ (z : List ℕ). is_answer (split z)) same ∙ line_of r Place.Inside h e) refl)

pub body_plain : (r : Reading) (all : List (List Literal)) (new : List Literal) → stands r ≡ true → are_plain new ≡ true → all ≡ r.body ++ new ∷ [] → is_plain all ≡ true
body_plain r all new h e is =
    ap is_plain is ∙ list_all-append are_plain r.body (new ∷ []) ∙ and_from _ _ (and_parts _ _ h).0 (and_from _ _ e refl)

pub and_plain : (r : Reading) (new : List Literal) → stands r ≡ true → are_plain new ≡ true → (is_plain r.body && (are_plain new && true)) ≡ true
and_plain r new h e = and_from _ _ (and_parts _ _ h).0 (and_from _ _ e refl)

pub or_plain : (all : List (List Literal)) (none_yet : List Literal) → none_yet ≡ [] → is_plain all ≡ true → (is_plain all && (are_plain none_yet && true)) ≡ true
or_plain all none_yet is e = and_from _ _ e (and_from _ _ (ap are_plain is) refl)
