-- What a witness says, and what it says that there is none.
use Rattle.std.proofs.Common.{◌≡◌, ℕ, zero, suc, ◌+◌, ◌<◌, ◌≤◌, Bool, true, false, cond, not, ltb, Option, Some, None, List, [], ◌∷◌, length, get_or, inl, inr, refl, sym, ap, ◌∙◌, arith}
use Rattle.std.specs.Prelude.{◌⊎◌, ◌&&◌, ◌||◌, is_some, is_none, position}
use Rattle.std.specs.List.{list_any, list_all, position_or_len}
use Rattle.std.proofs.lemmas.Bool.{cases_eq, cases_lt, lt-ltb, le-ltb}
use Rattle.std.proofs.lemmas.List.Folds.{list_any_none, list_any_at}
use Rattle.std.proofs.lemmas.List.Quantifiers.{position-Some}
use Rattle.std.proofs.lemmas.List.Sums.{fails_before_first, position_or_len_is}
use Rattle.hm_race_top.specs.Text.Laws.{lines_of}
use Rattle.hm_race_top.specs.declared.text.block.OutcomeBlock.{OutcomeBlock}
use Rattle.hm_race_top.specs.declared.text.conditions.condition.Quantifier.{Quantifier}
use Rattle.hm_race_top.specs.Text.Conditions.Meets.{meets}
use Rattle.hm_race_top.specs.Text.Conditions.Judged.{holds_for, decides_for, by_witness}
use Rattle.hm_race_top.specs.Text.Conditions.Laws.{HoldsByWitness}

-- ---- whether an item passes, and where the first stands

passes_none : {X : Type 0} (p : X → Bool) (xs : List X) → position p xs ≡ None → list_any p xs ≡ false
passes_none p xs e =
    elim (cases_lt (position_or_len p xs) (length xs)) [
      | inl lt ↦ let t = lt-ltb _ _ lt in let f : cond (ltb (position_or_len p xs) (length xs)) (Some (position_or_len p xs)) None ≡ None = e in absurd (let g = rw t at f in cc)
      | inr le ↦ list_any_none p xs (λ k d lt. fails_before_first p xs k d (omega arith))
    ]

pub any_is : (p : List ℕ → Bool) (xs : List (List ℕ)) → list_any p xs ≡ is_some (position p xs)
any_is p xs = by (position p xs) refl
  where
    by : (o : Option ℕ) → position p xs ≡ o → list_any p xs ≡ is_some o
    by None e = passes_none p xs e
    by (Some i) e = let h = position-Some p xs i [] e in list_any_at p xs i [] h.0 h.1

not_some : (o : Option ℕ) → not (is_some o) ≡ is_none o
not_some None = refl
not_some (Some i) = refl

pub all_is : (p : List ℕ → Bool) (xs : List (List ℕ)) → list_all p xs ≡ not (list_any (λ x. not (p x)) xs)
all_is p [] = refl
all_is p (x ∷ xs) = by (p x) (all_is p xs)
  where
    by : (t : Bool) → list_all p xs ≡ not (list_any (λ y. not (p y)) xs) → (t && list_all p xs) ≡ not (not t || list_any (λ y. not (p y)) xs)
    by true e = e
    by false e = refl

pub held_by : (q : Quantifier) (p : List ℕ → Bool) (xs : List (List ℕ)) → holds_for q p xs ≡ by_witness q (position (λ x. decides_for q (p x)) xs)
held_by Quantifier.Exists p xs = any_is p xs
held_by Quantifier.Never p xs = ap not (any_is p xs) ∙ not_some (position p xs)
held_by Quantifier.Always p xs = all_is p xs ∙ ap not (any_is (λ x. not (p x)) xs) ∙ not_some (position (λ x. not (p x)) xs)

pub holds_by_witness : HoldsByWitness
holds_by_witness k outcomes = held_by k.quantifier (meets k.body) outcomes

-- ---- the search of the first

-- none of the first items passes
abbrev pub NoneBefore : (List ℕ → Bool) → List (List ℕ) → ℕ → Type 0
NoneBefore p xs n = (k : ℕ) (d : List ℕ) → k < n → p (get_or xs k d) ≡ false

line_at : (bs : List OutcomeBlock) (i : ℕ) (b : OutcomeBlock) (d : List ℕ) → b ≡ get_or bs i b → i < length bs → get_or (lines_of bs) i d ≡ b.lines
line_at [] i b d is lt = absurd (omega arith)
line_at (x ∷ bs) zero b d is lt = ap (λ (y : OutcomeBlock). y.lines) (sym is)
line_at (x ∷ bs) (suc i) b d is lt = line_at bs i b d is (omega arith)

pub none_more : (p : List ℕ → Bool) (bs : List OutcomeBlock) (i : ℕ) (b : OutcomeBlock) → b ≡ get_or bs i b → i < length bs → p b.lines ≡ false → NoneBefore p (lines_of bs) i → NoneBefore p (lines_of bs) (i + 1)
none_more p bs i b is lt fails before k d below = by (cases_eq k i)
  where
    by : (k ≡ i) ⊎ (k ≡ i → ⊥) → p (get_or (lines_of bs) k d) ≡ false
    by (inl e) = ap (λ n. p (get_or (lines_of bs) n d)) e ∙ ap p (line_at bs i b d is lt) ∙ fails
    by (inr e) = before k d (omega arith)

lines_many : (bs : List OutcomeBlock) → length (lines_of bs) ≡ length bs
lines_many [] = refl
lines_many (b ∷ bs) = ap (λ n. suc n) (lines_many bs)

pub found_at : (p : List ℕ → Bool) (bs : List OutcomeBlock) (i : ℕ) (b : OutcomeBlock) → b ≡ get_or bs i b → i < length bs → p b.lines ≡ true → NoneBefore p (lines_of bs) i → Some i ≡ position p (lines_of bs)
found_at p bs i b is lt passes before =
    let n = lines_many bs in
    let within : i < length (lines_of bs) = omega (arith, n) in
    let first : position_or_len p (lines_of bs) ≡ i = position_or_len_is p (lines_of bs) i [] (omega arith) (λ k low. before k [] low) (λ low. ap p (line_at bs i b [] is lt) ∙ passes) in
    let t = lt-ltb i (length (lines_of bs)) within in
    sym (ap (λ k. cond (ltb k (length (lines_of bs))) (Some k) None) first ∙ ap (λ u. cond u (Some i) None) t)

pub found_none : (p : List ℕ → Bool) (bs : List OutcomeBlock) (i : ℕ) → length bs ≤ i → NoneBefore p (lines_of bs) i → None ≡ position p (lines_of bs)
found_none p bs i past before =
    let n = lines_many bs in
    let first : position_or_len p (lines_of bs) ≡ length (lines_of bs) = position_or_len_is p (lines_of bs) (length (lines_of bs)) [] (omega arith) (λ k low. before k [] (omega (arith, n))) (λ low. absurd (omega arith)) in
    let t = le-ltb (length (lines_of bs)) (length (lines_of bs)) (omega arith) in
    sym (ap (λ k. cond (ltb k (length (lines_of bs))) (Some k) None) first ∙ ap (λ u. cond u (Some (length (lines_of bs))) None) t)

-- an outcome that is listed passes
pub any_block : (p : List ℕ → Bool) (bs : List OutcomeBlock) (i : ℕ) (b : OutcomeBlock) → b ≡ get_or bs i b → i < length bs → p b.lines ≡ true → list_any p (lines_of bs) ≡ true
any_block p bs i b is lt passes =
    let n = lines_many bs in
    let within : i < length (lines_of bs) = omega (arith, n) in
    list_any_at p (lines_of bs) i [] within (ap p (line_at bs i b [] is lt) ∙ passes)
