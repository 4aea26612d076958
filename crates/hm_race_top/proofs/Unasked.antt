-- No outcome has a line that no operation of the script may end with.
use Rattle.std.proofs.Common.{◌≡◌, ℕ, ◌+◌, ◌<◌, ◌≤◌, ◌⊎◌, inl, inr, Bool, true, false, cond, ltb, ◌||◌, Some, None, List, [], ◌∷◌, ◌++◌, length, get_or, refl, sym, ap, ◌∙◌, arith}
use Rattle.std.specs.Prelude.{position}
use Rattle.std.specs.List.{list_any, position_or_len}
use Rattle.std.proofs.lemmas.Bool.{cases_eq, le-ltb, lt-ltb}
use Rattle.std.proofs.lemmas.List.{get_or_default}
use Rattle.std.proofs.lemmas.List.Sums.{position_or_len_is}
use Rattle.std.specs.Str.{bytes_eq}
use Rattle.std.proofs.lemmas.Slice.Eq.{bytes_eq-Decides}
use Rattle.hm_base.specs.Program.{Program, IsScript}
use Rattle.hm_history.proofs.Tests.{true_false}
use Rattle.hm_race_laws.specs.Closed.{IsListed}
use Rattle.hm_race_lines.proofs.Outcomes.{lines_may_end}
use Rattle.hm_race_lines.specs.Endings.{may_end_with}
use Rattle.hm_race_top.specs.Text.Conditions.Asking.{NoneHas}
use Rattle.hm_race_top.specs.Text.Conditions.Laws.{outcome_lines}
use Rattle.hm_race_top.specs.Text.Conditions.Meets.{has_line, is_ended}
use Rattle.hm_script.specs.Automaton.{lines}

-- ---- the first item that passes

-- none of the first items passes
abbrev pub NoneSo : {X : Type 0} → (X → Bool) → List X → ℕ → Type 0
NoneSo {X} p xs n = (k : ℕ) (d : X) → k < n → p (get_or xs k d) ≡ false

pub none_more : {X : Type 0} (p : X → Bool) (xs : List X) (i : ℕ) (x : X) → x ≡ get_or xs i x → i < length xs → p x ≡ false → NoneSo p xs i → NoneSo p xs (i + 1)
none_more p xs i x is lt fails before k d below = by (cases_eq k i)
  where
    by : (k ≡ i) ⊎ (k ≡ i → ⊥) → p (get_or xs k d) ≡ false
    by (inl e) = ap (λ n. p (get_or xs n d)) e ∙ ap p (get_or_default xs i d x lt ∙ sym is) ∙ fails
    by (inr e) = before k d (omega arith)

pub first_at : {X : Type 0} (p : X → Bool) (xs : List X) (i : ℕ) (x : X) → x ≡ get_or xs i x → i < length xs → p x ≡ true → NoneSo p xs i → Some i ≡ position p xs
first_at p xs i x is lt passes before =
    let first : position_or_len p xs ≡ i = position_or_len_is p xs i x (omega arith) (λ k low. before k x low) (λ low. ap p (sym is) ∙ passes) in
    let t = lt-ltb i (length xs) lt in
    sym (ap (λ k. cond (ltb k (length xs)) (Some k) None) first ∙ ap (λ u. cond u (Some i) None) t)

pub first_none : {X : Type 0} (p : X → Bool) (xs : List X) (i : ℕ) → length xs ≤ i → NoneSo p xs i → None ≡ position p xs
first_none p [] i past before = refl
first_none p (x ∷ xs) i past before =
    let first : position_or_len p (x ∷ xs) ≡ length (x ∷ xs) = position_or_len_is p (x ∷ xs) (length (x ∷ xs)) x (omega arith) (λ k low. before k x (omega arith)) (λ low. absurd (omega arith)) in
    let t = le-ltb (length (x ∷ xs)) (length (x ∷ xs)) (omega arith) in
    sym (ap (λ k. cond (ltb k (length (x ∷ xs))) (Some k) None) first ∙ ap (λ u. cond u (Some (length (x ∷ xs))) None) t)

-- ---- lines

same_bytes : (x y : List ℕ) → bytes_eq x y ≡ true → x ≡ y
same_bytes x y h = (bytes_eq-Decides x y).0 h

listed : (y : List ℕ) (ls : List (List ℕ)) → list_any (is_ended y) ls ≡ true → IsListed ls (y ++ 10 ∷ [])
listed y [] h = absurd cc
listed y (l ∷ ls) h = by (listed y ls) (is_ended y l) refl h
  where
    by : (list_any (is_ended y) ls ≡ true → IsListed ls (y ++ 10 ∷ [])) → (t : Bool) → is_ended y l ≡ t → (t || list_any (is_ended y) ls) ≡ true → IsListed (l ∷ ls) (y ++ 10 ∷ [])
    by rest true e k = inl (same_bytes l (y ++ 10 ∷ []) e)
    by rest false e k = inr (rest k)

pub none_has : (c : Program) → IsScript c → NoneHas c
none_has c sc line never es ends = by (has_line (outcome_lines c es) line) refl
  where
    by : (b : Bool) → has_line (outcome_lines c es) line ≡ b → b ≡ false
    by false e = refl
    by true e = absurd (true_false (may_end_with c line) (lines_may_end c sc es ends.due line (listed line (lines (outcome_lines c es)) e)) never)
