-- Where a byte stands first; and a line that has not the text of what its words tell.
use Rattle.std.proofs.Common.{◌≡◌, ℕ, Bool, true, false, not, cond, ltb, List, [], ◌∷◌, ◌++◌, Option, Some, None, Ok, Err, length, refl, sym, ◌∙◌, arith}
use Rattle.std.specs.List.{position, position_or_len}
use Rattle.std.specs.Str.{bytes_eq}
use Rattle.std.proofs.lemmas.Bool.{false≢true}
use Rattle.std.proofs.lemmas.Bool.Decides.{nat_tests}
use Rattle.std.proofs.lemmas.List.{append_cancel_right}
use Rattle.std.proofs.lemmas.List.Sums.{prefix_len-le-length}
use Rattle.std.proofs.lemmas.Slice.Eq.{bytes_eq-Decides}
use Rattle.hm_script.specs.declared.reason.Reason.{Reason}
use Rattle.hm_trace.specs.Lines.{is_ended, line_at, line_text, text_of, told_by}
use Rattle.hm_trace.specs.declared.line.TraceLine.{TraceLine}

pub some_place : (p : ℕ → Bool) (xs : List ℕ) (i : ℕ) → Some i ≡ position p xs → i ≡ position_or_len p xs
some_place p xs i e = by (ltb (position_or_len p xs) (length xs)) e
  where
    by : (b : Bool) → Some i ≡ cond b (Some (position_or_len p xs)) None → i ≡ position_or_len p xs
    by true e = cc
    by false e = absurd cc

abbrev none : Option ℕ
none = None

pub no_place : (p : ℕ → Bool) (xs : List ℕ) → none ≡ position p xs → length xs ≡ position_or_len p xs
no_place p xs e = by (ltb (position_or_len p xs) (length xs)) refl e
  where
    by : (b : Bool) → ltb (position_or_len p xs) (length xs) ≡ b → none ≡ cond b (Some (position_or_len p xs)) None → length xs ≡ position_or_len p xs
    by true lt e = absurd cc
    by false lt e = grind (arith, nat_tests, prefix_len-le-length (λ x. not (p x)) xs)

differs : (t front x : List ℕ) → front ++ 10 ∷ [] ≡ x → bytes_eq t front ≡ false → bytes_eq (t ++ 10 ∷ []) x ≡ false
differs t front x made other = by (bytes_eq (t ++ 10 ∷ []) x) refl
  where
    by : (b : Bool) → bytes_eq (t ++ 10 ∷ []) x ≡ b → bytes_eq (t ++ 10 ∷ []) x ≡ false
    by false e = e
    by true e =
        let same : t ≡ front = append_cancel_right t front (10 ∷ []) ((bytes_eq-Decides (t ++ 10 ∷ []) x).0 e ∙ sym made) in
        absurd (false≢true (sym other ∙ (bytes_eq-Decides t front).1 same))

pub refused_shape : (l : List ℕ) (x : TraceLine) (front : List ℕ) → is_ended l ≡ true → told_by (text_of l) ≡ Ok x → front ++ 10 ∷ [] ≡ line_text x → bytes_eq (text_of l) front ≡ false → line_at l ≡ Err Reason.Shape
unfolding line_at
refused_shape l x front ended told made other = rw (ended, told, differs (text_of l) front (line_text x) made other) refl
