-- When a line is a text and a line feed.
use Rattle.std.proofs.Common.{◌≡◌, ℕ, Bool, true, false, List, [], ◌∷◌, ◌++◌, refl, sym, ap, ◌∙◌}
use Rattle.std.specs.Str.{bytes_eq}
use Rattle.std.proofs.lemmas.Bool.Decides.{same_from_decides, Decides-at}
use Rattle.std.proofs.lemmas.List.{append_cancel_right}
use Rattle.std.proofs.lemmas.Slice.Eq.{bytes_eq-Decides}
use Rattle.hm_race_top.specs.Text.Conditions.Meets.{is_ended}

pub ended_same : (line text front : List ℕ) (r : Bool) → line ≡ front ++ 10 ∷ [] → r ≡ bytes_eq front text → r ≡ is_ended text line
ended_same line text front r is e =
    let d = bytes_eq-Decides line (text ++ 10 ∷ []) in
    same_from_decides r (is_ended text line) (Decides-at r (bytes_eq front text) e (bytes_eq-Decides front text))
    (λ t. append_cancel_right front text (10 ∷ []) (sym is ∙ d.0 t), λ (s : front ≡ text). d.1 (is ∙ ap (λ (z : List ℕ). z ++ 10 ∷ []) s))

pub not_ended : (line text : List ℕ) → ((front : List ℕ) → line ≡ front ++ 10 ∷ [] → ⊥) → false ≡ is_ended text line
not_ended line text other = by (is_ended text line) refl
  where
    by : (t : Bool) → is_ended text line ≡ t → false ≡ t
    by true e = absurd (other text ((bytes_eq-Decides line (text ++ 10 ∷ [])).0 e))
    by false e = refl
