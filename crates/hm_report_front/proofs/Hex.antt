-- Digits of bytes one by one.
use Rattle.std.proofs.Common.{◌≡◌, ◌↔◌, ℕ, suc, ◌<◌, Bool, false, List, [], ◌∷◌, ◌++◌, length, get_or, take, drop, sym, ap, ◌∙◌, append_assoc}
use Rattle.std.specs.Prelude.{IsTrue}
use Rattle.std.specs.Str.{bytes_eq}
use Rattle.std.proofs.Math.Seq.{drop-cons}
use Rattle.std.proofs.lemmas.Slice.Eq.{slice_eq-Decides}
use Rattle.std.proofs.lemmas.Bool.Decides.{Decides-eqb}
use Rattle.std.proofs.lemmas.List.{append_cancel_left}
use Rattle.hm_script.specs.Spelling.{hex_text}
use Rattle.std.specs.Fmt.{decimal}
use Rattle.std.proofs.lemmas.Bool.{false≢true}
use Rattle.hm_history.specs.declared.Entry.{Entry}
use Rattle.hm_report.specs.Words.{byte_text, actor_text, head_words, tail_text}
use Rattle.hm_report.specs.Line.{spaced}
use Rattle.hm_report.specs.Report.{entry_line}
use Rattle.hm_report.proofs.Lines.{entry_split}
use Rattle.hm_report.proofs.Fronts.{hex_split}

-- where the text does not go on with a byte's digits, it is not that of all bytes
pub hex_stops : (bytes rest text more : List ℕ) (i : ℕ) → i < length bytes → text ≡ hex_text (take i bytes) ++ rest → ((z : List ℕ) → rest ≡ byte_text (get_or bytes i 0) ++ z → ⊥) → text ≡ hex_text bytes ++ more → ⊥
hex_stops bytes rest text more i lt front stops whole =
    let after : List ℕ = hex_text (drop (suc i) bytes) ++ more in
    let next : hex_text (drop i bytes) ≡ byte_text (get_or bytes i 0) ++ hex_text (drop (suc i) bytes) = ap hex_text (drop-cons bytes i 0 lt) in
    let split : hex_text bytes ++ more ≡ hex_text (take i bytes) ++ (byte_text (get_or bytes i 0) ++ after) =
    ap (λ (z : List ℕ). z ++ more) (sym (hex_split bytes i) ∙ ap (λ (z : List ℕ). hex_text (take i bytes) ++ z) next) ∙ append_assoc (hex_text (take i bytes)) (byte_text (get_or bytes i 0) ++ hex_text (drop (suc i) bytes)) more ∙ ap (λ (z : List ℕ). hex_text (take i bytes) ++ z) (append_assoc (byte_text (get_or bytes i 0)) (hex_text (drop (suc i) bytes)) more) in
    stops after (append_cancel_left (hex_text (take i bytes)) rest (byte_text (get_or bytes i 0) ++ after) (sym front ∙ whole ∙ split))

-- a space, the digits, and what is tested to be a line feed
pub hex_end : (text digits rest bytes feed : List ℕ) (r : Bool) → feed ≡ 10 ∷ [] → text ≡ (32 ∷ []) ++ digits → digits ≡ hex_text bytes ++ rest → r ≡ bytes_eq rest feed → IsTrue r ↔ text ≡ (32 ∷ hex_text bytes) ++ 10 ∷ []
hex_end text digits rest bytes feed r is front back test =
    let d = slice_eq-Decides Decides-eqb rest feed r test in
    let whole : text ≡ 32 ∷ (hex_text bytes ++ rest) = front ∙ ap (λ (z : List ℕ). 32 ∷ z) back in (
      (λ t. whole ∙ ap (λ (z : List ℕ). 32 ∷ (hex_text bytes ++ z)) (d.0 t ∙ is)),
      (λ e. d.1 (append_cancel_left (32 ∷ hex_text bytes) rest (10 ∷ []) (sym whole ∙ e) ∙ sym is)),
    )

-- what an entry's line begins with
abbrev pub entry_front : ℕ → Entry → List ℕ
entry_front at e = decimal at ++ spaced (actor_text e.actor ∷ head_words e.kind)

pub line_ends : (line front end : List ℕ) (at : ℕ) (e : Entry) (r : Bool) → front ≡ entry_front at e → line ≡ front ++ end → IsTrue r ↔ end ≡ tail_text e.kind ++ 10 ∷ [] → IsTrue r ↔ line ≡ entry_line at e
line_ends line front end at e r begins parts ends =
    let split : entry_line at e ≡ front ++ (tail_text e.kind ++ 10 ∷ []) = entry_split at e ∙ ap (λ (z : List ℕ). z ++ (tail_text e.kind ++ 10 ∷ [])) (sym begins) in
    ((λ t. parts ∙ ap (λ (z : List ℕ). front ++ z) (ends.0 t) ∙ sym split), (λ is. ends.1 (append_cancel_left front end (tail_text e.kind ++ 10 ∷ []) (sym parts ∙ is ∙ split))))

pub line_begins : (line front : List ℕ) (at : ℕ) (e : Entry) → front ≡ entry_front at e → ((rest : List ℕ) → line ≡ front ++ rest → ⊥) → IsTrue false ↔ line ≡ entry_line at e
line_begins line front at e begins stops =
    let split : entry_line at e ≡ front ++ (tail_text e.kind ++ 10 ∷ []) = entry_split at e ∙ ap (λ (z : List ℕ). z ++ (tail_text e.kind ++ 10 ∷ [])) (sym begins) in
    ((λ t. absurd (false≢true t)), (λ is. absurd (stops (tail_text e.kind ++ 10 ∷ []) (is ∙ split))))
