-- The front of a buffer, and digits of bytes one by one.
use Rattle.std.proofs.Common.{◌≡◌, ℕ, ◌+◌, ◌-◌, ◌≤◌, ◌<◌, List, [], ◌∷◌, ◌++◌, length, get_or, take, drop, zero-add, sym, ap, ◌∙◌, arith}
use Rattle.std.specs.List.{copy_within}
use Rattle.std.proofs.lemmas.List.{take-append-drop, drop-take, take_more, length-drop}
use Rattle.std.proofs.lemmas.List.Edits.{take-paste}
use Rattle.std.proofs.lemmas.Grind.{flat_map-append}
use Rattle.hm_script.specs.Spelling.{hex_text}
use Rattle.hm_report.specs.Words.{byte_text}

-- what was moved to the front is what was behind
pub shift_front : (xs : List ℕ) (k len : ℕ) → k ≤ len → len ≤ length xs → take (len - k) (copy_within xs k len 0) ≡ drop k (take len xs)
shift_front xs k len least within =
    let n = len - k in
    let fits : n ≤ length (drop k xs) = omega (arith, length-drop k xs) in
    let all : k + n ≡ len = omega arith in
    ap (λ m. take m (copy_within xs k len 0)) (sym (zero-add n)) ∙ take-paste xs 0 (drop k xs) n (omega arith) fits ∙ sym (drop-take k n xs) ∙ ap (λ m. drop k (take m xs)) all

pub hex_more : (bytes : List ℕ) (i : ℕ) → i < length bytes → hex_text (take (i + 1) bytes) ≡ hex_text (take i bytes) ++ byte_text (get_or bytes i 0)
hex_more bytes i lt = ap hex_text (take_more bytes i 0 lt) ∙ flat_map-append byte_text (take i bytes) (get_or bytes i 0 ∷ [])

pub hex_split : (bytes : List ℕ) (i : ℕ) → hex_text (take i bytes) ++ hex_text (drop i bytes) ≡ hex_text bytes
hex_split bytes i = sym (flat_map-append byte_text (take i bytes) (drop i bytes)) ∙ ap hex_text (take-append-drop i bytes)
