-- The line of an entry begins with a digit.
use Rattle.std.proofs.Common.{◌≡◌, ℕ, zero, suc, ◌/◌, ◌%◌, ◌<◌, Bool, true, false, cond, eqb, ltb, List, [], ◌∷◌, ◌++◌, length, get_or, refl, arith, append_assoc}
use Rattle.std.specs.List.{list_all, join_with_byte}
use Rattle.std.specs.Fmt.{decimal, digits, digits_onto, digit_glyph}
use Rattle.std.proofs.lemmas.Bool.{and_parts}
use Rattle.std.proofs.lemmas.Bool.Decides.{nat_tests}
use Rattle.hm_history.specs.declared.Entry.{Entry}
use Rattle.hm_report.specs.Words.{actor_text, kind_words}
use Rattle.hm_report.specs.Report.{entry_line}

abbrev is_low : ℕ → Bool
is_low b = ltb b 58

low_glyph : (d : ℕ) → d < 10 → is_low (digit_glyph false d) ≡ true
low_glyph d lt = grind (arith, nat_tests)

-- digits, at least one
abbrev AreLow : List ℕ → Type 0
AreLow w = (0 < length w) × (list_all is_low w ≡ true)

chosen : (t : Bool) (x y : List ℕ) → AreLow x → AreLow y → AreLow (cond t x y)
chosen true x y h k = h
chosen false x y h k = k

low_more : (n : ℕ) (w : List ℕ) → list_all is_low w ≡ true → AreLow (digit_glyph false (n % 10) ∷ w)
low_more n w h = let lt : n % 10 < 10 = omega arith in (omega arith, rw (low_glyph (n % 10) lt, h) refl)

onto_low : (k n : ℕ) (w : List ℕ) → AreLow w → AreLow (digits_onto k 10 false n w)
onto_low zero n w h = h
onto_low (suc k) n w h =
    let more = low_more n w h.1 in
    chosen (eqb (n / 10) 0) _ _ more (onto_low k (n / 10) (digit_glyph false (n % 10) ∷ w) more)

decimal_low : (n : ℕ) → AreLow (decimal n)
unfolding digits
decimal_low n =
    let more = low_more n [] refl in
    chosen (eqb (n / 10) 0) _ _ more (onto_low 63 (n / 10) (digit_glyph false (n % 10) ∷ []) more)

first_low : (w rest : List ℕ) → AreLow w → get_or (w ++ rest) 0 0 < 58
first_low [] rest h = absurd (omega (arith, h.0))
first_low (b ∷ w) rest h = let low = (and_parts (is_low b) (list_all is_low w) h.1).0 in grind (arith, nat_tests)

pub entry_first : (at : ℕ) (e : Entry) → get_or (entry_line at e) 0 0 < 58
entry_first at e =
    let whole : entry_line at e ≡ decimal at ++ ((32 ∷ join_with_byte 32 (actor_text e.actor ∷ kind_words e.kind)) ++ 10 ∷ []) = append_assoc (decimal at) (32 ∷ join_with_byte 32 (actor_text e.actor ∷ kind_words e.kind)) (10 ∷ []) in
    rw whole (first_low (decimal at) ((32 ∷ join_with_byte 32 (actor_text e.actor ∷ kind_words e.kind)) ++ 10 ∷ []) (decimal_low at))
