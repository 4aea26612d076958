-- Texts that begin with some bytes, and digits.
use Rattle.std.proofs.Common.{◌≡◌, ℕ, zero, suc, ◌+◌, ◌*◌, ◌/◌, ◌%◌, ◌≤◌, ◌<◌, Bool, true, false, not, cond, eqb, ◌==◌, ◌&&◌, ◌||◌, if◌then◌else◌, nat_lt, MatchOption, Option, Some, None, Bor, List, [], ◌∷◌, ◌++◌, length, refl, sym, ap, ◌∙◌, subst, arith, eq-eqb, eqb-true}
use Rattle.std.specs.Fmt.{decimal, digits, digits_onto, digit_glyph}
use Rattle.std.specs.List.{list_all}
use Rattle.std.proofs.lemmas.Bool.{and_from, and_parts, or_left}
use Rattle.std.proofs.lemmas.List.Folds.{list_all-append}
use Rattle.std.proofs.lemmas.Bool.Decides.{nat_tests}
use Rattle.hm_report.specs.Words.{byte_text}
use Rattle.hm_script.specs.Spelling.{hex_text}
use Rattle.hm_race_lines.specs.Endings.{are_numbers, begins_with, is_bytes, is_digit, is_figure, is_number, rest_after, rest_passes}

-- ---- fronts

pub rest_of : (head rest : List ℕ) → rest_after head (head ++ rest) ≡ Some rest
rest_of [] rest = refl
rest_of (b ∷ head) rest = rw (eq-eqb b b refl) (rest_of head rest)

came_from : (head text rest : List ℕ) → rest_after head text ≡ Some rest → text ≡ head ++ rest
came_from [] text rest e = cc
came_from (b ∷ head) [] rest e = cc
came_from (b ∷ head) (x ∷ text) rest e = by (came_from head text rest) (eqb b x) refl e
  where
    by : (rest_after head text ≡ Some rest → text ≡ head ++ rest) → (t : Bool) → eqb b x ≡ t → (if t then rest_after head text else None) ≡ Some rest → x ∷ text ≡ b ∷ (head ++ rest)
    by ih true q e = let is : b ≡ x = eqb-true b x q in let same : text ≡ head ++ rest = ih e in cc
    by ih false q e = cc

-- what is known of a rest says what it is
pub rest_is : (head text : List ℕ) (r : Option (Bor (List ℕ))) → MatchOption r ((rest : List ℕ) → ¬ (text ≡ head ++ rest)) (λ rest. text ≡ head ++ rest.now)
    → MatchOption r (rest_after head text ≡ None) (λ rest. rest_after head text ≡ Some rest.now)
rest_is head text None h = by (rest_after head text) refl
  where
    by : (x : Option (List ℕ)) → rest_after head text ≡ x → x ≡ None
    by None e = refl
    by (Some rest) e = absurd (h rest (came_from head text rest e))
rest_is head text (Some rest) h = subst (λ t. rest_after head t ≡ Some rest.now) (sym h) (rest_of head rest.now)

pub begins : (head rest : List ℕ) (test : List ℕ → Bool) → test rest ≡ true → begins_with head test (head ++ rest) ≡ true
begins head rest test h = ap (rest_passes test) (rest_of head rest) ∙ h

-- ---- digits

pub glyph : (d : ℕ) → is_digit (digit_glyph false d) ≡ true
glyph d = grind (arith, nat_tests)

-- digits, at least one
abbrev AreDigits : List ℕ → Type 0
AreDigits w = is_number w ≡ true

first_digit : (d : ℕ) (w : List ℕ) → list_all is_digit w ≡ true → list_all is_digit (digit_glyph false d ∷ w) ≡ true
first_digit d w h = and_from (is_digit (digit_glyph false d)) _ (glyph d) h

chosen : (t : Bool) (x y : List ℕ) → AreDigits x → AreDigits y → AreDigits (cond t x y)
chosen true x y h k = h
chosen false x y h k = k

some_digits : (d : ℕ) (w : List ℕ) → list_all is_digit w ≡ true → AreDigits (digit_glyph false d ∷ w)
some_digits d w h = and_from (not (length (digit_glyph false d ∷ w) == 0)) _ (grind (arith, nat_tests)) (first_digit d w h)

pub all_digits : (w : List ℕ) → AreDigits w → list_all is_digit w ≡ true
all_digits w h = grind arith

onto_digits : (k base n : ℕ) (w : List ℕ) → AreDigits w → AreDigits (digits_onto k base false n w)
onto_digits zero base n w h = h
onto_digits (suc k) base n w h =
    let more = some_digits (n % base) w (all_digits w h) in
    chosen (eqb (n / base) 0) _ _ more (onto_digits k base (n / base) (digit_glyph false (n % base) ∷ w) more)

pub numeral : (base n : ℕ) → is_number (digits base false n) ≡ true
unfolding digits
numeral base n =
    let more = some_digits (n % base) [] refl in
    chosen (eqb (n / base) 0) (digit_glyph false (n % base) ∷ []) (digits_onto 63 base false (n / base) (digit_glyph false (n % base) ∷ [])) more (onto_digits 63 base (n / base) (digit_glyph false (n % base) ∷ []) more)

pub byte_digits : (b : ℕ) → is_number (byte_text b) ≡ true
byte_digits b = some_digits (b / 16) (digit_glyph false (b % 16) ∷ []) (first_digit (b % 16) [] refl)

spaces_too : (w : List ℕ) → list_all is_digit w ≡ true → list_all is_figure w ≡ true
spaces_too [] h = refl
spaces_too (b ∷ w) h = let p = and_parts (is_digit b) (list_all is_digit w) h in and_from (is_figure b) _ (or_left (is_digit b) (b == 32) p.0) (spaces_too w p.1)

not_empty : (w rest : List ℕ) → AreDigits w → not (length (w ++ rest) == 0) ≡ true
not_empty [] rest h = absurd cc
not_empty (b ∷ w) rest h = grind (arith, nat_tests)

-- a number, and after a space more of them
pub more_numbers : (w rest : List ℕ) → AreDigits w → list_all is_figure rest ≡ true → are_numbers (w ++ 32 ∷ rest) ≡ true
more_numbers w rest h k = and_from (not (length (w ++ 32 ∷ rest) == 0)) _ (not_empty w (32 ∷ rest) h)
    (list_all-append is_figure w (32 ∷ rest) ∙ and_from (list_all is_figure w) _ (spaces_too w (all_digits w h)) k)

pub figures : (w : List ℕ) → AreDigits w → list_all is_figure w ≡ true
figures w h = spaces_too w (all_digits w h)

pub two_figures : (v w : List ℕ) → AreDigits v → AreDigits w → list_all is_figure (v ++ 32 ∷ w) ≡ true
two_figures v w h k = list_all-append is_figure v (32 ∷ w) ∙ and_from (list_all is_figure v) _ (figures v h) (figures w k)

pub hex_digits : (bs : List ℕ) → list_all is_digit (hex_text bs) ≡ true
hex_digits [] = refl
hex_digits (b ∷ bs) = first_digit (b / 16) (digit_glyph false (b % 16) ∷ hex_text bs) (first_digit (b % 16) (hex_text bs) (hex_digits bs))

hex_length : (bs : List ℕ) → length (hex_text bs) ≡ 2 * length bs
hex_length [] = refl
hex_length (b ∷ bs) = omega (arith, hex_length bs)

pub bytes : (n : ℕ) (bs : List ℕ) → length bs ≡ n → is_bytes n (32 ∷ hex_text bs) ≡ true
bytes n bs e = and_from (length (hex_text bs) == 2 * n) _ (eq-eqb _ _ (hex_length bs ∙ ap (λ k. 2 * k) e)) (hex_digits bs)
