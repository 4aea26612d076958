-- Each word of an event's line is read back, and is made of bytes that stand in words.
use Rattle.std.proofs.Common.{◌≡◌, ℕ, ◌+◌, ◌<◌, Bool, true, false, not, cond, eqb, List, [], ◌∷◌, ◌++◌, Option, Some, None, Ok, length, drop, refl, sym, ap, subst, ◌∙◌, arith, append_assoc, length-append}
use Rattle.std.specs.Prelude.{◌&&◌}
use Rattle.std.specs.List.{list_all, position_or_len}
use Rattle.std.specs.Fmt.{decimal}
use Rattle.std.specs.Str.{bytes_eq}
use Rattle.std.proofs.lemmas.Bool.{false≢true, and_parts}
use Rattle.std.proofs.lemmas.Bool.Decides.{nat_tests}
use Rattle.std.proofs.lemmas.List.{take_at, drop_at}
use Rattle.std.proofs.lemmas.List.Folds.{list_all-append}
use Rattle.std.proofs.lemmas.Slice.Eq.{bytes_eq-Decides}
use Rattle.hm_base.specs.Pages.{Pages}
use Rattle.hm_history.specs.declared.TableRight.{TableRight}
use Rattle.hm_protocol.specs.declared.events.Reason.{Reason}
use Rattle.hm_protocol.specs.declared.events.TraceFrame.{TraceFrame}
use Rattle.hm_report.specs.Words.{device_text, mirror_text, proc_text, table_right_text, write_text}
use Rattle.hm_script.specs.Numerals.{is_low_digit}
use Rattle.hm_script.proofs.Numbers.{decimal_numeral}
use Rattle.hm_script.proofs.Readers.{numbers}
use Rattle.hm_script.proofs.Steps.{is_plain}
use Rattle.hm_trace.specs.Fits.{Fits64, FitsFrame, FitsOwner, FitsSpan}
use Rattle.hm_trace.specs.Spelling.{done_text, frame_text, lock_text, owner_text, reason_text, way_text}
use Rattle.hm_trace.specs.Words.{after_point, before_point, device_frame_at, done_at, frame_at, lettered, locked_at, owner_at, reason_at, reason_named, span_at, right_at, to_device_at, writes_at}

-- ---- bytes of words

-- printable, no space, and no `#`
abbrev pub is_word_byte : ℕ → Bool
is_word_byte b = is_plain b && not (eqb b 35)

-- one byte or more, each of which may stand in a word
abbrev pub is_word : List ℕ → Bool
is_word [] = false
is_word (b ∷ w) = list_all is_word_byte (b ∷ w)

digit_byte : (c : ℕ) → is_low_digit 10 c ≡ true → is_word_byte c ≡ true
digit_byte c h = grind (arith, nat_tests)

digit_bytes : (w : List ℕ) → list_all (is_low_digit 10) w ≡ true → list_all is_word_byte w ≡ true
digit_bytes [] h = refl
digit_bytes (c ∷ w) h =
    let parts = and_parts (is_low_digit 10 c) (list_all (is_low_digit 10) w) h in
    rw (digit_byte c parts.0, digit_bytes w parts.1) refl

word_from : (w : List ℕ) → 0 < length w → list_all is_word_byte w ≡ true → is_word w ≡ true
word_from [] some h = absurd (omega arith)
word_from (b ∷ w) some h = h

pub decimal_bytes : (n : ℕ) → Fits64 n → list_all is_word_byte (decimal n) ≡ true
decimal_bytes n h = digit_bytes (decimal n) (decimal_numeral n h).below.each

pub decimal_words : (n : ℕ) → Fits64 n → is_word (decimal n) ≡ true
decimal_words n h = word_from (decimal n) (decimal_numeral n h).some (decimal_bytes n h)

-- ---- numbers after a letter

pub lettered_again : (c n : ℕ) → Fits64 n → lettered (c ∷ decimal n) ≡ Ok n
unfolding lettered
lettered_again c n h = numbers.again n h

lettered_words : (c n : ℕ) → is_word_byte c ≡ true → Fits64 n → is_word (c ∷ decimal n) ≡ true
lettered_words c n letter h = rw (letter, decimal_bytes n h) refl

pub actor_words : (a : ℕ) → Fits64 a → is_word (97 ∷ decimal a) ≡ true
actor_words a h = lettered_words 97 a refl h

pub mirror_words : (m : ℕ) → Fits64 m → is_word (mirror_text m) ≡ true
mirror_words m h = lettered_words 109 m refl h

pub proc_words : (p : ℕ) → Fits64 p → is_word (proc_text p) ≡ true
proc_words p h = lettered_words 112 p refl h

pub device_words : (d : ℕ) → Fits64 d → is_word (device_text d) ≡ true
device_words d h = lettered_words 100 d refl h

pub owner_again : (d : Option ℕ) → FitsOwner d → owner_at (owner_text d) ≡ Ok d
unfolding owner_at
owner_again None h = refl
owner_again (Some d) h = rw (lettered_again 100 d h) refl

pub owner_words : (d : Option ℕ) → FitsOwner d → is_word (owner_text d) ≡ true
owner_words None h = refl
owner_words (Some d) h = device_words d h

pub span_again : (r : Pages) → FitsSpan r → span_at (decimal r.first) (decimal r.count) ≡ Ok r
unfolding span_at
span_again r h = rw (numbers.again r.first h.0, numbers.again r.count h.1) refl

-- ---- frames

no_point : (c : ℕ) → is_low_digit 10 c ≡ true → eqb c 46 ≡ false
no_point c h = grind (arith, nat_tests)

-- the first point stands after some digits
point_at : (w rest : List ℕ) → list_all (is_low_digit 10) w ≡ true → position_or_len (λ b. eqb b 46) (w ++ 46 ∷ rest) ≡ length w
point_at [] rest h = refl
point_at (c ∷ w) rest h =
    let parts = and_parts (is_low_digit 10 c) (list_all (is_low_digit 10) w) h in
    rw (no_point c parts.0, point_at w rest parts.1) (omega arith)

letter_point : (letter : ℕ) (w rest : List ℕ) → eqb letter 46 ≡ false → list_all (is_low_digit 10) w ≡ true → position_or_len (λ b. eqb b 46) (letter ∷ (w ++ 46 ∷ rest)) ≡ length (letter ∷ w)
letter_point letter w rest other h = rw (other, point_at w rest h) (omega arith)

before_again : (letter : ℕ) (w rest : List ℕ) → eqb letter 46 ≡ false → list_all (is_low_digit 10) w ≡ true → before_point (letter ∷ (w ++ 46 ∷ rest)) ≡ letter ∷ w
before_again letter w rest other h = take_at (letter ∷ w) (46 ∷ rest) _ (sym (letter_point letter w rest other h))

after_again : (letter : ℕ) (w rest : List ℕ) → eqb letter 46 ≡ false → list_all (is_low_digit 10) w ≡ true → after_point (letter ∷ (w ++ 46 ∷ rest)) ≡ rest
after_again letter w rest other h =
    let at = letter_point letter w rest other h in
    let apart : letter ∷ (w ++ 46 ∷ rest) ≡ ((letter ∷ w) ++ 46 ∷ []) ++ rest = ap (λ (z : List ℕ). letter ∷ z) (sym (append_assoc w (46 ∷ []) rest)) in
    ap (drop (position_or_len (λ b. eqb b 46) (letter ∷ (w ++ 46 ∷ rest)) + 1)) apart ∙ drop_at ((letter ∷ w) ++ 46 ∷ []) rest _ (omega (arith, at, length-append (letter ∷ w) (46 ∷ [])))

device_again : (letter d n : ℕ) → eqb letter 46 ≡ false → Fits64 d → Fits64 n
    → (device_frame_at (letter ∷ (decimal d ++ 46 ∷ decimal n)) ≡ Ok (cond (eqb letter 100) (TraceFrame.Private d n) (TraceFrame.Coherent d n)))
unfolding device_frame_at
device_again letter d n other hd hn =
    let digits = (decimal_numeral d hd).below.each in
    rw (before_again letter (decimal d) (decimal n) other digits, after_again letter (decimal d) (decimal n) other digits, lettered_again letter d hd, numbers.again n hn) refl

pub frame_again : (f : TraceFrame) → FitsFrame f → frame_at (frame_text f) ≡ Ok f
unfolding frame_at
frame_again TraceFrame.Nothing h = refl
frame_again TraceFrame.ZeroPage h = refl
frame_again (TraceFrame.System n) h = rw (lettered_again 115 n h) refl
frame_again (TraceFrame.Private d n) h = device_again 100 d n refl h.0 h.1
frame_again (TraceFrame.Coherent d n) h = device_again 99 d n refl h.0 h.1

pointed_words : (letter d n : ℕ) → is_word_byte letter ≡ true → Fits64 d → Fits64 n → is_word (letter ∷ (decimal d ++ 46 ∷ decimal n)) ≡ true
pointed_words letter d n h hd hn = rw (h, list_all-append is_word_byte (decimal d) (46 ∷ decimal n), decimal_bytes d hd, decimal_bytes n hn) refl

pub frame_words : (f : TraceFrame) → FitsFrame f → is_word (frame_text f) ≡ true
frame_words TraceFrame.Nothing h = refl
frame_words TraceFrame.ZeroPage h = refl
frame_words (TraceFrame.System n) h = lettered_words 115 n refl h
frame_words (TraceFrame.Private d n) h = pointed_words 100 d n refl h.0 h.1
frame_words (TraceFrame.Coherent d n) h = pointed_words 99 d n refl h.0 h.1

-- ---- words of a list

pub done_again : (b : Bool) → done_at (done_text b) ≡ b
done_again true = refl
done_again false = refl

pub done_words : (b : Bool) → is_word (done_text b) ≡ true
done_words true = refl
done_words false = refl

pub lock_again : (b : Bool) → locked_at (lock_text b) ≡ b
lock_again true = refl
lock_again false = refl

pub lock_words : (b : Bool) → is_word (lock_text b) ≡ true
lock_words true = refl
lock_words false = refl

pub way_again : (b : Bool) → to_device_at (way_text b) ≡ b
way_again true = refl
way_again false = refl

pub way_words : (b : Bool) → is_word (way_text b) ≡ true
way_words true = refl
way_words false = refl

pub write_again : (b : Bool) → writes_at (write_text b) ≡ b
write_again true = refl
write_again false = refl

pub write_words : (b : Bool) → is_word (write_text b) ≡ true
write_words true = refl
write_words false = refl

pub right_again : (w : TableRight) → right_at (table_right_text w) ≡ w
right_again TableRight.Read = refl
right_again TableRight.Write = refl
right_again TableRight.Sole = refl

pub right_words : (w : TableRight) → is_word (table_right_text w) ≡ true
right_words TableRight.Read = refl
right_words TableRight.Write = refl
right_words TableRight.Sole = refl

pub reason_again : (why : Reason) → reason_at (reason_text why) ≡ Ok why
unfolding reason_at reason_named
reason_again Reason.Unmap = refl
reason_again Reason.Clear = refl
reason_again Reason.ProtectArea = refl
reason_again Reason.ProtectPage = refl
reason_again Reason.SoftDirty = refl
reason_again Reason.Release = refl
reason_again Reason.Migrate = refl
reason_again Reason.Exclusive = refl

pub reason_words : (why : Reason) → is_word (reason_text why) ≡ true
reason_words Reason.Unmap = refl
reason_words Reason.Clear = refl
reason_words Reason.ProtectArea = refl
reason_words Reason.ProtectPage = refl
reason_words Reason.SoftDirty = refl
reason_words Reason.Release = refl
reason_words Reason.Migrate = refl
reason_words Reason.Exclusive = refl

-- a number is not this text, which begins with no digit
pub not_numeral : (n c : ℕ) (t : List ℕ) → Fits64 n → is_low_digit 10 c ≡ false → bytes_eq (decimal n) (c ∷ t) ≡ false
not_numeral n c t h other = by (bytes_eq (decimal n) (c ∷ t)) refl
  where
    by : (b : Bool) → bytes_eq (decimal n) (c ∷ t) ≡ b → bytes_eq (decimal n) (c ∷ t) ≡ false
    by false e = e
    by true e =
        let each = subst (λ (w : List ℕ). list_all (is_low_digit 10) w ≡ true) ((bytes_eq-Decides (decimal n) (c ∷ t)).0 e) (decimal_numeral n h).below.each in
        absurd (false≢true (sym other ∙ (and_parts (is_low_digit 10 c) (list_all (is_low_digit 10) t) each).0))
