-- Each word of an entry's line is read back, and is printable and without a space.
use Rattle.std.proofs.Common.{◌≡◌, ℕ, ◌+◌, ◌/◌, ◌%◌, ◌^◌, ◌<◌, ◌≤◌, Bool, true, false, eqb, ltb, List, [], ◌∷◌, ◌++◌, Option, Some, None, Ok, refl, sym, ap, subst, ◌∙◌, arith}
use Rattle.std.specs.Prelude.{codes}
use Rattle.std.specs.List.{list_all}
use Rattle.std.specs.Fmt.{decimal, digit_glyph}
use Rattle.std.specs.Str.{bytes_eq}
use Rattle.std.proofs.lemmas.Slice.Eq.{bytes_eq-Decides}
use Rattle.std.proofs.lemmas.Bool.{false≢true, lt-ltb, ltb-true, le-leb, and_parts}
use Rattle.std.proofs.lemmas.Bool.Decides.{nat_tests}
use Rattle.std.proofs.lemmas.List.Folds.{list_all-append}
use Rattle.hm_base.specs.Pages.{Pages, IsSpan}
use Rattle.hm_base.specs.PlaceWords.{sys_frame, dev_frame}
use Rattle.hm_base.specs.declared.Frame.{Frame}
use Rattle.hm_base.specs.declared.Place.{Place}
use Rattle.hm_base.specs.declared.PoolId.{PoolId}
use Rattle.hm_base.specs.declared.cause.Cause.{Cause}
use Rattle.hm_base.specs.declared.ops.Rights.{Rights}
use Rattle.hm_history.specs.declared.KeptAt.{KeptAt}
use Rattle.hm_history.specs.declared.KeptWhy.{KeptWhy}
use Rattle.hm_history.specs.declared.Kind.{Kind}
use Rattle.hm_history.specs.declared.TableRight.{TableRight}
use Rattle.hm_history.specs.declared.Who.{Who}
use Rattle.hm_report.specs.Words.{actor_text, byte_text, cause_number, device_text, frame_in, frame_text, kept_text, kind_words, mirror_text, part_text, place_words, proc_text, table_right_text, target_text, who_text, why_words, write_text}
use Rattle.hm_script.specs.Numerals.{is_low_digit, number}
use Rattle.hm_script.specs.Spelling.{hex_text, right_text}
use Rattle.hm_script.proofs.Digits.{last_decimal}
use Rattle.hm_script.proofs.Numbers.{decimal_numeral}
use Rattle.hm_script.proofs.Readers.{numbers, hexes}
use Rattle.hm_script.proofs.Steps.{is_plain}
use Rattle.hm_report_reading.specs.Fits.{FitsFrame, FitsHex, FitsKept, FitsPart, FitsPlace, FitsPool, FitsTarget, FitsWho, FitsWhy}
use Rattle.hm_report_reading.specs.Words.{begins, byte_at, bytes_at, cause_at, frame_at, kept_at, nibble, numbered, page_at, part_at, place_at, right_at, span_at, table_right_at, target_at, who_at, why_at, writes}

-- ---- numbers behind a letter

numbered_again : (c limit n : ℕ) → n < limit → limit ≤ 2 ^ 64 → numbered limit (c ∷ decimal n) ≡ Ok n
unfolding numbered
numbered_again c limit n h le = rw (numbers.again n (omega arith), lt-ltb n limit h) refl

lettered_plain : (c n : ℕ) → is_plain c ≡ true → n < 2 ^ 64 → list_all is_plain (c ∷ decimal n) ≡ true
lettered_plain c n p h = rw (p, numbers.plain n h) refl

pub proc_again : (p : ℕ) → p < 32 → numbered 32 (proc_text p) ≡ Ok p
proc_again p h = numbered_again 112 32 p h (omega arith)

pub proc_plain : (p : ℕ) → p < 32 → list_all is_plain (proc_text p) ≡ true
proc_plain p h = lettered_plain 112 p refl (omega arith)

pub mirror_again : (m : ℕ) → m < 32 → numbered 32 (mirror_text m) ≡ Ok m
mirror_again m h = numbered_again 109 32 m h (omega arith)

pub mirror_plain : (m : ℕ) → m < 32 → list_all is_plain (mirror_text m) ≡ true
mirror_plain m h = lettered_plain 109 m refl (omega arith)

pub device_again : (d : ℕ) → d < 4 → numbered 4 (device_text d) ≡ Ok d
device_again d h = numbered_again 100 4 d h (omega arith)

pub device_plain : (d : ℕ) → d < 4 → list_all is_plain (device_text d) ≡ true
device_plain d h = lettered_plain 100 d refl (omega arith)

pub actor_again : (a : ℕ) → a < 16 → numbered 16 (actor_text a) ≡ Ok a
actor_again a h = numbered_again 97 16 a h (omega arith)

pub actor_plain : (a : ℕ) → a < 16 → list_all is_plain (actor_text a) ≡ true
actor_plain a h = lettered_plain 97 a refl (omega arith)

pub who_again : (x : Who) → FitsWho x → who_at (who_text x) ≡ Ok x
unfolding who_at
who_again (Who.Cpu p) h = rw (proc_again p h) refl
who_again (Who.Mirror m) h = rw (mirror_again m h) refl

pub who_plain : (x : Who) → FitsWho x → list_all is_plain (who_text x) ≡ true
who_plain (Who.Cpu p) h = proc_plain p h
who_plain (Who.Mirror m) h = mirror_plain m h

-- ---- pages and spans

pub page_again : (v : ℕ) → v < 2 ^ 36 → page_at (decimal v) ≡ Ok v
unfolding page_at
page_again v h = rw (numbers.again v (omega arith), lt-ltb v (2 ^ 36) h) refl

pub page_plain : (v : ℕ) → v < 2 ^ 36 → list_all is_plain (decimal v) ≡ true
page_plain v h = numbers.plain v (omega arith)

pub span_again : (r : Pages) → IsSpan r → span_at (decimal r.first) (decimal r.count) ≡ Ok r
unfolding span_at
span_again r h = rw (numbers.again r.first (omega (arith, h.some, h.ends)), numbers.again r.count (omega (arith, h.some, h.ends)), le-leb 1 r.count h.some, le-leb (r.first + r.count) (2 ^ 36) h.ends) refl

pub span_plain : (r : Pages) → IsSpan r → (list_all is_plain (decimal r.first) ≡ true) × (list_all is_plain (decimal r.count) ≡ true)
span_plain r h = (numbers.plain r.first (omega (arith, h.some, h.ends)), numbers.plain r.count (omega (arith, h.some, h.ends)))

-- ---- bytes

one_byte : (b : ℕ) → b < 256 → FitsHex (b ∷ [])
one_byte b h = rw (lt-ltb b 256 h) refl

pub hex_plain : (bs : List ℕ) → FitsHex bs → list_all is_plain (hex_text bs) ≡ true
hex_plain [] h = refl
hex_plain (b ∷ bs) h = hexes.plain (b ∷ bs) (omega arith, h)

glyph_again : (k : ℕ) → k < 16 → nibble (digit_glyph false k) ≡ k
glyph_again k h = grind (arith, nat_tests, h)

pub byte_again : (b : ℕ) → b < 256 → byte_at (byte_text b) ≡ b
byte_again b h = rw (glyph_again (b / 16) (omega arith), glyph_again (b % 16) (omega arith)) (omega arith)

pub bytes_again : (bs : List ℕ) → FitsHex bs → bytes_at (hex_text bs) ≡ bs
bytes_again bs h = all bs h
  where
    all : (xs : List ℕ) → list_all (λ b. ltb b 256) xs ≡ true → bytes_at (hex_text xs) ≡ xs
    all [] e = refl
    all (x ∷ xs) e =
        let here = (and_parts (ltb x 256) (list_all (λ b. ltb b 256) xs) e).0 in
        let rest = (and_parts (ltb x 256) (list_all (λ b. ltb b 256) xs) e).1 in
        rw (byte_again x (ltb-true x 256 here), all xs rest) refl

pub right_again : (r : Rights) → right_at (right_text r) ≡ r
right_again Rights.Read = refl
right_again Rights.ReadWrite = refl

pub right_plain : (r : Rights) → list_all is_plain (right_text r) ≡ true
right_plain Rights.Read = refl
right_plain Rights.ReadWrite = refl

pub byte_plain : (b : ℕ) → b < 256 → list_all is_plain (byte_text b) ≡ true
byte_plain b h = hex_plain (b ∷ []) (one_byte b h)

-- ---- frames

-- a number begins with no letter
begins_not : (letter : ℕ) (w : List ℕ) → is_low_digit 10 letter ≡ false → list_all (is_low_digit 10) w ≡ true → begins letter w ≡ false
begins_not letter [] other h = refl
begins_not letter (c ∷ w) other h = by (eqb c letter) refl
  where
    digit : is_low_digit 10 c ≡ true
    digit = (and_parts (is_low_digit 10 c) (list_all (is_low_digit 10) w) h).0

    same : eqb c letter ≡ true → c ≡ letter
    same e = grind (arith, nat_tests, e)

    by : (b : Bool) → eqb c letter ≡ b → eqb c letter ≡ false
    by false e = e
    by true e = absurd (false≢true (sym other ∙ ap (is_low_digit 10) (sym (same e)) ∙ digit))

one_digit : (d : ℕ) → d < 10 → (48 + d) ∷ [] ≡ decimal d
one_digit d h = last_decimal [] d h

digit_number : (d : ℕ) → d < 10 → number ((48 + d) ∷ []) ≡ Ok d
digit_number d h = ap number (one_digit d h) ∙ numbers.again d (omega arith)

spelled_frame : (d n : ℕ) → d < 4 → n < 2 ^ 32 → frame_at (100 ∷ (48 + d) ∷ 46 ∷ decimal n) ≡ Ok (dev_frame d n)
unfolding frame_at
spelled_frame d n d4 h = rw (digit_number d (omega arith), lt-ltb d 4 d4, numbers.again n (omega arith), lt-ltb n (2 ^ 32) h) refl

device_frame : (d n : ℕ) → d < 4 → n < 2 ^ 32 → frame_at (frame_in (PoolId.Device d) n) ≡ Ok (dev_frame d n)
device_frame d n d4 h = subst (λ (x : List ℕ). frame_at (100 ∷ (x ++ 46 ∷ decimal n)) ≡ Ok (dev_frame d n)) (one_digit d (omega arith)) (spelled_frame d n d4 h)

system_frame : (n : ℕ) → n < 2 ^ 32 → frame_at (frame_in PoolId.System n) ≡ Ok (sys_frame n)
unfolding frame_at
system_frame n h = rw (numbered_again 115 (2 ^ 32) n h (omega arith)) refl

frame_in_again : (pool : PoolId) (n : ℕ) → FitsPool pool → n < 2 ^ 32 → frame_at (frame_in pool n) ≡ Ok (record { pool = pool; number = n })
frame_in_again PoolId.System n p h = system_frame n h
frame_in_again (PoolId.Device d) n p h = device_frame d n p h

pub frame_again : (f : Frame) → FitsFrame f → frame_at (frame_text f) ≡ Ok f
frame_again f h = frame_in_again f.pool f.number h.pool h.number

device_frame_plain : (d n : ℕ) → d < 4 → n < 2 ^ 32 → list_all is_plain (frame_in (PoolId.Device d) n) ≡ true
device_frame_plain d n d4 h = list_all-append is_plain (device_text d) (46 ∷ decimal n) ∙ rw (device_plain d d4, lettered_plain 46 n refl (omega arith)) refl

frame_in_plain : (pool : PoolId) (n : ℕ) → FitsPool pool → n < 2 ^ 32 → list_all is_plain (frame_in pool n) ≡ true
frame_in_plain PoolId.System n p h = lettered_plain 115 n refl (omega arith)
frame_in_plain (PoolId.Device d) n p h = device_frame_plain d n p h

pub frame_plain : (f : Frame) → FitsFrame f → list_all is_plain (frame_text f) ≡ true
frame_plain f h = frame_in_plain f.pool f.number h.pool h.number

not_zero : (pool : PoolId) (n : ℕ) → bytes_eq (frame_in pool n) (codes "zero") ≡ false
not_zero PoolId.System n = refl
not_zero (PoolId.Device d) n = refl

pub target_again : (f : Option Frame) → FitsTarget f → target_at (target_text f) ≡ Ok f
unfolding target_at
target_again None h = refl
target_again (Some f) h = rw (not_zero f.pool f.number, frame_again f h) refl

pub target_plain : (f : Option Frame) → FitsTarget f → list_all is_plain (target_text f) ≡ true
target_plain None h = refl
target_plain (Some f) h = frame_plain f h

pub table_right_again : (w : TableRight) → table_right_at (table_right_text w) ≡ w
table_right_again TableRight.Read = refl
table_right_again TableRight.Write = refl
table_right_again TableRight.Sole = refl

pub table_right_plain : (w : TableRight) → list_all is_plain (table_right_text w) ≡ true
table_right_plain TableRight.Read = refl
table_right_plain TableRight.Write = refl
table_right_plain TableRight.Sole = refl

-- ---- parts, causes and what is kept

not_all : (k : ℕ) → k < 2 ^ 64 → bytes_eq (decimal k) (codes "all") ≡ false
not_all k h = by (bytes_eq (decimal k) (codes "all")) refl
  where
    by : (b : Bool) → bytes_eq (decimal k) (codes "all") ≡ b → bytes_eq (decimal k) (codes "all") ≡ false
    by false e = e
    by true e = absurd (false≢true (subst (λ (w : List ℕ). list_all (is_low_digit 10) w ≡ true) ((bytes_eq-Decides (decimal k) (codes "all")).0 e) (decimal_numeral k h).below.each))

pub part_again : (k : Option ℕ) → FitsPart k → part_at (part_text k) ≡ Ok k
unfolding part_at
part_again None h = refl
part_again (Some k) h = rw (not_all k (omega (arith, h)), numbers.again k (omega (arith, h)), lt-ltb k 256 h) refl

pub part_plain : (k : Option ℕ) → FitsPart k → list_all is_plain (part_text k) ≡ true
part_plain None h = refl
part_plain (Some k) h = numbers.plain k (omega (arith, h))

below_11 : (why : Cause) → cause_number why < 2 ^ 64
below_11 Cause.Never = omega arith
below_11 Cause.Unmapped = omega arith
below_11 Cause.Forbidden = omega arith
below_11 Cause.NoFrame = omega arith
below_11 Cause.Outside = omega arith
below_11 Cause.Overlap = omega arith
below_11 Cause.TooManyAreas = omega arith
below_11 Cause.NameTaken = omega arith
below_11 Cause.NoProcess = omega arith
below_11 Cause.MirrorTaken = omega arith
below_11 Cause.Removed = omega arith

pub cause_again : (why : Cause) → cause_at (decimal (cause_number why)) ≡ Ok why
unfolding cause_at
cause_again Cause.Never = rw (numbers.again 0 (omega arith)) refl
cause_again Cause.Unmapped = rw (numbers.again 1 (omega arith)) refl
cause_again Cause.Forbidden = rw (numbers.again 2 (omega arith)) refl
cause_again Cause.NoFrame = rw (numbers.again 3 (omega arith)) refl
cause_again Cause.Outside = rw (numbers.again 4 (omega arith)) refl
cause_again Cause.Overlap = rw (numbers.again 5 (omega arith)) refl
cause_again Cause.TooManyAreas = rw (numbers.again 6 (omega arith)) refl
cause_again Cause.NameTaken = rw (numbers.again 7 (omega arith)) refl
cause_again Cause.NoProcess = rw (numbers.again 8 (omega arith)) refl
cause_again Cause.MirrorTaken = rw (numbers.again 9 (omega arith)) refl
cause_again Cause.Removed = rw (numbers.again 10 (omega arith)) refl

pub cause_plain : (why : Cause) → list_all is_plain (decimal (cause_number why)) ≡ true
cause_plain why = numbers.plain (cause_number why) (below_11 why)

kept_frame : (pool : PoolId) (n : ℕ) → FitsPool pool → n < 2 ^ 32 → kept_at (frame_in pool n) ≡ Ok (KeptAt.Frame (record { pool = pool; number = n }))
unfolding kept_at
kept_frame PoolId.System n p h = rw (system_frame n h) refl
kept_frame (PoolId.Device d) n p h = rw (device_frame d n p h) refl

pub kept_again : (at : KeptAt) → FitsKept at → kept_at (kept_text at) ≡ Ok at
unfolding kept_at
kept_again (KeptAt.Page v) h =
    let digits = (decimal_numeral v (omega (arith, h))).below.each in
    rw (begins_not 115 (decimal v) refl digits, begins_not 100 (decimal v) refl digits, page_again v h) refl
kept_again (KeptAt.Frame f) h = kept_frame f.pool f.number h.pool h.number

pub kept_plain : (at : KeptAt) → FitsKept at → list_all is_plain (kept_text at) ≡ true
kept_plain (KeptAt.Page v) h = page_plain v h
kept_plain (KeptAt.Frame f) h = frame_plain f h

-- ---- what has several words

writes_again : (w : Bool) → writes (write_text w) ≡ w
writes_again true = refl
writes_again false = refl

write_plain : (w : Bool) → list_all is_plain (write_text w) ≡ true
write_plain true = refl
write_plain false = refl

pub place_again : (pos act : List ℕ) (p v : ℕ) (x : Place) → FitsPlace x → place_at (pos ∷ act ∷ kind_words (Kind.Place p v x)) ≡ Ok x
unfolding place_at
place_again pos act p v Place.Empty h = refl
place_again pos act p v Place.Zero h = refl
place_again pos act p v (Place.Sys n w) h = rw (system_frame n h, writes_again w) refl
place_again pos act p v (Place.Own d n w) h = rw (device_frame d n h.0 h.1, writes_again w) refl
place_again pos act p v (Place.Moving f w) h = rw (frame_again f h, writes_again w) refl
place_again pos act p v (Place.Exclusive n a) h = rw (system_frame n h.0, actor_again a h.1) refl

pub place_plain : (x : Place) → FitsPlace x → list_all (list_all is_plain) (place_words x) ≡ true
place_plain Place.Empty h = refl
place_plain Place.Zero h = refl
place_plain (Place.Sys n w) h = rw (frame_in_plain PoolId.System n tt h, write_plain w) refl
place_plain (Place.Own d n w) h = rw (device_frame_plain d n h.0 h.1, write_plain w) refl
place_plain (Place.Moving f w) h = rw (frame_plain f h, write_plain w) refl
place_plain (Place.Exclusive n a) h = rw (frame_in_plain PoolId.System n tt h.0, actor_plain a h.1) refl

pub why_again : (pos act : List ℕ) (at : KeptAt) (why : KeptWhy) → FitsWhy why → why_at (pos ∷ act ∷ kind_words (Kind.Kept at why)) ≡ Ok why
unfolding why_at
why_again pos act at KeptWhy.NotHere h = refl
why_again pos act at (KeptWhy.LockedBy b) h = rw (actor_again b h) refl
why_again pos act at KeptWhy.NoFrame h = refl
why_again pos act at KeptWhy.Skipped h = refl
why_again pos act at KeptWhy.Lost h = refl

pub why_plain : (why : KeptWhy) → FitsWhy why → list_all (list_all is_plain) (why_words why) ≡ true
why_plain KeptWhy.NotHere h = refl
why_plain (KeptWhy.LockedBy b) h = rw (actor_plain b h) refl
why_plain KeptWhy.NoFrame h = refl
why_plain KeptWhy.Skipped h = refl
why_plain KeptWhy.Lost h = refl
