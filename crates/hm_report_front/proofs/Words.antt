-- The words of scripts and of entries have no line feed, whatever numbers they tell.
use Rattle.std.proofs.Common.{◌≡◌, ℕ, zero, suc, ◌/◌, ◌%◌, Bool, true, false, cond, eqb, Option, Some, None, List, [], ◌∷◌, refl, ◌∙◌, arith}
use Rattle.std.specs.List.{list_all, join_with_byte}
use Rattle.std.specs.Fmt.{decimal, digits, digits_onto, digit_glyph}
use Rattle.std.proofs.lemmas.Bool.{and_parts}
use Rattle.std.proofs.lemmas.Bool.Decides.{nat_tests}
use Rattle.std.proofs.lemmas.List.Folds.{list_all-append}
use Rattle.hm_base.specs.declared.PoolId.{PoolId}
use Rattle.hm_base.specs.declared.Frame.{Frame}
use Rattle.hm_base.specs.declared.Place.{Place}
use Rattle.hm_base.specs.declared.ops.Rights.{Rights}
use Rattle.hm_history.specs.declared.Who.{Who}
use Rattle.hm_history.specs.declared.TableRight.{TableRight}
use Rattle.hm_history.specs.declared.KeptAt.{KeptAt}
use Rattle.hm_history.specs.declared.KeptWhy.{KeptWhy}
use Rattle.hm_history.specs.declared.Kind.{Kind}
use Rattle.hm_script.specs.Spelling.{hex_text, right_text}
use Rattle.hm_report.specs.Words.{who_text, byte_text, frame_in, frame_text, write_text, place_words, target_text, table_right_text, part_text, kept_text, why_words, kind_words, cause_number}
use Rattle.hm_report_front.proofs.Cutting.{no_feed}

abbrev pub is_whole : List ℕ → Bool
is_whole w = list_all no_feed w

abbrev pub are_whole : List (List ℕ) → Bool
are_whole ws = list_all is_whole ws

-- ---- words

glyph_whole : (d : ℕ) → no_feed (digit_glyph false d) ≡ true
glyph_whole d = grind (arith, nat_tests)

glyph_first : (d : ℕ) (w : List ℕ) → is_whole w ≡ true → is_whole (digit_glyph false d ∷ w) ≡ true
glyph_first d w h = rw (glyph_whole d, h) refl

chosen : (t : Bool) (x y : List ℕ) → is_whole x ≡ true → is_whole y ≡ true → is_whole (cond t x y) ≡ true
chosen true x y h k = h
chosen false x y h k = k

onto_whole : (k base n : ℕ) (w : List ℕ) → is_whole w ≡ true → is_whole (digits_onto k base false n w) ≡ true
onto_whole zero base n w h = h
onto_whole (suc k) base n w h =
    let more = glyph_first (n % base) w h in
    chosen (eqb (n / base) 0) _ _ more (onto_whole k base (n / base) (digit_glyph false (n % base) ∷ w) more)

pub digits_whole : (base n : ℕ) → is_whole (digits base false n) ≡ true
unfolding digits
digits_whole base n = onto_whole 64 base n [] refl

pub byte_whole : (b : ℕ) → is_whole (byte_text b) ≡ true
byte_whole b = glyph_first (b / 16) (digit_glyph false (b % 16) ∷ []) (glyph_first (b % 16) [] refl)

pub hex_whole : (bs : List ℕ) → is_whole (hex_text bs) ≡ true
hex_whole [] = refl
hex_whole (b ∷ bs) = glyph_first (b / 16) (digit_glyph false (b % 16) ∷ hex_text bs) (glyph_first (b % 16) (hex_text bs) (hex_whole bs))

pub right_whole : (r : Rights) → is_whole (right_text r) ≡ true
right_whole Rights.Read = refl
right_whole Rights.ReadWrite = refl

pub who_whole : (x : Who) → is_whole (who_text x) ≡ true
who_whole (Who.Cpu p) = digits_whole 10 p
who_whole (Who.Mirror m) = digits_whole 10 m

frame_in_whole : (pool : PoolId) (n : ℕ) → is_whole (frame_in pool n) ≡ true
frame_in_whole PoolId.System n = digits_whole 10 n
frame_in_whole (PoolId.Device d) n = list_all-append no_feed (decimal d) (46 ∷ decimal n) ∙ (rw (digits_whole 10 d, digits_whole 10 n) refl)

pub frame_whole : (f : Frame) → is_whole (frame_text f) ≡ true
frame_whole f = frame_in_whole f.pool f.number

pub write_whole : (w : Bool) → is_whole (write_text w) ≡ true
write_whole true = refl
write_whole false = refl

pub target_whole : (f : Option Frame) → is_whole (target_text f) ≡ true
target_whole None = refl
target_whole (Some f) = frame_whole f

pub table_right_whole : (w : TableRight) → is_whole (table_right_text w) ≡ true
table_right_whole TableRight.Read = refl
table_right_whole TableRight.Write = refl
table_right_whole TableRight.Sole = refl

pub part_whole : (k : Option ℕ) → is_whole (part_text k) ≡ true
part_whole None = refl
part_whole (Some k) = digits_whole 10 k

pub kept_whole : (at : KeptAt) → is_whole (kept_text at) ≡ true
kept_whole (KeptAt.Page v) = digits_whole 10 v
kept_whole (KeptAt.Frame f) = frame_whole f

-- ---- words of entries

pub num : (n : ℕ) → is_whole (decimal n) ≡ true
num n = digits_whole 10 n

addr : (a : ℕ) → is_whole (digits 16 false a) ≡ true
addr a = digits_whole 16 a

place_whole : (x : Place) → are_whole (place_words x) ≡ true
place_whole Place.Empty = refl
place_whole Place.Zero = refl
place_whole (Place.Sys n w) = rw (num n, write_whole w) refl
place_whole (Place.Own d n w) = rw (frame_in_whole (PoolId.Device d) n, write_whole w) refl
place_whole (Place.Moving f w) = rw (frame_whole f, write_whole w) refl
place_whole (Place.Exclusive n a) = rw (num n, num a) refl

why_whole : (why : KeptWhy) → are_whole (why_words why) ≡ true
why_whole KeptWhy.NotHere = refl
why_whole (KeptWhy.LockedBy b) = rw (num b) refl
why_whole KeptWhy.NoFrame = refl
why_whole KeptWhy.Skipped = refl
why_whole KeptWhy.Lost = refl

pub kind_whole : (k : Kind) → are_whole (kind_words k) ≡ true
kind_whole (Kind.Loaded x a bs) = rw (who_whole x, addr a, hex_whole bs) refl
kind_whole (Kind.Stored x a bs) = rw (who_whole x, addr a, hex_whole bs) refl
kind_whole (Kind.Failed x a n why) = rw (who_whole x, addr a, num n, num (cause_number why)) refl
kind_whole (Kind.Mapped p r w) = rw (num p, num r.first, num r.count, right_whole w) refl
kind_whole (Kind.Unmapped p r) = rw (num p, num r.first, num r.count) refl
kind_whole (Kind.Protected p r w) = rw (num p, num r.first, num r.count, right_whole w) refl
kind_whole (Kind.Forked p c) = rw (num p, num c) refl
kind_whole (Kind.Exited p) = rw (num p) refl
kind_whole (Kind.Attached m d p r q) = rw (num m, num d, num p, num r.first, num r.count, num q) refl
kind_whole (Kind.Detaching m q) = rw (num m, num q) refl
kind_whole (Kind.Detached m) = rw (num m) refl
kind_whole (Kind.Refused why) = rw (num (cause_number why)) refl
kind_whole (Kind.Migrated n) = rw (num n) refl
kind_whole (Kind.Seen m v c) = rw (num m, num v, byte_whole c) refl
kind_whole (Kind.Evicted n) = rw (num n) refl
kind_whole (Kind.Removed d) = rw (num d) refl
kind_whole (Kind.Rlock p) = rw (num p) refl
kind_whole (Kind.Runlock p) = rw (num p) refl
kind_whole (Kind.Wlock p) = rw (num p) refl
kind_whole (Kind.Named p c) = rw (num p, num c) refl
kind_whole (Kind.Take f) = rw (frame_whole f) refl
kind_whole (Kind.Drop f) = rw (frame_whole f) refl
kind_whole (Kind.Place p v x) = rw (num p, num v, place_whole x) refl
kind_whole (Kind.Start p r q) = rw (num p, num r.first, num r.count, num q) refl
kind_whole (Kind.Told m r q) = rw (num m, num r.first, num r.count, num q) refl
kind_whole (Kind.End p r q) = rw (num p, num r.first, num r.count, num q) refl
kind_whole (Kind.Begin m q) = rw (num m, num q) refl
kind_whole (Kind.Retry m) = rw (num m) refl
kind_whole (Kind.Set m v f w from) = rw (num m, num v, target_whole f, table_right_whole w, num from) refl
kind_whole (Kind.Fresh p v) = rw (num p, num v) refl
kind_whole (Kind.Copied f g k) = rw (frame_whole f, frame_whole g, part_whole k) refl
kind_whole (Kind.Committed f g) = rw (frame_whole f, frame_whole g) refl
kind_whole (Kind.Kept at why) = rw (kept_whole at, why_whole why) refl
kind_whole (Kind.Done f) = rw (frame_whole f) refl
kind_whole (Kind.Withdrawn d) = rw (num d) refl
kind_whole (Kind.Excluded m v) = rw (num m, num v) refl
kind_whole (Kind.Fetched m a bs) = rw (num m, addr a, hex_whole bs) refl
kind_whole (Kind.Added m a was now) = rw (num m, addr a, byte_whole was, byte_whole now) refl

-- ---- words behind one another

pub join_whole : (ws : List (List ℕ)) → are_whole ws ≡ true → is_whole (join_with_byte 32 ws) ≡ true
join_whole [] h = refl
join_whole (w ∷ []) h = (and_parts (is_whole w) true h).0
join_whole (w ∷ v ∷ ws) h =
    let here = (and_parts (is_whole w) (are_whole (v ∷ ws)) h).0 in
    let rest = join_whole (v ∷ ws) (and_parts (is_whole w) (are_whole (v ∷ ws)) h).1 in
    list_all-append no_feed w (32 ∷ join_with_byte 32 (v ∷ ws)) ∙ (rw (here, rest) refl)
