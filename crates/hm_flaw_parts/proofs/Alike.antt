-- Marks that are the same have the same items, and the other way round.
use Rattle.std.proofs.Common.{◌≡◌, ℕ, ◌+◌, Bool, Option, Some, None, List, refl, sym, ap, ◌∙◌, add-one}
use Rattle.std.specs.Prelude.{option_map, if◌then◌else◌}
use Rattle.hm_race_keys.specs.Sparse.{mixed}
use Rattle.hm_flaw_parts.specs.Alike.{SameMarks}
use Rattle.hm_flaw_parts.specs.Buckets.{mixed_short}
use Rattle.hm_flaw_parts.specs.Marks.{Marked, at_of, marks_in, set_of}
use Rattle.hm_flaw_parts.specs.declared.marks.Marks.{Marks}
use Rattle.hm_flaw_parts.specs.declared.told_spans.ToldSpan.{ToldSpan}
use Rattle.hm_flaw_parts.specs.declared.values.Position.{Position}
use Rattle.hm_flaw_parts.specs.declared.values.SetMark.{SetMark}
use Rattle.hm_flaw_parts.proofs.Marking.{marks_from}

-- ---- what is kept

abbrev position_at : Option ℕ → Option Position
position_at None = None
position_at (Some n) = Some (record { at = n })

position_itself : (x : Option Position) → position_at (option_map at_of x) ≡ x
position_itself None = refl
position_itself (Some x) = refl

pub same_position : (x y : Option Position) → option_map at_of x ≡ option_map at_of y → x ≡ y
same_position x y e = sym (position_itself x) ∙ (ap position_at e ∙ position_itself y)

abbrev set_at : Option (Bool × ℕ) → Option SetMark
set_at None = None
set_at (Some p) = Some (record { goes_back = p.0; since = p.1 })

set_itself : (x : Option SetMark) → set_at (option_map set_of x) ≡ x
set_itself None = refl
set_itself (Some x) = refl

pub same_set : (x y : Option SetMark) → option_map set_of x ≡ option_map set_of y → x ≡ y
same_set x y e = sym (set_itself x) ∙ (ap set_at e ∙ set_itself y)

-- ---- all marks

pub alike_marks : (x y : Marks) → marks_in x ≡ marks_in y → SameMarks x y
alike_marks x y e = record {
  begun = λ a m. ap {B = Option ℕ} (λ (z : Marked). z.begun a m) e;
  told = ap {B = List ToldSpan} (λ (z : Marked). z.told) e;
  sets = λ m v. ap {B = Option (Bool × ℕ)} (λ (z : Marked). z.set m v) e;
  short = λ a. ap {B = Bool} (λ (z : Marked). z.short a) e;
}

pub one_marks : (x y : Marks) → SameMarks x y → marks_in x ≡ marks_in y
one_marks x y s = marks_from (marks_in x) (marks_in y) s.begun s.told s.sets s.short

-- ---- a number of them

pub short_more : (sum n : ℕ) (f : ℕ → Bool) → mixed_short sum (n + 1) f ≡ mixed (mixed_short sum n f) (if f n then 1 else 0)
unfolding mixed_short
short_more sum n f = rw add-one refl

pub no_short : (sum : ℕ) (f : ℕ → Bool) → sum ≡ mixed_short sum 0 f
unfolding mixed_short
no_short sum f = refl
