-- The frames that are free are those that are not held.
use Rattle.std.proofs.Common.{◌≡◌, ℕ, zero, suc, ◌+◌, ◌<◌, ◌*◌, ◌^◌, Bool, true, false, not, cond, ltb, Option, Some, None, List, [], ◌∷◌, length, get_or, set, map, replicate, refl, sym, ap, ◌∙◌, arith}
use Rattle.std.specs.List.{position, position_or_len}
use Rattle.std.specs.Prelude.{option_map}
use Rattle.std.proofs.lemmas.List.{length-map, map-set, get_or-map, length-set, length-replicate}
use Rattle.std.proofs.lemmas.Bool.{not-true}
use Rattle.std.proofs.lemmas.List.Quantifiers.{position-Some}
use Rattle.frame_pool.specs.Bits.{next_true}
use Rattle.frame_pool.specs.Frames.{Frames, IsFrames, fresh, taken, dropped, is_held, lowest_free, zero_frame, overwritten}
use Rattle.frame_pool.proofs.Overwrites.{length-overwritten, zero_frame_length}

pub opposite_set : (free held : List Bool) (n : ℕ) (b : Bool) → free ≡ map not held → set free n (not b) ≡ map not (set held n b)
opposite_set free held n b e = ap (λ (xs : List Bool). set xs n (not b)) e ∙ sym (map-set not held n b)

pub free_where : (free held : List Bool) (n : ℕ) → free ≡ map not held → n < length held → get_or held n false ≡ false → get_or free n false ≡ true
free_where free held n e l h = ap (λ (xs : List Bool). get_or xs n false) e ∙ get_or-map not held n false false l ∙ ap not h

pub opposite_none : (n : ℕ) → replicate n true ≡ map not (replicate n false)
opposite_none zero = refl
opposite_none (suc n) = ap (λ xs. true ∷ xs) (opposite_none n)

same_first : (xs : List Bool) → position_or_len (λ x. x) (map not xs) ≡ position_or_len not xs
same_first [] = refl
same_first (true ∷ xs) = ap (λ n. 1 + n) (same_first xs)
same_first (false ∷ xs) = refl

from_start : (b : Bool) (n : ℕ) → option_map (λ k. 0 + k) (cond b (Some n) None) ≡ cond b (Some n) None
from_start true n = let e : 0 + n ≡ n = omega arith in ap Some e
from_start false n = refl

-- the lowest that is free is the lowest that is not held
pub first_free : (free held : List Bool) → free ≡ map not held → next_true free 0 ≡ position not held
first_free free held e = rw (e, same_first held, length-map held not) (from_start (ltb (position_or_len not held) (length held)) (position_or_len not held))

pub lowest_is : (f : Frames) (n : ℕ) → lowest_free f ≡ Some n → (n < length f.held) × (is_held f n ≡ false)
lowest_is f n e = by f.withdrawn e
  where
    at : position not f.held ≡ Some n → (n < length f.held) × (is_held f n ≡ false)
    at e = let p = position-Some not f.held n false e in (p.0, not-true _ p.1)

    by : (w : Bool) → cond w None (position not f.held) ≡ Some n → (n < length f.held) × (is_held f n ≡ false)
    by true e = cc
    by false e = at e

-- the lists stay as long as they are
pub fits_fresh : (n : ℕ) → n < 2 ^ 32 → IsFrames (fresh n)
fits_fresh n l = record {
  bytes_len = length-replicate {A = ℕ} (n * 4096) 0 ∙ ap (λ k. k * 4096) (sym (length-replicate n false));
  locks_len = length-replicate {A = Option ℕ} n None ∙ sym (length-replicate n false);
  few = omega (arith, length-replicate n false);
}

pub fits_taken : (f : Frames) (n : ℕ) → IsFrames f → n < length f.held → IsFrames (taken f n)
fits_taken f n s l = record {
  bytes_len = length-overwritten f.bytes (n * 4096) zero_frame (omega (arith, zero_frame_length, s.bytes_len)) ∙ s.bytes_len ∙ ap (λ k. k * 4096) (sym (length-set f.held n true));
  locks_len = s.locks_len ∙ sym (length-set f.held n true);
  few = omega (arith, s.few, length-set f.held n true);
}

pub fits_dropped : (f : Frames) (n : ℕ) → IsFrames f → IsFrames (dropped f n)
fits_dropped f n s = record {
  bytes_len = s.bytes_len ∙ ap (λ k. k * 4096) (sym (length-set f.held n false));
  locks_len = length-set f.locks n None ∙ s.locks_len ∙ sym (length-set f.held n false);
  few = omega (arith, s.few, length-set f.held n false);
}

pub fits_after_take : (f : Frames) (n : ℕ) (held : List Bool) (bytes : List ℕ) → held ≡ set f.held n true → bytes ≡ overwritten f.bytes (n * 4096) zero_frame → IsFrames f → n < length f.held →
    IsFrames (record f { held = held; bytes = bytes })
fits_after_take f n held bytes p q s l = rw (p, q) (fits_taken f n s l)

pub is_taken : (f g : Frames) (n : ℕ) (held : List Bool) (bytes : List ℕ) → f ≡ g → held ≡ set f.held n true → bytes ≡ overwritten f.bytes (n * 4096) zero_frame →
    record f { held = held; bytes = bytes } ≡ taken g n
is_taken f g n held bytes e p q = rw (p, q) (ap (λ (x : Frames). taken x n) e)

pub live : (withdrawn : Bool) (o : Option ℕ) → withdrawn ≡ false → o ≡ cond withdrawn None o
live withdrawn o e = rw e refl
