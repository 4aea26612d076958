-- Areas that rise are cut into areas that rise.
use Rattle.std.proofs.Common.{◌≡◌, ℕ, zero, suc, ◌+◌, ◌-◌, ◌<◌, ◌≤◌, min, max, Bool, true, false, Option, Some, None, List, [], ◌∷◌, ◌++◌, length, get_or, take, nat_lt, if◌then◌else◌, refl, arith, length-append, append_assoc}
use Rattle.std.proofs.lemmas.Bool.Decides.{nat_tests}
use Rattle.hm_base.specs.Pages.{Pages}
use Rattle.hm_base.specs.Areas.{last_of, behind}
use Rattle.hm_base.specs.declared.area.Area.{Area}
use Rattle.hm_base.specs.declared.ops.Rights.{Rights}
use Rattle.vm_areas.specs.Order.{IsRising}
use Rattle.vm_areas.specs.Cuts.{part_with, parts, cut}

rising_from : (low next : ℕ) (ys : List Area) → low ≤ next → IsRising next ys → IsRising low ys
rising_from low next [] l r = tt
rising_from low next (a ∷ as_) l r = (omega (arith, r.0), r.1, r.2)

rising_part : (low from upto next : ℕ) (w : Option Rights) (ys : List Area) → low ≤ from → low ≤ next → upto ≤ next → IsRising next ys → IsRising low (part_with from upto w ++ ys)
rising_part low from upto next None ys a b c r = rising_from low next ys b r
rising_part low from upto next (Some w) ys a b c r = by_length (nat_lt from upto) refl
  where
    by_length : (t : Bool) → t ≡ nat_lt from upto → IsRising low ((if t then record { span = record { first = from; count = upto - from }; rights = w } ∷ [] else []) ++ ys)
    by_length true e = (a, grind (arith, nat_tests), rising_from (from + (upto - from)) next ys (grind (arith, nat_tests)) r)
    by_length false e = rising_from low next ys b r

pub rising_cut : (s : Pages) (w : Option Rights) (low : ℕ) (as_ : List Area) → IsRising low as_ → IsRising low (cut s w as_)
rising_cut s w low [] r = tt
rising_cut s w low (a ∷ as_) r =
    let last = last_of a.span in
    let upto = last_of s in
    let middle = min last (max a.span.first s.first) in
    let end = min last (max a.span.first upto) in
    let rest = rising_cut s w last as_ r.2 in
    let tail = rising_part end (max a.span.first upto) last last (Some a.rights) (cut s w as_) (omega arith) (omega arith) (omega arith) rest in
    let within = rising_part middle (max a.span.first s.first) (min last upto) end w (behind s a ++ cut s w as_) (omega arith) (omega arith) (omega arith) tail in
    let whole = rising_part low a.span.first (min last s.first) middle (Some a.rights) (part_with (max a.span.first s.first) (min last upto) w ++ (behind s a ++ cut s w as_)) r.0 (omega (arith, r.0, r.1)) (omega arith) within in
    rw (append_assoc, append_assoc) whole

pub cut_front : (s : Pages) (w : Option Rights) (as_ : List Area) (i : ℕ) (d : Area) → i < length as_ → length (cut s w (take i as_)) + length (parts s w (get_or as_ i d)) ≤ length (cut s w as_)
cut_front s w [] i d l = absurd (omega arith)
cut_front s w (a ∷ as_) zero d l = omega (arith, length-append (parts s w a) (cut s w as_))
cut_front s w (a ∷ as_) (suc i) d l =
    omega (arith, length-append (parts s w a) (cut s w as_), length-append (parts s w a) (cut s w (take i as_)), cut_front s w as_ i d (omega arith))

pub same_count : (s : Pages) (w v : Rights) (as_ : List Area) → length (cut s (Some w) as_) ≡ length (cut s (Some v) as_)
same_count s w v [] = refl
same_count s w v (a ∷ as_) = grind (arith, nat_tests, length-append, same_count s w v as_)
