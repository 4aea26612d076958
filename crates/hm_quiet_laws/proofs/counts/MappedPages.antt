-- Mapped pages after an entry that changes areas.
use Rattle.std.proofs.Common.{◌≡◌, ℕ, ◌+◌, ◌-◌, ◌≤◌, min, max, Bool, true, false, nat_lt, if◌then◌else◌, List, [], ◌∷◌, ◌++◌, refl, arith}
use Rattle.std.specs.Prelude.{flat_map}
use Rattle.hm_base.specs.Pages.{Pages}
use Rattle.hm_base.specs.Areas.{last_of, part, before, inside, behind, without, with_rights, with_area}
use Rattle.hm_base.specs.declared.area.Area.{Area}
use Rattle.hm_base.specs.declared.ops.Rights.{Rights}
use Rattle.hm_quiet_laws.proofs.measure.Left.{pages_from}

pages_append : (v : ℕ) (xs ys : List Area) → pages_from v (xs ++ ys) ≡ pages_from v xs + pages_from v ys
pages_append v [] ys = omega arith
pages_append v (x ∷ xs) ys = omega (arith, pages_append v xs ys)

pages_part : (from upto : ℕ) (w : Rights) → pages_from 0 (part from upto w) ≤ upto - from
pages_part from upto w = by (nat_lt from upto) refl
  where
    by : (b : Bool) → nat_lt from upto ≡ b → pages_from 0 (if b then record { span = record { first = from; count = upto - from }; rights = w } ∷ [] else []) ≤ upto - from
    by true e = omega arith
    by false e = omega arith

pages_cons : (f : Area → List Area) (x : Area) (xs : List Area) → pages_from 0 (flat_map f (x ∷ xs)) ≡ pages_from 0 (f x) + pages_from 0 (flat_map f xs)
pages_cons f x xs = pages_append 0 (f x) (flat_map f xs)

pub pages_without : (r : Pages) (xs : List Area) → pages_from 0 (without r xs) ≤ pages_from 0 xs
pages_without r [] = omega arith
pages_without r (x ∷ xs) = omega (
  arith,
  pages_cons (λ a. before r a ++ behind r a) x xs,
  pages_without r xs,
  pages_append 0 (before r x) (behind r x),
  pages_part x.span.first (min (last_of x.span) r.first) x.rights,
  pages_part (max x.span.first (last_of r)) (last_of x.span) x.rights,
)

pub pages_with : (r : Pages) (w : Rights) (xs : List Area) → pages_from 0 (with_rights r w xs) ≤ pages_from 0 xs
pages_with r w [] = omega arith
pages_with r w (x ∷ xs) = omega (
  arith,
  pages_cons (λ a. before r a ++ (inside r w a ++ behind r a)) x xs,
  pages_with r w xs,
  pages_append 0 (before r x) (inside r w x ++ behind r x),
  pages_append 0 (inside r w x) (behind r x),
  pages_part x.span.first (min (last_of x.span) r.first) x.rights,
  pages_part (max x.span.first r.first) (min (last_of x.span) (last_of r)) w,
  pages_part (max x.span.first (last_of r)) (last_of x.span) x.rights,
)

pub pages_added : (r : Pages) (w : Rights) (xs : List Area) → pages_from 0 (with_area (record { span = r; rights = w }) xs) ≤ pages_from 0 xs + r.count
pages_added r w [] = omega arith
pages_added r w (x ∷ xs) = by (nat_lt r.first x.span.first) (pages_added r w xs)
  where
    by : (b : Bool) → pages_from 0 (with_area (record { span = r; rights = w }) xs) ≤ pages_from 0 xs + r.count → pages_from 0 (if b then record { span = r; rights = w } ∷ (x ∷ xs) else (x ∷ with_area (record { span = r; rights = w }) xs)) ≤ pages_from 0 (x ∷ xs) + r.count
    by true h = omega arith
    by false h = omega arith
