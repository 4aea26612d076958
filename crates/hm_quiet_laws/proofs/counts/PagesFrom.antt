-- Mapped pages from a page on.
use Rattle.std.proofs.Common.{◌≡◌, ℕ, ◌+◌, ◌-◌, ◌<◌, ◌≤◌, max, Bool, true, false, is_some, Some, List, [], ◌∷◌, refl, arith, cond, find}
use Rattle.std.specs.Prelude.{option_map}
use Rattle.std.proofs.lemmas.Bool.Decides.{nat_tests}
use Rattle.hm_base.specs.Pages.{covers}
use Rattle.hm_base.specs.Areas.{last_of, rights_at}
use Rattle.hm_base.specs.declared.area.Area.{Area}
use Rattle.hm_quiet_laws.proofs.measure.Left.{pages_from}

part_more : (l f n u : ℕ) → n ≤ u → l - max f (u + 1) ≤ l - max f n
part_more l f n u h = omega arith

part_less : (l f n u : ℕ) → n ≤ u → f ≤ u → u < l → l - max f (u + 1) + 1 ≤ l - max f n
part_less l f n u h k m = omega arith

pub pages_more : (xs : List Area) (n u : ℕ) → n ≤ u → pages_from (u + 1) xs ≤ pages_from n xs
pages_more [] n u h = omega arith
pages_more (x ∷ xs) n u h = omega (arith, pages_more xs n u h, part_more (last_of x.span) x.span.first n u h)

pub pages_less : (xs : List Area) (n u : ℕ) → n ≤ u → is_some (rights_at xs u) ≡ true → pages_from (u + 1) xs + 1 ≤ pages_from n xs
pages_less [] n u h e = cc
pages_less (x ∷ xs) n u h e = by (covers x.span u) refl e (pages_less xs n u h)
  where
    by : (b : Bool) → covers x.span u ≡ b → is_some (option_map (λ (a : Area). a.rights) (cond b (Some x) (find (λ a. covers a.span u) xs))) ≡ true → (is_some (rights_at xs u) ≡ true → pages_from (u + 1) xs + 1 ≤ pages_from n xs) → pages_from (u + 1) (x ∷ xs) + 1 ≤ pages_from n (x ∷ xs)
    by true c k ih = omega (arith, part_less (last_of x.span) x.span.first n u h (grind (arith, nat_tests)) (grind (arith, nat_tests)), pages_more xs n u h)
    by false c k ih = omega (arith, ih k, part_more (last_of x.span) x.span.first n u h)
