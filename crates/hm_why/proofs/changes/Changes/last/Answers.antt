use Rattle.std.proofs.Common.{◌≡◌, ℕ, ◌<◌, ◌≤◌, false, Option, Some, None, refl, arith}
use Rattle.std.specs.Prelude.{⊤, IsSome}
use Rattle.std.specs.Ordering.{nat_cmp, is_gt, is_lt}
use Rattle.std.proofs.lemmas.Grind.{common_steps}
use Rattle.std.proofs.lemmas.Bool.Decides.{nat_tests}
use Rattle.std.proofs.lemmas.Map.Keys.{ge_from_not_lt}
use Rattle.hm_why.proofs.changes.Changes.last.Goals as goal

not_gt : (k b : ℕ) → k ≤ b → is_gt (nat_cmp k b) ≡ false
not_gt k b h = grind (arith, nat_tests)

-- behind the greatest there is none
none_behind : {X : Type 0} (g : Option X) (x k b : ℕ) → (⊤ × (is_gt (nat_cmp k b) ≡ false) → IsSome g → is_lt (nat_cmp x k) ≡ false) → x < k → k ≤ b → g ≡ None
none_behind None x k b h above below = refl
none_behind (Some y) x k b h above below = absurd (not_both (ge_from_not_lt x k (h (tt, not_gt k b below) refl)) above)
  where
    not_both : k ≤ x → x < k → ⊥
    not_both i j = omega arith

pub returns-in-Some : goal.returns-in-Some
returns-in-Some c =
    let in_range = (c.range.ensures.in_range tt).3 _ _ c.in-Some.ensures.steps in
    let last = (c.range.ensures.in_range tt).4 _ _ c.in-Some.ensures.steps in
    (grind (arith, common_steps, in_range), grind (arith, common_steps, in_range), λ k above below. none_behind _ c.in-Some.from.now k c.args.addr (last k) above below)
