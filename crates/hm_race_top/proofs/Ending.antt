-- Whether all operations have ended.
use Rattle.std.proofs.Common.{◌≡◌, ℕ, ◌<◌, ◌≤◌, Bool, true, false, Option, Some, None, length, sym, ap, ◌∙◌, subst, arith, zero-add}
use Rattle.std.specs.Borrow.{Bor}
use Rattle.std.specs.Prelude.{is_none, is_some, option_copied}
use Rattle.hm_base.specs.Program.{Program}
use Rattle.hm_base.specs.declared.ops.Op.{Op}
use Rattle.hm_history.specs.Kernel.Going.{State, op_at}
use Rattle.hm_machine.proofs.Looks.{all_pass, one_fails}
use Rattle.hm_race_laws.specs.Outcomes.{ended_in}

-- what an actor has left
abbrev has_none : Program → State → ℕ → Bool
has_none c u a = is_none (op_at c a (u.going a).index)

none_false : (r : Option (Bor Op)) (o : Option Op) → option_copied r ≡ o → is_some r ≡ true → is_none o ≡ false
none_false None o e s = absurd (never s)
  where
    never : false ≡ true → ⊥
    never x = cc
none_false (Some x) o e s = ap is_none (sym e)

pub still_goes : (c : Program) (u : State) (k a n : ℕ) (r : Option (Bor Op)) (b : Bool) → n ≡ length c.actors → k < n → a ≡ k → option_copied r ≡ op_at c a (u.going a).index → b ≡ is_some r → b ≡ true → false ≡ ended_in c u
still_goes c u k a n r b all below this op some there = sym (one_fails (has_none c u) 0 (length c.actors) k (omega (arith, below, all)) (ap (has_none c u) (zero-add k) ∙ at_it))
  where
    at_it : has_none c u k ≡ false
    at_it = subst (λ j. has_none c u j ≡ false) this (none_false r _ op (sym some ∙ there))

pub all_ended : (c : Program) (u : State) (k n : ℕ) → n ≡ length c.actors → n ≤ k → ((a : ℕ) → a < k → op_at c a (u.going a).index ≡ None) → true ≡ ended_in c u
all_ended c u k n all above none = sym (all_pass (has_none c u) 0 (length c.actors) (λ a below. ap (has_none c u) (zero-add a) ∙ at_it a below))
  where
    at_it : (a : ℕ) → a < length c.actors → has_none c u a ≡ true
    at_it a below = ap is_none (none a (omega (arith, below, above, all)))
