-- Whether an entry is due to some actor.
use Rattle.std.proofs.Common.{◌≡◌, ℕ, ◌+◌, ◌<◌, ◌≤◌, ◌⊎◌, inl, inr, Bool, true, false, not, length, sym, ap, ◌∙◌, subst, arith, zero-add}
use Rattle.std.specs.List.{list_all}
use Rattle.std.proofs.lemmas.Bool.{cases_lt}
use Rattle.hm_base.specs.Program.{Program}
use Rattle.hm_history.specs.Kernel.Run.{actors_of, is_entry}
use Rattle.hm_flaws.specs.declared.flaws.Flaw.{Flaw}
use Rattle.hm_flaws.specs.Flawed.{Flawed, due_by}
use Rattle.hm_machine.proofs.Looks.{all_pass, one_fails}

module _ (l : Flaw) (c : Program) (t : Flawed) where
  -- no entry is due to the actor
  abbrev waits : ℕ → Bool
  waits a = not (is_entry (due_by l c t a))

  pub one_goes : (k a n : ℕ) (b : Bool) → n ≡ length c.actors → k < n → a ≡ k → b ≡ is_entry (due_by l c t a) → b ≡ true → false ≡ list_all (λ i. not (is_entry (due_by l c t i))) (actors_of c)
  one_goes k a n b all below this due is = sym (one_fails waits 0 (length c.actors) k (omega (arith, below, all)) (ap waits (zero-add k) ∙ at_it))
    where
      at_it : waits k ≡ false
      at_it = subst (λ (j : ℕ). waits j ≡ false) this (ap not (sym due ∙ is))

  pub one_waits : (k a : ℕ) (b : Bool) → ((i : ℕ) → i < k → is_entry (due_by l c t i) ≡ false) → a ≡ k → b ≡ is_entry (due_by l c t a) → b ≡ false → (i : ℕ) → i < k + 1 → is_entry (due_by l c t i) ≡ false
  one_waits k a b each this due is i less = by (cases_lt i k)
    where
      by : (i < k) ⊎ (k ≤ i) → is_entry (due_by l c t i) ≡ false
      by (inl z) = each i z
      by (inr z) = let same : a ≡ i = omega (arith, this, z, less) in subst (λ (j : ℕ). is_entry (due_by l c t j) ≡ false) same (sym due ∙ is)

  pub all_wait : (k n : ℕ) → n ≡ length c.actors → n ≤ k → ((i : ℕ) → i < k → is_entry (due_by l c t i) ≡ false) → true ≡ list_all (λ i. not (is_entry (due_by l c t i))) (actors_of c)
  all_wait k n all above each = sym (all_pass waits 0 (length c.actors) (λ i below. ap waits (zero-add i) ∙ ap not (each i (omega (arith, below, above, all)))))
