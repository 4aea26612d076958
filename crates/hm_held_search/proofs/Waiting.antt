-- Whether some actor may go on.
use Rattle.std.proofs.Common.{◌≡◌, ℕ, ◌+◌, ◌<◌, ◌≤◌, ◌⊎◌, inl, inr, Bool, true, false, not, length, sym, ap, ◌∙◌, subst, arith, zero-add}
use Rattle.std.specs.List.{list_all}
use Rattle.std.proofs.lemmas.Bool.{cases_lt}
use Rattle.hm_base.specs.Program.{Program}
use Rattle.hm_history.specs.Kernel.Run.{actors_of}
use Rattle.hm_machine.proofs.Looks.{all_pass, one_fails}

module _ (f : ℕ → Bool) (c : Program) where
  pub one_goes : (k a n : ℕ) (b : Bool) → n ≡ length c.actors → k < n → a ≡ k → b ≡ f a → b ≡ true → false ≡ list_all (λ i. not (f i)) (actors_of c)
  one_goes k a n b all below this due is =
      let at_it : not (f k) ≡ false = subst (λ (j : ℕ). not (f j) ≡ false) this (ap not (sym due ∙ is)) in
      sym (one_fails (λ i. not (f i)) 0 (length c.actors) k (omega (arith, below, all)) (ap (λ i. not (f i)) (zero-add k) ∙ at_it))

  pub one_waits : (k a : ℕ) (b : Bool) → ((i : ℕ) → i < k → f i ≡ false) → a ≡ k → b ≡ f a → b ≡ false → (i : ℕ) → i < k + 1 → f i ≡ false
  one_waits k a b each this due is i less = by (cases_lt i k)
    where
      by : (i < k) ⊎ (k ≤ i) → f i ≡ false
      by (inl z) = each i z
      by (inr z) = let same : a ≡ i = omega (arith, this, z, less) in subst (λ (j : ℕ). f j ≡ false) same (sym due ∙ is)

  pub all_wait : (k n : ℕ) → n ≡ length c.actors → n ≤ k → ((i : ℕ) → i < k → f i ≡ false) → true ≡ list_all (λ i. not (f i)) (actors_of c)
  all_wait k n all above each = sym (all_pass (λ i. not (f i)) 0 (length c.actors) (λ i below. ap (λ j. not (f j)) (zero-add i) ∙ ap not (each i (omega (arith, below, above, all)))))
