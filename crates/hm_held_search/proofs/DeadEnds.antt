-- A loop over known states that looks for a dead end.
use Rattle.std.proofs.Common.{◌≡◌, ℕ, ◌+◌, ◌<◌, ◌≤◌, ◌⊎◌, inl, inr, Bool, false, List, length, get_or, sym, ap, ◌∙◌, subst, arith}
use Rattle.std.proofs.lemmas.Bool.{cases_lt}
use Rattle.std.proofs.lemmas.List.{get_or-map, length-map}
use Rattle.hm_holds.specs.Held.{HeldPoint}
use Rattle.hm_search.specs.Values.{key_forms}
use Rattle.hm_search.specs.declared.known.Known.{Known}
use Rattle.hm_held_search.specs.Keys.{held_form}
use Rattle.hm_held_search.specs.declared.keys.HeldKey.{HeldKey}

-- there are as many points as keys
pub key_count : (ns : List (Known HeldKey)) → length (key_forms held_form ns) ≡ length ns
key_count ns = length-map ns (λ (n : Known HeldKey). held_form n.key)

module _ (f : HeldPoint → Bool) (ns : List (Known HeldKey)) (at : ℕ) (n : Known HeldKey) (below : at < length ns) where
  -- what is asked of the point at a place
  pub asked_at : (x : HeldPoint) → f (get_or (key_forms held_form ns) at x) ≡ f (held_form (get_or ns at n).key)
  asked_at x = ap f (get_or-map (λ (m : Known HeldKey). held_form m.key) ns at n x below)

  -- one more is no dead end
  pub none_more : (b : Bool) → b ≡ f (held_form (get_or ns at n).key) → b ≡ false → ((i : ℕ) → i < at → (x : HeldPoint) → f (get_or (key_forms held_form ns) i x) ≡ false)
      → (i : ℕ) → i < at + 1 → (x : HeldPoint) → f (get_or (key_forms held_form ns) i x) ≡ false
  none_more b asked lives each i less x = by (cases_lt i at)
    where
      by : (i < at) ⊎ (at ≤ i) → f (get_or (key_forms held_form ns) i x) ≡ false
      by (inl k) = each i k x
      by (inr k) = let same : at ≡ i = omega (arith, k, less) in subst (λ (j : ℕ). f (get_or (key_forms held_form ns) j x) ≡ false) same (asked_at x ∙ (sym asked ∙ lives))
