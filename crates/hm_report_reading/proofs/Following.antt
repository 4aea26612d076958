-- Lists with one line for each element, of which the first lines are shared.
use Rattle.std.proofs.Common.{◌≡◌, ℕ, suc, ◌+◌, ◌<◌, List, [], ◌∷◌, ◌++◌, length, take, refl, sym, subst, ap, ◌∙◌, arith}
use Rattle.std.specs.List.{All}
use Rattle.std.proofs.lemmas.List.Elements.{All-tail}
use Rattle.hm_report_front.proofs.Scripts.{cons_take}

-- the first element passes
pub first_passes : {X : Type 0} (P : X → Type 0) (x : X) (xs : List X) → All P (x ∷ xs) → P x
first_passes P x xs h = h 0 x (omega arith)

pub rest_pass : {X : Type 0} (P : X → Type 0) (xs ys : List X) → All P (xs ++ ys) → All P ys
rest_pass P [] ys h = h
rest_pass P (x ∷ xs) ys h = rest_pass P xs ys (All-tail P x (xs ++ ys) h)

-- each element has a line, by its position, and lines tell elements apart
module _ {X : Type 0} (line_at : ℕ → X → List ℕ) (listed : ℕ → List X → List (List ℕ)) (nil : (at : ℕ) → listed at [] ≡ []) (cons : (at : ℕ) (x : X) (xs : List X) → listed at (x ∷ xs) ≡ line_at at x ∷ listed (at + 1) xs) (Fits : X → Type 0) (limit : ℕ) (one : (at : ℕ) (x y : X) → at < limit → Fits x → Fits y → line_at at x ≡ line_at at y → x ≡ y) where
  -- the elements go on behind those that are shared
  pub record Follows (h g : List X) (at n : ℕ) (tail ls : List (List ℕ)) : Type 0 where
    pub more : List X
    pub is : g ≡ h ++ more
    pub shares : take n (listed (at + length h) more ++ tail) ≡ take n ls

  -- behind the others' lines comes one of no element
  pub follow : (h g : List X) (at n : ℕ) (end : List ℕ) (others ls : List (List ℕ)) → ((k : ℕ) (x : X) → end ≡ line_at k x → ⊥) → at + length h < limit → All Fits h → All Fits g
      → take (length h + n) (listed at g ++ end ∷ others) ≡ take (length h + n) (listed at h ++ ls) → Follows h g at n (end ∷ others) ls
  follow [] g at n end others ls none small hs gs same =
      let k : at + 0 ≡ at = omega arith in
      let z : 0 + n ≡ n = omega arith in
      let here = subst (λ (m : ℕ). take m (listed at g ++ end ∷ others) ≡ take m (listed at [] ++ ls)) z same in
      record { more = g; is = refl; shares = rw k (here ∙ ap (λ (z : List (List ℕ)). take n (z ++ ls)) (nil at)) }
  follow (x ∷ h) [] at n end others ls none small hs gs same =
      let one_more : suc (length h) + n ≡ suc (length h + n) = omega arith in
      let here = subst (λ (m : ℕ). take m (listed at [] ++ end ∷ others) ≡ take m (listed at (x ∷ h) ++ ls)) one_more same in
      let whole : take (suc (length h + n)) (end ∷ others) ≡ take (suc (length h + n)) (line_at at x ∷ (listed (at + 1) h ++ ls)) = ap (λ (z : List (List ℕ)). take (suc (length h + n)) (z ++ end ∷ others)) (sym (nil at)) ∙ here ∙ ap (λ (z : List (List ℕ)). take (suc (length h + n)) (z ++ ls)) (cons at x h) in
      absurd (none at x (cons_take (length h + n) end (line_at at x) others (listed (at + 1) h ++ ls) whole).0)
  follow (x ∷ h) (y ∷ g) at n end others ls none small hs gs same =
      let one_more : suc (length h) + n ≡ suc (length h + n) = omega arith in
      let here = subst (λ (m : ℕ). take m (listed at (y ∷ g) ++ end ∷ others) ≡ take m (listed at (x ∷ h) ++ ls)) one_more same in
      let whole : take (suc (length h + n)) (line_at at y ∷ (listed (at + 1) g ++ end ∷ others)) ≡ take (suc (length h + n)) (line_at at x ∷ (listed (at + 1) h ++ ls)) = ap (λ (z : List (List ℕ)). take (suc (length h + n)) (z ++ end ∷ others)) (sym (cons at y g)) ∙ here ∙ ap (λ (z : List (List ℕ)). take (suc (length h + n)) (z ++ ls)) (cons at x h) in
      let parts = cons_take (length h + n) (line_at at y) (line_at at x) (listed (at + 1) g ++ end ∷ others) (listed (at + 1) h ++ ls) whole in
      let same_one : y ≡ x = one at y x (omega (arith, small)) (first_passes Fits y g gs) (first_passes Fits x h hs) parts.0 in
      let r = follow h g (at + 1) n end others ls none (omega (arith, small)) (All-tail Fits x h hs) (All-tail Fits y g gs) parts.1 in
      let k : (at + 1) + length h ≡ at + suc (length h) = omega arith in
      record {
        more = r.more;
        is = ap (λ (z : X). z ∷ g) same_one ∙ ap (λ (z : List X). x ∷ z) r.is;
        shares = subst (λ (z : ℕ). take n (listed z r.more ++ end ∷ others) ≡ take n ls) k r.shares;
      }
