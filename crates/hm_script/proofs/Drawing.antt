-- Draws, and the loops that draw.
use Rattle.std.proofs.Common.{◌≡◌, ℕ, suc, ◌+◌, ◌-◌, ◌*◌, ◌/◌, ◌%◌, ◌^◌, ◌<◌, ◌≤◌, List, [], ◌∷◌, ◌++◌, refl, sym, ap, subst, ◌∙◌, arith, append_assoc, append-nil}
use Rattle.hm_script.specs.Generator.{drawn_on, draw, Drawn, drawn_list}

pub next_state : (x : ℕ) → (x * 6364136223846793005 % 2 ^ 64 + 1442695040888963407) % 2 ^ 64 ≡ drawn_on x
unfolding drawn_on
next_state x = omega arith

pub draw_below : (x k : ℕ) → 0 < k → draw x k < k
unfolding draw
draw_below x k some = omega arith

pub draw_is : (x k : ℕ) → (x * 6364136223846793005 % 2 ^ 64 + 1442695040888963407) % 2 ^ 64 / 2 ^ 33 % k ≡ draw x k
unfolding draw
draw_is x k = ap (λ y. y / 2 ^ 33 % k) (next_state x)

module _ {A : Type 0} (one : ℕ → Drawn A) where
  -- i of n were drawn onto a list, and what is drawn on makes up the whole
  pub record Going (old out : List A) (first x n i : ℕ) : Type 0 where
    pub values : out ++ (drawn_list one x (n - i)).value ≡ old ++ (drawn_list one first n).value
    pub rest : (drawn_list one x (n - i)).rest ≡ (drawn_list one first n).rest

  pub going_begins : (old : List A) (x n : ℕ) → Going old old x x n 0
  going_begins old x n =
      let z : n - 0 ≡ n = omega arith in
      record { values = ap (λ (k : ℕ). old ++ (drawn_list one x k).value) z; rest = ap (λ (k : ℕ). (drawn_list one x k).rest) z }

  next_values : (out : List A) (x n : ℕ) → out ++ (drawn_list one x (suc n)).value ≡ (out ++ (one x).value ∷ []) ++ (drawn_list one (one x).rest n).value
  unfolding drawn_list
  next_values out x n = sym (append_assoc out ((one x).value ∷ []) (drawn_list one (one x).rest n).value)

  next_rest : (x n : ℕ) → (drawn_list one x (suc n)).rest ≡ (drawn_list one (one x).rest n).rest
  unfolding drawn_list
  next_rest x n = refl

  pub going_on : (old out : List A) (first x n i : ℕ) (d : Drawn A) → i < n → d ≡ one x → Going old out first x n i → Going old (out ++ d.value ∷ []) first d.rest n (i + 1)
  going_on old out first x n i d lt e h =
      let left : n - i ≡ suc (n - (i + 1)) = omega arith in
      rw e (record {
        values = sym (next_values out x (n - (i + 1))) ∙ subst (λ (k : ℕ). out ++ (drawn_list one x k).value ≡ old ++ (drawn_list one first n).value) left h.values;
        rest = sym (next_rest x (n - (i + 1))) ∙ subst (λ (k : ℕ). (drawn_list one x k).rest ≡ (drawn_list one first n).rest) left h.rest;
      })

  none_left : (out : List A) (x : ℕ) → (out ++ (drawn_list one x 0).value ≡ out) × ((drawn_list one x 0).rest ≡ x)
  unfolding drawn_list
  none_left out x = (append-nil out, refl)

  pub going_ends : (old out : List A) (first x n i : ℕ) → n ≤ i → Going old out first x n i → (out ≡ old ++ (drawn_list one first n).value) × (x ≡ (drawn_list one first n).rest)
  going_ends old out first x n i le h =
      let left : n - i ≡ 0 = omega arith in
      let none = none_left out x in
      (sym none.0 ∙ subst (λ (k : ℕ). out ++ (drawn_list one x k).value ≡ old ++ (drawn_list one first n).value) left h.values, sym none.1 ∙ subst (λ (k : ℕ). (drawn_list one x k).rest ≡ (drawn_list one first n).rest) left h.rest)
