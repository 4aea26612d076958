-- What a seat holds in its hand.
use Rattle.std.proofs.Common.{◌≡◌, ℕ, List, [], ◌∷◌, ◌++◌, Option, Some, None, sym, ap, ◌∙◌}
use Rattle.atomic_table.specs.Table.{Me, rest}
use Rattle.hm_history.specs.declared.Entry.{Entry}
use Rattle.hm_history.specs.declared.StepError.{StepError}
use Rattle.hm_turns.specs.declared.known.Knowledge.{Knowledge}
use Rattle.hm_turns.specs.Ruled.{grown, raised, even, freed}

module _ {X : Type 0} where
  -- a hand of one slot
  pub one_held : (l : List (ℕ × X)) (a : ℕ × X) → l ≡ a ∷ [] → l ≡ a ∷ rest l
  one_held l a e = e ∙ ap (λ (r : List (ℕ × X)). a ∷ r) (sym (ap rest e))

  abbrev value_in : X → List (ℕ × X) → X
  value_in d [] = d
  value_in d (h ∷ hs) = h.1

  pub same_value : (l : List (ℕ × X)) (k : ℕ) (x y : X) (r : List (ℕ × X)) → l ≡ (k, x) ∷ [] → l ≡ (k, y) ∷ r → y ≡ x
  same_value l k x y r e f = ap (value_in x) (sym f ∙ e)

  pub no_rest : (l : List (ℕ × X)) (a b : ℕ × X) → l ≡ a ∷ [] → b ∷ rest l ≡ b ∷ []
  no_rest l a b e = ap (λ (r : List (ℕ × X)). b ∷ r) (ap rest e)

module _ {S : Type 0} (history : S → List Entry) (halt : S → Option StepError) where
  abbrev M : Type 0
  M = Me (Option S) Knowledge

  abbrev Hand : Type 0
  Hand = List (ℕ × Option S)

  abbrev nothing : Hand
  nothing = []

  abbrev hand_of : S → Hand
  hand_of x = (0, Some x) ∷ []

  -- what the seat is after each of these
  pub put_now : (m m' : M) (v : Knowledge) (x : S) → m.0 ≡ v → m.1 ≡ (0, None) ∷ [] → m' ≡ (m.0, (0, Some x) ∷ rest m.1) → m' ≡ (v, hand_of x)
  put_now m m' v x knows has is = is ∙ (λ i. (knows i, (0, Some x) ∷ rest (has i)))

  pub noted_now : (m m' : M) (v : Knowledge) (x : S) (e : Entry) → m ≡ (v, hand_of x) → history x ≡ v.list ++ e ∷ [] → ((y : S) (f : Entry) → m.1 ≡ hand_of y → history y ≡ m.0.list ++ f ∷ [] → m' ≡ (grown m.0 (history y) f, m.1)) → m' ≡ (grown v (history x) e, hand_of x)
  noted_now m m' v x e is more then = then x e (λ i. (is i).1) (more ∙ ap (λ (k : M). k.0.list ++ e ∷ []) (sym is)) ∙ (λ i. (grown (is i).0 (history x) e, (is i).1))

  pub published_now : (m m' : M) (v : Knowledge) (h : Hand) → m ≡ (v, h) → m' ≡ (even m.0, m.1) → m' ≡ (even v, h)
  published_now m m' v h is then = then ∙ (λ i. (even (is i).0, (is i).1))

  pub given_now : (m m' : M) (v : Knowledge) (x : S) → m ≡ (v, hand_of x) → ((y : S) → m.1 ≡ hand_of y → m' ≡ (freed m.0 (halt y), nothing)) → m' ≡ (freed v (halt x), nothing)
  given_now m m' v x is then = then x (λ i. (is i).1) ∙ (λ i. (freed (is i).0 (halt x), nothing))

  pub raised_now : (m m' : M) (v : Knowledge) (h : Hand) → m ≡ (v, h) → m' ≡ (raised m.0, m.1) → m' ≡ (raised v, h)
  raised_now m m' v h is then = then ∙ (λ i. (raised (is i).0, (is i).1))
