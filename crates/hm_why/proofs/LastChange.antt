-- The last change at or before an address.
use Rattle.std.proofs.Common.{◌≡◌, ℕ, zero, suc, ◌<◌, ◌≤◌, ◌⊎◌, inl, inr, ◌&&◌, nat_le, nat_lt, if◌then◌else◌, Bool, true, false, Option, Some, None, unwrap_or, refl, sym, ap, ◌∙◌, subst, arith}
use Rattle.std.proofs.lemmas.Bool.Decides.{nat_tests}
use Rattle.std.proofs.lemmas.Bool.{cases_eq}
use Rattle.hm_why.specs.Changes.{last_change}

pub none_is : (f : ℕ → Option (Option ℕ)) (b : ℕ) → ((k : ℕ) → k ≤ b → f k ≡ None) → last_change f b ≡ None
none_is f zero none = ap (λ x. unwrap_or x None) (none 0 (omega arith))
none_is f (suc b) none = ap (λ x. unwrap_or x (last_change f b)) (none (suc b) (omega arith)) ∙ none_is f b (λ k l. none k (omega arith))

pub last_is : (f : ℕ → Option (Option ℕ)) (b x : ℕ) (v : Option ℕ) → x ≤ b → f x ≡ Some v → ((k : ℕ) → x < k → k ≤ b → f k ≡ None) → last_change f b ≡ v
last_is f zero x v below is none = ap (λ y. unwrap_or y None) (subst (λ y. f y ≡ Some v) zero_is is)
  where
    zero_is : x ≡ 0
    zero_is = omega arith
last_is f (suc b) x v below is none = by (cases_eq x (suc b)) (λ l. last_is f b x v l is (λ k above under. none k above (omega arith)))
  where
    by : (x ≡ suc b) ⊎ (x ≡ suc b → ⊥) → (x ≤ b → last_change f b ≡ v) → last_change f (suc b) ≡ v
    by (inl e) more = ap (λ y. unwrap_or y (last_change f b)) (subst (λ y. f y ≡ Some v) e is)
    by (inr ne) more = ap (λ y. unwrap_or y (last_change f b)) (none (suc b) (omega arith) (omega arith)) ∙ more (omega arith)

-- the changes after those of a part were replaced by one, and what stood behind it was put behind it
pub record IsReplaced (f g : ℕ → Option (Option ℕ)) (from to at : ℕ) : Type 0 where
  pub first : g from ≡ Some (Some at)
  pub behind : g to ≡ Some (last_change f to)
  pub inside : (k : ℕ) → from < k → k < to → g k ≡ None
  pub low : (k : ℕ) → k < from → g k ≡ f k
  pub high : (k : ℕ) → to < k → g k ≡ f k

-- where an address lies
data Lies (from to b : ℕ) : Type 0 where
  Low : b < from → Lies from to b
  First : b ≡ from → Lies from to b
  Inside : from < b → b < to → Lies from to b
  Behind : b ≡ to → Lies from to b
  High : to < b → Lies from to b

lies : (from to b : ℕ) → from < to → Lies from to b
lies from to b l = by (nat_lt b from) refl (nat_lt b to) refl (cases_eq b from) (cases_eq b to)
  where
    by : (x : Bool) → nat_lt b from ≡ x → (y : Bool) → nat_lt b to ≡ y → (b ≡ from) ⊎ (b ≡ from → ⊥) → (b ≡ to) ⊎ (b ≡ to → ⊥) → Lies from to b
    by true e y d i j = Low (grind (arith, nat_tests))
    by false e true d (inl i) j = First i
    by false e true d (inr i) j = Inside (grind (arith, nat_tests)) (grind (arith, nat_tests))
    by false e false d i (inl j) = Behind j
    by false e false d i (inr j) = High (grind (arith, nat_tests))

abbrev standing : (ℕ → Option (Option ℕ)) → ℕ → ℕ → ℕ → ℕ → Option ℕ
standing f from to at b = if nat_le from b && nat_lt b to then Some at else last_change f b

in_part : (f : ℕ → Option (Option ℕ)) (from to at b : ℕ) → from ≤ b → b < to → standing f from to at b ≡ Some at
in_part f from to at b h k = grind (arith, nat_tests)

before_part : (f : ℕ → Option (Option ℕ)) (from to at b : ℕ) → b < from → standing f from to at b ≡ last_change f b
before_part f from to at b h = grind (arith, nat_tests)

behind_part : (f : ℕ → Option (Option ℕ)) (from to at b : ℕ) → to ≤ b → standing f from to at b ≡ last_change f b
behind_part f from to at b h = grind (arith, nat_tests)

pub replaced : (f g : ℕ → Option (Option ℕ)) (from to at : ℕ) → from < to → IsReplaced f g from to at → (b : ℕ) → last_change g b ≡ (if nat_le from b && nat_lt b to then Some at else last_change f b)
replaced f g from to at l r zero = by (lies from to 0 l)
  where
    by : Lies from to 0 → last_change g 0 ≡ standing f from to at 0
    by (Low h) = ap (λ x. unwrap_or x None) (r.low 0 h) ∙ sym (before_part f from to at 0 h)
    by (First e) = ap (λ x. unwrap_or x None) (subst (λ y. g y ≡ Some (Some at)) (sym e) r.first) ∙ sym (in_part f from to at 0 (omega arith) (omega arith))
    by (Inside h k) = absurd (omega arith)
    by (Behind e) = absurd (omega arith)
    by (High h) = absurd (omega arith)
replaced f g from to at l r (suc b) = by (replaced f g from to at l r b) (lies from to (suc b) l)
  where
    by : last_change g b ≡ standing f from to at b → Lies from to (suc b) → last_change g (suc b) ≡ standing f from to at (suc b)
    by ih (Low h) = ap (λ x. unwrap_or x (last_change g b)) (r.low (suc b) h) ∙ ap (unwrap_or (f (suc b))) (ih ∙ before_part f from to at b (omega arith)) ∙ sym (before_part f from to at (suc b) h)
    by ih (First e) = ap (λ x. unwrap_or x (last_change g b)) (subst (λ y. g y ≡ Some (Some at)) (sym e) r.first) ∙ sym (in_part f from to at (suc b) (omega arith) (omega arith))
    by ih (Inside h k) = ap (λ x. unwrap_or x (last_change g b)) (r.inside (suc b) h k) ∙ ih ∙ in_part f from to at b (omega arith) (omega arith) ∙ sym (in_part f from to at (suc b) (omega arith) k)
    by ih (Behind e) = ap (λ x. unwrap_or x (last_change g b)) (subst (λ y. g y ≡ Some (last_change f y)) (sym e) r.behind) ∙ sym (behind_part f from to at (suc b) (omega arith))
    by ih (High h) = ap (λ x. unwrap_or x (last_change g b)) (r.high (suc b) h) ∙ ap (unwrap_or (f (suc b))) (ih ∙ behind_part f from to at b (omega arith)) ∙ sym (behind_part f from to at (suc b) (omega arith))

-- with no change after an address, the addresses after it have what it has
pub kept : (f : ℕ → Option (Option ℕ)) (addr b : ℕ) → addr ≤ b → ((k : ℕ) → addr < k → k ≤ b → f k ≡ None) → last_change f b ≡ last_change f addr
kept f addr zero l none = let e : 0 ≡ addr = omega (arith, l) in ap (λ k. last_change f k) e
kept f addr (suc b) l none = by (cases_eq addr (suc b)) (λ m. kept f addr b m (λ k above under. none k above (omega arith)))
  where
    by : (addr ≡ suc b) ⊎ (addr ≡ suc b → ⊥) → (addr ≤ b → last_change f b ≡ last_change f addr) → last_change f (suc b) ≡ last_change f addr
    by (inl e) more = ap (λ k. last_change f k) (sym e)
    by (inr ne) more = ap (λ y. unwrap_or y (last_change f b)) (none (suc b) (omega arith) (omega arith)) ∙ more (omega arith)
