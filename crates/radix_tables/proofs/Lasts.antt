-- A search for the first number with a word goes on.
use Rattle.std.proofs.Common.{◌≡◌, ◌≢◌, ℕ, ◌^◌, ◌<◌, ◌≤◌, Bool, true, false, min, ltb, cond, Some, None, refl, arith, ◌⊎◌, inl, inr}
use Rattle.std.proofs.lemmas.Bool.{cases_eq, cases_lt}
use Rattle.std.proofs.lemmas.Bool.Decides.{nat_tests}
use Rattle.radix_tables.specs.Maps.{before}
use Rattle.radix_tables.specs.Levels.{IsLeast}

-- there is none from a number on and below another
abbrev pub NoneOn : (ℕ → ℕ) → ℕ → ℕ → Type 0
NoneOn f page upto = (v : ℕ) → page ≤ v → v < upto → f v ≡ 0

pub joined : (f : ℕ → ℕ) (page at end : ℕ) → NoneOn f page at → NoneOn f at end → NoneOn f page end
joined f page at end h k v a b = by (cases_lt v at)
  where
    by : (v < at) ⊎ (at ≤ v) → f v ≡ 0
    by (inl p) = h v a p
    by (inr p) = k v p b

pub least_on : (f : ℕ → ℕ) (page at : ℕ) (e : ℕ × ℕ) → page ≤ at → NoneOn f page at →
    (at ≤ e.0) × (e.0 < 2 ^ 36) × (f e.0 ≡ e.1) × (e.1 ≢ 0) × NoneOn f at e.0 → (page ≤ e.0) × (f e.0 ≡ e.1) × (e.1 ≢ 0) × NoneOn f page e.0
least_on f page at e l h k = (omega (arith, k.0), k.2, k.3, joined f page at e.0 h k.4)

-- what is found counts before the end alone
pub least_before : (f : ℕ → ℕ) (page at end : ℕ) (e : ℕ × ℕ) → page ≤ at → NoneOn f page at →
    (at ≤ e.0) × (e.0 < 2 ^ 36) × (f e.0 ≡ e.1) × (e.1 ≢ 0) × NoneOn f at e.0 → IsLeast f page end (before end (Some e))
least_before f page at end e l h k = by (ltb e.0 end) refl (least_on f page at e l h k)
  where
    less : (a b : ℕ) → ltb a b ≡ true → a < b
    less a b h = grind (arith, nat_tests)

    not_less : (a b : ℕ) → ltb a b ≡ false → b ≤ a
    not_less a b h = grind (arith, nat_tests)

    by : (b : Bool) → ltb e.0 end ≡ b → (page ≤ e.0) × (f e.0 ≡ e.1) × (e.1 ≢ 0) × NoneOn f page e.0 → IsLeast f page end (cond b (Some e) None)
    by true t m = (m.0, less e.0 end t, m.1, m.2, m.3)
    by false t m = λ v a b. m.3 v a (omega (arith, not_less e.0 end t, b))

-- none is found past the last page
pub none_on : (f : ℕ → ℕ) (page at end last : ℕ) → ((v : ℕ) → f v ≢ 0 → v < 2 ^ 36) → NoneOn f page at → last ≡ min end (2 ^ 36) → last ≤ at → NoneOn f page end
none_on f page at end last b h m l v p q = by (cases_eq (f v) 0) (cases_lt v at)
  where
    by : (f v ≡ 0) ⊎ (f v ≢ 0) → (v < at) ⊎ (at ≤ v) → f v ≡ 0
    by (inl z) w = z
    by (inr z) (inl w) = h v p w
    by (inr z) (inr w) = absurd (omega (arith, b v z, m, l, q, w))
