-- The next number above one, found by trying the numbers in turn.
use Rattle.std.proofs.Common.{◌≡◌, ℕ, zero, suc, ◌+◌, ◌<◌, ◌≤◌, Bool, true, false, ◌&&◌, ltb, Option, Some, None, List, [], ◌∷◌, length, get_or, find, ◌∙◌, refl, sym, ◌⊎◌, inl, inr, arith}
use Rattle.std.proofs.lemmas.Bool.{cases_lt, and_left}
use Rattle.std.proofs.lemmas.Bool.Decides.{nat_tests}
use Rattle.hm_base.specs.Pages.{Pages}
use Rattle.interval_tree.specs.Intervals.{numbers, all_ids, overlaps, is_above, next_overlapping}
use Rattle.interval_tree.proofs.Next.{find_least, find-filter}

none_within : (p : ℕ → Bool) (from n : ℕ) → ((k : ℕ) → from ≤ k → k < from + n → p k ≡ false) → find p (numbers from n) ≡ None
none_within p from zero f = refl
none_within p from (suc n) f = rw (f from (omega arith) (omega arith)) (none_within p (from + 1) n (λ k l m. f k (omega arith) (omega arith)))

not_above : (b : Bool) (k m : ℕ) → m ≤ k → (b && ltb k m) ≡ false
not_above true k m l = grind (arith, nat_tests)
not_above false k m l = refl

above : (b : Bool) (k m : ℕ) → b ≡ true → k < m → (b && ltb k m) ≡ true
above true k m e l = grind (arith, nat_tests)
above false k m e l = absurd (let c : ⊥ = cc in c)

passed : (spans : List (Option Pages)) (s : Pages) (k m : ℕ) → ((j : ℕ) → k < j → j < m → overlaps spans s j ≡ false) → (j : ℕ) → j < m → (overlaps spans s j && ltb k j) ≡ false
passed spans s k m f j l = by (cases_lt k j)
  where
    by : (k < j) ⊎ (j ≤ k) → (overlaps spans s j && ltb k j) ≡ false
    by (inl a) = and_left (overlaps spans s j) (ltb k j) (f j a l)
    by (inr a) = not_above (overlaps spans s j) k j a

pub found_above : (spans : List (Option Pages)) (s : Pages) (k m : ℕ) → k < m → m < 32 → overlaps spans s m ≡ true → ((j : ℕ) → k < j → j < m → overlaps spans s j ≡ false) → Some m ≡ next_overlapping spans s (Some k)
unfolding all_ids
found_above spans s k m l n t f = sym (find-filter (is_above (Some k)) (overlaps spans s) (numbers 0 32)
    ∙ find_least (λ j. overlaps spans s j && is_above (Some k) j) 0 32 m (omega arith) n (above (overlaps spans s m) k m t l) (passed spans s k m f))

pub none_above : (spans : List (Option Pages)) (s : Pages) (k : ℕ) → ((j : ℕ) → k < j → j < 32 → overlaps spans s j ≡ false) → None ≡ next_overlapping spans s (Some k)
unfolding all_ids
none_above spans s k f = sym (find-filter (is_above (Some k)) (overlaps spans s) (numbers 0 32)
    ∙ none_within (λ j. overlaps spans s j && is_above (Some k) j) 0 32 (λ j l m. passed spans s k 32 f j m))

-- an interval that is read by its number
pub read_at : (spans : List (Option Pages)) (m : ℕ) (x e : Option Pages) → m < length spans → get_or spans m e ≡ get_or spans m x
read_at [] m x e l = absurd (omega arith)
read_at (s ∷ spans) zero x e l = refl
read_at (s ∷ spans) (suc m) x e l = read_at spans m x e (omega arith)
