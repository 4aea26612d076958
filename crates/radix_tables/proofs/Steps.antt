-- Steps down the levels.
use Rattle.std.proofs.Common.{◌≡◌, ◌≢◌, ℕ, ◌/◌, ◌^◌, ◌<◌, ◌≤◌, not, eqb, List, [], ◌∷◌, length, subst, sym, arith, ◌⊎◌, inl, inr}
use Rattle.std.proofs.lemmas.Bool.{cases_eq}
use Rattle.std.proofs.lemmas.Bool.Decides.{nat_tests}
use Rattle.std.proofs.lemmas.List.Sums.{count_by-le-length}
use Rattle.radix_tables.specs.Walks.{named_in, table_in, entry_in, IsWhole, AreTables}
use Rattle.radix_tables.specs.Levels.{IsLevels, IsStepIn}
use Rattle.radix_tables.specs.declared.levels.Levels.{Levels}
use Rattle.radix_tables.specs.declared.level_tables.Step.{Step}
use Rattle.radix_tables.specs.declared.level_tables.Step.TheVariants.{Table}
use Rattle.radix_tables.proofs.Tables.{table_first, table_entry}

-- how far a table reaches
pub table_small : (a : List (List ℕ)) (n m : ℕ) → AreTables m a → m < 2 ^ 63 → table_in a n < 2 ^ 57
table_small a n m h l = by a h (cases_eq n 0)
  where
    first : (a : List (List ℕ)) → n ≡ 0 → table_in a n < 2 ^ 57
    first a z = omega (arith, table_first a n z)

    none : n ≢ 0 → table_in [] n ≡ 0
    none z = grind (arith, nat_tests)

    by : (a : List (List ℕ)) → AreTables m a → (n ≡ 0) ⊎ (n ≢ 0) → table_in a n < 2 ^ 57
    by a h (inl z) = first a z
    by [] h (inr z) = omega (arith, none z)
    by (xs ∷ b) h (inr z) = there (cases_eq (entry_in xs b n) 0)
      where
        there : (entry_in xs b n ≡ 0) ⊎ (entry_in xs b n ≢ 0) → table_in (xs ∷ b) n < 2 ^ 57
        there (inl e) = omega (arith, table_entry xs b n z, e)
        there (inr e) = omega (arith, table_entry xs b n z, h.0.inside _ e)

pub step_small : (a : List (List ℕ)) (n m : ℕ) (r : Step) → AreTables m a → m < 2 ^ 63 → IsStepIn a n r → (t : ℕ) → r ≡ Table t → t < 2 ^ 57
step_small a n m r h l s t e = let f : IsStepIn a n (Table t) = subst (IsStepIn a n) e s in omega (arith, f.0, table_small a n m h l)

-- a level names few tables of the one below, so there are few words
pub words_few : (l : Levels) → IsLevels l → length l.words.items < 2 ^ 63
words_few l h = omega (
  arith,
  h.tables.0.few,
  h.tables.1.0.few,
  h.tables.1.1.0.few,
  h.tables.1.1.1.0.few,
  h.tables.1.1.1.1.0.few,
  h.tables.1.1.1.1.1,
  named l.second.items,
  named l.third.items,
  named l.fourth.items,
  named l.fifth.items,
  named l.sixth.items,
)
  where
    named : (xs : List ℕ) → named_in xs ≤ length xs
    named xs = count_by-le-length (λ e. not (eqb e 0)) xs

-- a step goes down a level
pub step_on : (xs ys : List ℕ) (a : List (List ℕ)) (n : ℕ) (above r : Step) → ys ≡ xs → IsWhole xs → IsStepIn a (n / 64) above →
    ((levels : List (List ℕ)) → IsWhole ys → IsStepIn levels (n / 64) above → IsStepIn (ys ∷ levels) n r) → IsStepIn (xs ∷ a) n r
step_on xs ys a n above r e w s f = subst (λ (zs : List ℕ). IsStepIn (zs ∷ a) n r) e (f a (subst IsWhole (sym e) w) s)

-- the table of the highest level
pub step_root : (n : ℕ) → n ≡ 0 → IsStepIn [] n (Table 1)
step_root n e = (sym (table_first [] n e), some 1 (omega arith))
  where
    some : (t : ℕ) → 0 < t → t ≢ 0
    some t l e = absurd (omega arith)
