-- The numbers of rows that the words of tables keep, and what is done to them.
use Rattle.std.proofs.Common.{◌≡◌, ◌≢◌, ℕ, ◌+◌, ◌*◌, ◌/◌, ◌%◌, ◌<◌, ◌≤◌, ◌==◌, List, length, get_or, set, refl, sym, ap, subst, ◌∙◌, arith, ◌⊎◌, inl, inr}
use Rattle.std.specs.Prelude.{if◌then◌else◌}
use Rattle.std.proofs.lemmas.Bool.{cases_eq}
use Rattle.std.proofs.lemmas.Bool.Decides.{nat_tests}
use Rattle.std.proofs.lemmas.Grind.{same_number_lists}
use Rattle.std.proofs.lemmas.List.{get_or-set_same, get_or-set_other, length-set, get_or_past}
use Rattle.radix_tables.specs.Walks.{IsLonger}
use Rattle.radix_tables.specs.Rows.{over}
use Rattle.radix_tables.specs.Heads.{AreHeads, HasOne, IsAllOrNone, IsLow, IsSpread, all_of, head_of, number_at, number_in}
use Rattle.radix_tables.proofs.Tables.{longer}
use Rattle.radix_tables.proofs.RowWords.{over_length, over_at, longer_by}

number_past : (heads : List ℕ) (k : ℕ) → 8 * length heads ≤ k → number_at heads k ≡ 0
number_past heads k l = ap (λ x. number_in x (k % 8)) (get_or_past heads (k / 8) 0 (omega arith))

-- what is read of the numbers
pub number_here : (heads : List ℕ) (k : ℕ) → get_or (over (number_at heads) heads) k 0 ≡ number_at heads k
number_here heads k = over_at (number_at heads) heads k (number_past heads k)

-- ---- the number that a word of a table gives

by_even : (x i : ℕ) → x ≢ 0 → x % 2 ≡ 0 → number_in x i ≡ x / 2 + i
by_even x i d e = grind (arith, nat_tests)

by_odd : (x i : ℕ) → x % 2 ≡ 1 → number_in x i ≡ (if (x / 2) % 8 == i then x / 16 else 0)
by_odd x i e = grind (arith, nat_tests)

same_place : (m n a : ℕ) → m ≡ n → (if m == n then a else 0) ≡ a
same_place m n a e = grind (arith, nat_tests)

other_place : (m n a : ℕ) → m ≢ n → (if m == n then a else 0) ≡ 0
other_place m n a d = grind (arith, nat_tests)

odd_head : (row which : ℕ) → head_of row which % 2 ≡ 1
odd_head row which = omega arith

single_here : (row which : ℕ) → which < 8 → number_in (head_of row which) which ≡ row
single_here row which l = by_odd (head_of row which) which (odd_head row which) ∙ (same_place ((head_of row which / 2) % 8) which (head_of row which / 16) (omega arith) ∙ omega arith)

single_other : (row which i : ℕ) → which < 8 → i ≢ which → number_in (head_of row which) i ≡ 0
single_other row which i l d = by_odd (head_of row which) i (odd_head row which) ∙ other_place ((head_of row which / 2) % 8) i (head_of row which / 16) (λ z. d (sym z ∙ omega arith))

joined : (p q : ℕ) → p / 8 ≡ q / 8 → p % 8 ≡ q % 8 → p ≡ q
joined p q a b = omega arith

-- ---- the only row of a table

pub has_one : (heads : List ℕ) (table : ℕ) → get_or heads table 0 % 2 ≡ 1 → HasOne (over (number_at heads) heads) table ((get_or heads table 0 / 2) % 8) (get_or heads table 0 / 16)
has_one heads table odd = record {
  low = omega arith;
  here =
      let p : (table * 8 + (head / 2) % 8) / 8 ≡ table = omega arith in
      let q : (table * 8 + (head / 2) % 8) % 8 ≡ (head / 2) % 8 = omega arith in
      number_here heads (table * 8 + (head / 2) % 8)
      ∙ (ap (λ t. number_in (get_or heads t 0) ((table * 8 + (head / 2) % 8) % 8)) p ∙ (ap (number_in head) q
      ∙ (by_odd head ((head / 2) % 8) odd ∙ same_place ((head / 2) % 8) ((head / 2) % 8) (head / 16) refl)));
  others = λ k e d.
      number_here heads k ∙ (ap (λ t. number_in (get_or heads t 0) (k % 8)) e
      ∙ (by_odd head (k % 8) odd ∙ other_place ((head / 2) % 8) (k % 8) (head / 16) (λ z. d (sym z))));
}
  where
    head : ℕ
    head = get_or heads table 0

pub all_or_none : (heads : List ℕ) (table : ℕ) → get_or heads table 0 % 2 ≡ 0 → IsAllOrNone (over (number_at heads) heads) table
all_or_none heads table even = by (cases_eq (get_or heads table 0) 0)
  where
    by : (get_or heads table 0 ≡ 0) ⊎ (get_or heads table 0 ≢ 0) → IsAllOrNone (over (number_at heads) heads) table
    by (inl z) = inl (λ k e. number_here heads k ∙ ap (λ x. number_in x (k % 8)) (ap (λ t. get_or heads t 0) e ∙ z))
    by (inr d) = inr (λ k e z. absurd (omega (arith, sym (by_even (get_or heads table 0) (k % 8) d even) ∙ (ap (λ t. number_in (get_or heads t 0) (k % 8)) (sym e) ∙ (sym (number_here heads k) ∙ z)), d, even)))

-- ---- more tables

pub heads_longer : (heads now : List ℕ) → AreHeads heads → IsLonger heads now → AreHeads now
heads_longer heads now h l t = subst IsLow (sym (longer l t)) (h t)

pub numbers_longer : (heads now : List ℕ) → IsLonger heads now → length heads ≤ length now → IsLonger (over (number_at heads) heads) (over (number_at now) now)
numbers_longer heads now l m = longer_by (over (number_at heads) heads) (over (number_at now) now) (omega (arith, over_length (number_at heads) heads, over_length (number_at now) now, m))
    (λ k. number_here now k ∙ (ap (λ x. number_in x (k % 8)) (longer l (k / 8)) ∙ sym (number_here heads k)))

-- ---- a table's word is set

-- the first row of a table
module _ (heads : List ℕ) (at row : ℕ) (inside : at / 8 < length heads) (none : (k : ℕ) → k / 8 ≡ at / 8 → get_or (over (number_at heads) heads) k 0 ≡ 0) where
  abbrev with_first : List ℕ
  with_first = set heads (at / 8) (head_of row (at % 8))

  here : (t : ℕ) → t ≡ at / 8 → get_or with_first t 0 ≡ head_of row (at % 8)
  here t e = ap (λ k. get_or with_first k 0) e ∙ get_or-set_same heads (at / 8) (head_of row (at % 8)) 0 inside

  by_place : (k : ℕ) → (k / 8 ≡ at / 8) ⊎ (k / 8 ≢ at / 8) → (k ≡ at → ⊥) → number_at with_first k ≡ get_or (over (number_at heads) heads) k 0
  by_place k (inl e) d =
      ap (λ x. number_in x (k % 8)) (here (k / 8) e)
      ∙ (single_other row (at % 8) (k % 8) (omega arith) (λ z. d (joined k at e z)) ∙ sym (none k e))
  by_place k (inr n) d = ap (λ x. number_in x (k % 8)) (get_or-set_other heads (at / 8) (k / 8) (head_of row (at % 8)) 0 n) ∙ sym (number_here heads k)

  by_number : (k : ℕ) → (k ≡ at) ⊎ (k ≢ at) → number_at with_first k ≡ get_or (set (over (number_at heads) heads) at row) k 0
  by_number k (inl e) =
      ap (number_at with_first) e
      ∙ (ap (λ x. number_in x (at % 8)) (here (at / 8) refl) ∙ (single_here row (at % 8) (omega arith)
      ∙ sym (ap (λ j. get_or (set (over (number_at heads) heads) at row) j 0) e ∙ get_or-set_same (over (number_at heads) heads) at row 0 (omega (arith, over_length (number_at heads) heads, inside)))))
  by_number k (inr d) = by_place k (cases_eq (k / 8) (at / 8)) d ∙ sym (get_or-set_other (over (number_at heads) heads) at k row 0 d)

  pub first_numbers : over (number_at with_first) with_first ≡ set (over (number_at heads) heads) at row
  first_numbers = same_number_lists (over (number_at with_first) with_first) (set (over (number_at heads) heads) at row)
      (over_length (number_at with_first) with_first ∙ (ap (λ n. 8 * n) (length-set heads (at / 8) (head_of row (at % 8))) ∙ sym (length-set (over (number_at heads) heads) at row ∙ over_length (number_at heads) heads)))
      (λ k m. number_here with_first k ∙ by_number k (cases_eq k at))

-- eight rows of a table
pub all_rows : (heads : List ℕ) (table first : ℕ) → table < length heads → 1 ≤ first → IsSpread (over (number_at heads) heads) (over (number_at (set heads table (all_of first))) (set heads table (all_of first))) table first
all_rows heads table first inside some = record {
  long = over_length (number_at now) now ∙ (ap (λ n. 8 * n) (length-set heads table (all_of first)) ∙ sym (over_length (number_at heads) heads));
  here = λ k e.
      number_here now k ∙ (ap (λ x. number_in x (k % 8)) (ap (λ t. get_or now t 0) e ∙ get_or-set_same heads table (all_of first) 0 inside)
      ∙ (by_even (all_of first) (k % 8) (λ z. absurd (omega (arith, z, some))) (omega arith) ∙ omega arith));
  there = λ k d. number_here now k ∙ (ap (λ x. number_in x (k % 8)) (get_or-set_other heads table (k / 8) (all_of first) 0 d) ∙ sym (number_here heads k));
}
  where
    now : List ℕ
    now = set heads table (all_of first)
