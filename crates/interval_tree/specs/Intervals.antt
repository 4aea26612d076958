-- Intervals by their numbers, below 32, the room for more, and the least number of those that overlap a span.
use Rattle.std.specs.Prelude.{◌≡◌, ℕ, zero, suc, ◌+◌, ◌<◌, ◌≤◌, Bool, true, false, ◌||◌, nat_lt, ◌==◌, Option, Some}
use Rattle.std.specs.Prelude.{None, is_some, List, [], ◌∷◌, length, filter, find, count_by, slice_index_or}
use Rattle.hm_base.specs.Pages.{Pages, overlap}
use Rattle.interval_tree.specs.declared.node.Interval.{Interval}

-- the span of each number that has an interval, and room for more
pub record Intervals : Type 0 where
  pub spans : List (Option Pages)
  pub spare : ℕ

-- the span of a number, if it has an interval
abbrev pub span_at : List (Option Pages) → ℕ → Option Pages
span_at spans m = slice_index_or spans m None

-- n numbers from one on
abbrev pub numbers : ℕ → ℕ → List ℕ
numbers from zero = []
numbers from (suc n) = from ∷ numbers (from + 1) n

unfoldable pub all_ids : List ℕ
all_ids = numbers 0 32

-- the span of an interval, if there is one, overlaps another
abbrev pub span_overlaps : Pages → Option Pages → Bool
span_overlaps s None = false
span_overlaps s (Some r) = overlap r s

-- the interval of a number overlaps the span
abbrev pub overlaps : List (Option Pages) → Pages → ℕ → Bool
overlaps spans s m = span_overlaps s (span_at spans m)

-- all numbers whose intervals overlap the span, in rising order
abbrev pub overlapping : List (Option Pages) → Pages → List ℕ
overlapping spans s = filter (overlaps spans s) all_ids

-- the number is above the last one, if there was one
abbrev pub is_above : Option ℕ → ℕ → Bool
is_above None m = true
is_above (Some k) m = nat_lt k m

-- the least number that is above
abbrev pub from_of : Option ℕ → ℕ
from_of None = 0
from_of (Some k) = k + 1

-- the least number, above the last one, whose interval overlaps the span
abbrev pub next_overlapping : List (Option Pages) → Pages → Option ℕ → Option ℕ
next_overlapping spans s after = find (is_above after) (overlapping spans s)

-- the intervals of a tree are those of the numbers
abbrev pub Agrees : List (Option Pages) → List Interval → Type 0
Agrees spans [] = Unit {0}
Agrees spans (x ∷ xs) = (x.id < 32) × (span_at spans x.id ≡ Some x.span) × Agrees spans xs

-- no number from here on has an interval
abbrev pub IsEnd : List (Option Pages) → ℕ → Type 0
IsEnd spans end = (m : ℕ) → end ≤ m → span_at spans m ≡ None

-- an interval of the list has this number
abbrev pub has_id : ℕ → List Interval → Bool
has_id m [] = false
has_id m (x ∷ xs) = (x.id == m) || has_id m xs

-- the tree's intervals are those of the numbers: each number's interval is in it once, and no other
pub record IsIndex (spans : List (Option Pages)) (items : List Interval) : Type 0 where
  pub len : length spans ≡ 32
  pub agrees : Agrees spans items
  pub complete : (m : ℕ) → is_some (span_at spans m) ≡ has_id m items
  pub few : length items ≤ count_by is_some spans
