-- How often each page was accessed, as the counts tell it.
use Rattle.std.specs.Prelude.{◌≡◌, ℕ, ◌+◌, ◌≤◌, ◌<◌, ◌==◌, if◌then◌else◌, Option, Some, None, unwrap_or}
use Rattle.std.specs.Ordering.{nat_cmp}
use Rattle.std.specs.BTreeMap as tree
use Rattle.hm_advisor.specs.declared.tally.Tally.{Tally}

-- how often the page was accessed
abbrev pub count_in : Tally → ℕ → ℕ
count_in t v = unwrap_or (tree.get nat_cmp t.counts v) 0

-- one access of the page more, and as many of each other page
abbrev pub IsAdded : Tally → Tally → ℕ → Type 0
IsAdded before after page =
    (v : ℕ) → count_in after v ≡ (if v == page then count_in before v + 1 else count_in before v)

-- a page from there on, and none before it was accessed; without one, none was
abbrev pub IsFirst : Tally → ℕ → Option ℕ → Type 0
IsFirst t from None = (v : ℕ) → from ≤ v → count_in t v ≡ 0
IsFirst t from (Some page) = (from ≤ page) × ((v : ℕ) → from ≤ v → v < page → count_in t v ≡ 0)

-- a page from there on, at most the end, and none before it was accessed
pub record IsNext (t : Tally) (from end page : ℕ) : Type 0 where
  pub above : from ≤ page
  pub within : page ≤ end
  pub none : (v : ℕ) → from ≤ v → v < page → count_in t v ≡ 0
