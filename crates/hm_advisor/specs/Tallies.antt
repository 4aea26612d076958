-- How often each page was accessed, by the tally of a process or of a mirror.
use Rattle.std.specs.Prelude.{◌≡◌, ℕ, ◌+◌, ◌&&◌, ◌==◌, if◌then◌else◌, Option, Some, None, length, slice_get}
use Rattle.hm_advisor.specs.Tally.{count_in}
use Rattle.hm_advisor.specs.declared.tally.Tally.{Tally}
use Rattle.hm_advisor.specs.declared.tallies.Tallies.{Tallies}

-- how often the page was accessed, by a tally if there is one
abbrev pub count_of : ℕ → Option Tally → ℕ
count_of v None = 0
count_of v (Some t) = count_in t v

-- how often the page was accessed, by the tally with that number
abbrev pub tally_count : Tallies → ℕ → ℕ → ℕ
tally_count ts k v = count_of v (slice_get ts.items.items k)

-- there are 32, without a count
pub record IsUnused (ts : Tallies) : Type 0 where
  pub size : length ts.items.items ≡ 32
  pub none : (k v : ℕ) → tally_count ts k v ≡ 0

-- one access of the page more in that tally, and nothing else
abbrev pub IsAddedAt : Tallies → Tallies → ℕ → ℕ → Type 0
IsAddedAt before after at page =
    (k v : ℕ) → tally_count after k v
    ≡ (if (k == at) && (v == page) then tally_count before k v + 1 else tally_count before k v)
