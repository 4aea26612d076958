-- Records in rising page order.
use Rattle.std.specs.Prelude.{ℕ, ◌-◌, ◌<◌, List, length, slice_index_or}
use Rattle.hm_history.specs.declared.phases.Migrating.{Migrating}

-- each page is above those before it
abbrev pub Rises : List Migrating → Type 0
Rises xs = (i j : ℕ) (d : Migrating) → i < j → j < length xs
    → (slice_index_or xs i d).page < (slice_index_or xs j d).page

-- the first n records have pages below this one
abbrev pub IsBefore : ℕ → ℕ → List Migrating → Type 0
IsBefore page n xs = (i : ℕ) (d : Migrating) → i < n → (slice_index_or xs i d).page < page

-- the last page is below this one
abbrev pub EndsBelow : ℕ → List Migrating → Type 0
EndsBelow page xs = (d : Migrating) → 0 < length xs → (slice_index_or xs (length xs - 1) d).page < page
