-- The tables that a driver has, as contracts see them.
use Rattle.std.specs.Prelude.{◌≡◌, ℕ, ◌^◌, ◌<◌, true, Option, Some, None, is_some, List}
use Rattle.hm_history.specs.Memory.Places.{TableEntry}
use Rattle.hm_race_keys.specs.Sparse.{found, mixed}
use Rattle.hm_race_keys.specs.TableEntries.{mixed_mapping}
use Rattle.hm_race_keys.specs.declared.sparse.Item.{Item}
use Rattle.hm_flaw_states.specs.declared.own_tables.OwnEntry.{OwnEntry}

-- the table entry that a kept one stands for
abbrev pub entry_of : Option OwnEntry → Option TableEntry
entry_of None = None
entry_of (Some x) = Some (record { target = x.mapping.target; right = x.mapping.right; from = x.since })

-- the table entry of a mirror's page, by the items
abbrev pub table_in : List (Item OwnEntry) → ℕ → ℕ → Option TableEntry
table_in xs m v = entry_of (found xs m v)

-- each entry is a page's
abbrev pub AreOfPages : List (Item OwnEntry) → Type 0
AreOfPages xs = (m v : ℕ) → is_some (found xs m v) ≡ true → v < 2 ^ 36

-- a sum with an entry mixed in
abbrev pub mixed_entry : OwnEntry → ℕ → ℕ
mixed_entry x sum = mixed (mixed_mapping x.mapping sum) x.since
