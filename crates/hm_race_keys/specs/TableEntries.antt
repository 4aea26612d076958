-- What the items of mirrors' tables stand for.
use Rattle.std.specs.Prelude.{ℕ, ◌+◌, Option, Some, None, List}
use Rattle.hm_base.specs.PlaceWords.{pool_index}
use Rattle.hm_base.specs.declared.Frame.{Frame}
use Rattle.hm_history.specs.Memory.Places.{TableEntry}
use Rattle.hm_history.specs.declared.TableRight.{TableRight}
use Rattle.hm_history.specs.declared.TableRight.TheVariants.{Read, Write, Sole}
use Rattle.hm_race_keys.specs.Sparse.{found, mixed}
use Rattle.hm_race_keys.specs.declared.sparse.Item.{Item}
use Rattle.hm_race_keys.specs.declared.table_entries.Mapping.{Mapping}

-- a table entry by what is kept of it, without its position
abbrev pub entry_of : Option Mapping → Option TableEntry
entry_of None = None
entry_of (Some x) = Some (record { target = x.target; right = x.right; from = 0 })

-- the table entry of a mirror's page, by the items
abbrev pub table_in : List (Item Mapping) → ℕ → ℕ → Option TableEntry
table_in xs m v = entry_of (found xs m v)

-- a sum with a frame mixed in, or with the zero page
abbrev pub mixed_target : Option Frame → ℕ → ℕ
mixed_target None sum = mixed sum 0
mixed_target (Some f) sum = mixed (mixed sum (pool_index f.pool + 1)) f.number

-- a right as a number
abbrev pub right_number : TableRight → ℕ
right_number Read = 1
right_number Write = 2
right_number Sole = 3

-- a sum with a table entry mixed in
abbrev pub mixed_mapping : Mapping → ℕ → ℕ
mixed_mapping x sum = mixed (mixed_target x.target sum) (right_number x.right)
