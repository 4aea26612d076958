-- How a radix table keeps its map.
use Rattle.std.specs.Prelude.{◌≡◌, ◌^◌, ◌<◌}
use Rattle.radix_tables.specs.Maps.{Map, map_of}
use Rattle.radix_tables.specs.Levels.{IsLevels, from_second, room_of, word_of}
use Rattle.radix_tables.specs.Walks.{table_in}
use Rattle.radix_tables.specs.declared.last_table.LastTable.{LastTable}
use Rattle.radix_tables.specs.declared.levels.Levels.{Levels}
use Rattle.radix_tables.specs.declared.radix.Radix.TheInside.{Inside}

-- the map that the levels keep
abbrev pub map_in : Inside → Map
map_in a = map_of (word_of a.levels) (room_of a.levels)

-- the table that is remembered is that of its block of pages, if it is a block
abbrev pub IsLast : Levels → LastTable → Type 0
IsLast l t = t.block < 2 ^ 30 → t.table ≡ table_in (from_second l) t.block

-- what always holds of a radix table
pub record IsRadix (a : Inside) : Type 0 where
  pub levels : IsLevels a.levels
  pub last : IsLast a.levels a.last
