-- The numbers of rows that the words of tables keep.
use Rattle.std.specs.Prelude.{ℕ, List}
use Rattle.radix_tables.specs.Rows.{over}
use Rattle.radix_tables.specs.Heads.{AreHeads, number_at}
use Rattle.radix_tables.specs.declared.row_numbers.RowNumbers.TheInside.{Inside}

-- the numbers of the rows of all tables
abbrev pub numbers_of : Inside → List ℕ
numbers_of a = over (number_at a.heads.items) a.heads.items

-- what always holds of them
abbrev pub AreSound : Inside → Type 0
AreSound a = AreHeads a.heads.items
