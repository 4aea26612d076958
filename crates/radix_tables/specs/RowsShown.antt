-- The words that rows keep.
use Rattle.radix_tables.specs.Rows.{Words, AreRows, over, row_at, word_in}
use Rattle.radix_tables.specs.declared.word_rows.WordRows.TheInside.{Inside}

-- the words of rows and their room
abbrev pub words_of : Inside → Words
words_of a = record {
  items = over (word_in a.rows a.words.items) a.rows;
  room = over (row_at a.rows) a.rows;
}

-- what always holds of rows
abbrev pub AreSound : Inside → Type 0
AreSound a = AreRows a.rows a.words.items
