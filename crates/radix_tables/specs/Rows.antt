-- Words in tables of 64, of which eight lie in a row.
use Rattle.std.specs.Prelude.{◌≡◌, ◌≢◌, ℕ, ◌+◌, ◌*◌, ◌/◌, ◌%◌, ◌<◌, ◌≤◌, List, length, map, slice_index}
use Rattle.std.specs.List.{range_with_len}
use Rattle.radix_tables.specs.Walks.{IsLonger}

-- what a function has for each of eight places of each of these
abbrev pub over : (ℕ → ℕ) → List ℕ → List ℕ
over f rows = map f (range_with_len 0 (8 * length rows))

-- the words of all tables, and for each of them whether there is memory for it: 0 if there is none
pub record Words : Type 0 where
  pub items : List ℕ
  pub room : List ℕ

-- a word has memory now, with others of its table
pub record IsRoomMade (old now : List ℕ) (at : ℕ) : Type 0 where
  pub long : length now ≡ length old
  pub some : slice_index now at ≢ 0
  pub kept : (k : ℕ) → slice_index old k ≢ 0 → slice_index now k ≢ 0
  pub others : (k : ℕ) → k / 64 ≢ at / 64 → slice_index now k ≡ slice_index old k

-- an empty row was added, of this number
pub record IsRowAdded (words now : List ℕ) (row : ℕ) : Type 0 where
  pub longer : IsLonger words now
  pub some : 1 ≤ row
  pub after : length words ≤ row * 8
  pub last : length now ≡ row * 8 + 8

-- eight empty rows were added, the first of which has this number
pub record AreRowsAdded (words now : List ℕ) (first : ℕ) : Type 0 where
  pub longer : IsLonger words now
  pub some : 1 ≤ first
  pub after : length words ≤ first * 8
  pub last : length now ≡ first * 8 + 64

-- a row has the words of another one
pub record IsRowCopied (words now : List ℕ) (from to : ℕ) : Type 0 where
  pub long : length now ≡ length words
  pub here : (k : ℕ) → k / 8 ≡ to → slice_index now k ≡ slice_index words (from * 8 + k % 8)
  pub there : (k : ℕ) → k / 8 ≢ to → slice_index now k ≡ slice_index words k

-- which row has the word
abbrev pub row_at : List ℕ → ℕ → ℕ
row_at rows k = slice_index rows (k / 8)

-- the word there, 0 if there is no row for it
abbrev pub word_in : List ℕ → List ℕ → ℕ → ℕ
word_in rows words k = slice_index words (row_at rows k * 8 + k % 8)

-- each row is named at most once and lies among the words; row 0 stands for those that are not there, and is empty
pub record AreRows (rows words : List ℕ) : Type 0 where
  pub inside : (i : ℕ) → slice_index rows i ≢ 0 → slice_index rows i * 8 + 8 ≤ length words
  pub apart : (i j : ℕ) → slice_index rows i ≡ slice_index rows j → slice_index rows i ≢ 0 → i ≡ j
  pub empty : (i : ℕ) → i < 8 → slice_index words i ≡ 0
  pub whole : length words % 8 ≡ 0
  pub tables : length rows % 8 ≡ 0
