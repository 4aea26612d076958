-- The numbers of rows, by a word for each table.
use Rattle.std.specs.Prelude.{◌≡◌, ◌≢◌, ℕ, ◌+◌, ◌*◌, ◌/◌, ◌%◌, ◌^◌, ◌<◌, ◌==◌, if◌then◌else◌, ◌⊎◌, List, length}
use Rattle.std.specs.Prelude.{slice_index}

-- the number that a table with this word has for one of its eight rows, 0 if there is none
abbrev pub number_in : ℕ → ℕ → ℕ
number_in head which =
    if head == 0 then 0
    else (if head % 2 == 0 then head / 2 + which else (if (head / 2) % 8 == which then head / 16 else 0))

-- the number of a row, eight for each table
abbrev pub number_at : List ℕ → ℕ → ℕ
number_at heads k = number_in (slice_index heads (k / 8)) (k % 8)

-- the word of a table with one row, which is this one of the eight
abbrev pub head_of : ℕ → ℕ → ℕ
head_of row which = row * 16 + which * 2 + 1

-- the word of a table with eight rows
abbrev pub all_of : ℕ → ℕ
all_of first = first * 2

-- a table has one row, which is this one of the eight and has this number
pub record HasOne (rows : List ℕ) (table which row : ℕ) : Type 0 where
  pub low : which < 8
  pub here : slice_index rows (table * 8 + which) ≡ row
  pub others : (k : ℕ) → k / 8 ≡ table → k % 8 ≢ which → slice_index rows k ≡ 0

-- a table has no row, or all eight
abbrev pub IsAllOrNone : List ℕ → ℕ → Type 0
IsAllOrNone rows table =
    ((k : ℕ) → k / 8 ≡ table → slice_index rows k ≡ 0) ⊎ ((k : ℕ) → k / 8 ≡ table → slice_index rows k ≢ 0)

-- a table has eight rows side by side, the first of which has this number; the other tables have theirs
pub record IsSpread (rows now : List ℕ) (table first : ℕ) : Type 0 where
  pub long : length now ≡ length rows
  pub here : (k : ℕ) → k / 8 ≡ table → slice_index now k ≡ first + k % 8
  pub there : (k : ℕ) → k / 8 ≢ table → slice_index now k ≡ slice_index rows k

-- each number that a table with this word has for its eight rows is low, so that the words of a row have their places
abbrev pub IsLow : ℕ → Type 0
IsLow head = head % 2 ≡ 0 → head / 2 + 7 < 2 ^ 60

-- so it is of the words of all tables
abbrev pub AreHeads : List ℕ → Type 0
AreHeads heads = (t : ℕ) → IsLow (slice_index heads t)
