-- Tables of 64 entries in a row, a level at a time: an entry names a table of the level below, or is a word.
use Rattle.std.specs.Prelude.{◌≡◌, ◌≢◌, ℕ, ◌+◌, ◌*◌, ◌/◌, ◌%◌, ◌<◌, ◌≤◌, ◌==◌, if◌then◌else◌, List, [], ◌∷◌, length}
use Rattle.std.specs.Prelude.{slice_index, slice_set, replicate, ◌++◌, ◌⊎◌, count_by, max, not}

-- the table that these levels, the lowest first, name for a number, 0 for none. That of number 0 is table 1, which no
-- entry names; table 0 of each level is empty and stands for every table that is not there
abbrev pub table_in : List (List ℕ) → ℕ → ℕ
table_in [] n = if n == 0 then 1 else 0
table_in (entries ∷ above) n = if n == 0 then 1 else slice_index entries (table_in above (n / 64) * 64 + n % 64)

-- what the entry for a number is
abbrev pub entry_in : List ℕ → List (List ℕ) → ℕ → ℕ
entry_in entries above n = slice_index entries (table_in above (n / 64) * 64 + n % 64)

-- whole tables, the first of them empty; one more is there where any is
pub record IsWhole (entries : List ℕ) : Type 0 where
  pub whole : length entries % 64 ≡ 0
  pub first : 0 < length entries → 128 ≤ length entries
  pub empty : (i : ℕ) → i < 64 → slice_index entries i ≡ 0

-- how many tables of the level below these entries name
abbrev pub named_in : List ℕ → ℕ
named_in entries = count_by (λ e. not (e == 0)) entries

-- tables whose entries name tables of the level below, each at most once, and none the first; there are few others
pub record IsTables (entries : List ℕ) (below : ℕ) : Type 0 where
  pub tables : IsWhole entries
  pub inside : (i : ℕ) → slice_index entries i ≢ 0 → slice_index entries i * 64 + 64 ≤ below
  pub past : (i : ℕ) → slice_index entries i ≢ 1
  pub apart : (i j : ℕ) → slice_index entries i ≡ slice_index entries j → slice_index entries i ≢ 0 → i ≡ j
  pub few : below ≤ 128 + 192 * named_in entries

-- each level, the lowest first, over a level of this length
abbrev pub AreTables : ℕ → List (List ℕ) → Type 0
AreTables below [] = below ≤ 128
AreTables below (entries ∷ above) = IsTables entries below × AreTables (length entries) above

-- zeros are added at the end
pub record IsLonger (entries now : List ℕ) : Type 0 where
  pub by : ℕ
  pub added : now ≡ entries ++ replicate by 0

-- the first table is there, and zeros were added for it if it was not
pub record IsFirst (entries now : List ℕ) : Type 0 where
  pub longer : IsLonger entries now
  pub whole : IsWhole now
  pub some : 128 ≤ length now
  pub more : length entries ≤ length now
  pub few : length now ≤ max (length entries) 128

-- a table of zeros was added, of this number
pub record IsAdded (entries now : List ℕ) (table : ℕ) : Type 0 where
  pub longer : IsLonger entries now
  pub past : 2 ≤ table
  pub after : length entries ≤ table * 64
  pub last : length now ≡ table * 64 + 64

-- the entry names a table of the level below, which was added if there was none
pub record IsChild (entries now below below_now : List ℕ) (at : ℕ) : Type 0 where
  pub some : slice_index now at ≢ 0
  pub step : ((slice_index entries at ≢ 0) × (now ≡ entries) × (below_now ≡ below)) ⊎
      ((slice_index entries at ≡ 0) × (now ≡ slice_set entries at (slice_index now at)) × (2 ≤ slice_index now at)
      × (length below ≤ slice_index now at * 64)
      × (length below_now ≡ slice_index now at * 64 + 64) × IsLonger below below_now)
  pub few : length below_now ≤ length below + 192

-- the table for a number is there, of a level below these
abbrev pub HasTable : List ℕ → List (List ℕ) → ℕ → Type 0
HasTable entries above n = (table_in above n ≢ 0) × (128 ≤ length entries)
