-- The six levels of a radix table.
use Rattle.std.specs.Prelude.{◌≡◌, ◌≢◌, ℕ, ◌*◌, ◌/◌, ◌<◌, ◌≤◌, Bool, not, ◌==◌, Option, List, [], ◌∷◌, length}
use Rattle.std.specs.Prelude.{slice_index}
use Rattle.std.specs.Option.{MatchOption}
use Rattle.frame_pool.specs.Bits.{bit}
use Rattle.radix_tables.specs.Maps.{is_marked, marked}
use Rattle.radix_tables.specs.Walks.{table_in, entry_in, IsWhole, AreTables}
use Rattle.radix_tables.specs.declared.levels.Levels.{Levels}
use Rattle.radix_tables.specs.declared.level_tables.Step.{Step}
use Rattle.radix_tables.specs.declared.level_tables.Step.TheVariants.{Table, Gap}

-- a bit for each word, which says whether it passes a test
pub record AreBits (test : ℕ → Bool) (words bits : List ℕ) : Type 0 where
  pub covers : length words ≤ 64 * length bits
  pub each : (k : ℕ) → bit bits k ≡ test (slice_index words k)

-- a page has this word: it is not 0
abbrev pub is_used : ℕ → Bool
is_used w = not (w == 0)

-- the levels from one on up
abbrev pub from_sixth : Levels → List (List ℕ)
from_sixth l = l.sixth.items ∷ []

-- from the fifth on
abbrev pub from_fifth : Levels → List (List ℕ)
from_fifth l = l.fifth.items ∷ from_sixth l

-- from the fourth on
abbrev pub from_fourth : Levels → List (List ℕ)
from_fourth l = l.fourth.items ∷ from_fifth l

-- from the third on
abbrev pub from_third : Levels → List (List ℕ)
from_third l = l.third.items ∷ from_fourth l

-- from the second on: all that lead to a table of words
abbrev pub from_second : Levels → List (List ℕ)
from_second l = l.second.items ∷ from_third l

-- the levels fit together: each entry names a table that is there, and the bits say which words are used
-- and which are marked
pub record IsLevels (l : Levels) : Type 0 where
  pub words : IsWhole l.words.items
  pub room : IsWhole l.words.room
  pub long : length l.words.room ≡ length l.words.items
  pub tables : AreTables (length l.words.items) (from_second l)
  pub used : AreBits is_used l.words.items l.used.items
  pub marks : AreBits is_marked l.words.items l.marks.items

-- the word of a page, 0 if there is none
abbrev pub word_of : Levels → ℕ → ℕ
word_of l page = entry_in l.words.items (from_second l) page

-- whether there is memory for the word of a page: 0 if there is none
abbrev pub room_of : Levels → ℕ → ℕ
room_of l page = entry_in l.words.room (from_second l) page

-- the word of a page if it is marked
abbrev pub marked_of : Levels → ℕ → ℕ
marked_of l page = marked (word_of l page)

-- no page has another word, or room for one that it had not
pub record IsSame (l m : Levels) : Type 0 where
  pub levels : IsLevels m
  pub words : (v : ℕ) → word_of m v ≡ word_of l v
  pub room : (v : ℕ) → room_of m v ≡ room_of l v

-- there is room for the word of the page, no word is another, and all that had room have it
pub record IsMade (l m : Levels) (page : ℕ) : Type 0 where
  pub levels : IsLevels m
  pub words : (v : ℕ) → word_of m v ≡ word_of l v
  pub made : room_of m page ≢ 0
  pub kept : (v : ℕ) → room_of l v ≢ 0 → room_of m v ≢ 0

-- the table of a number that these levels name, or a number before which they name none from this one on
abbrev pub IsStepIn : List (List ℕ) → ℕ → Step → Type 0
IsStepIn levels n (Table t) = (t ≡ table_in levels n) × (t ≢ 0)
IsStepIn levels n (Gap q) = (n < q) × ((k : ℕ) → n ≤ k → k < q → table_in levels k ≡ 0)

-- the table of the page, or a page before which there is no word from this one on
abbrev pub IsStep : Levels → ℕ → Step → Type 0
IsStep l page (Table t) = (t ≡ table_in (from_second l) (page / 64)) × (t ≢ 0)
IsStep l page (Gap q) = (page < q) × ((v : ℕ) → page ≤ v → v < q → word_of l v ≡ 0)

-- the least page from there on and before the end with a word, and that word
abbrev pub IsLeast : (ℕ → ℕ) → ℕ → ℕ → Option (ℕ × ℕ) → Type 0
IsLeast word page end r = MatchOption r ((v : ℕ) → page ≤ v → v < end → word v ≡ 0)
    (λ e. (page ≤ e.0) × (e.0 < end) × (word e.0 ≡ e.1) × (e.1 ≢ 0) × ((v : ℕ) → page ≤ v → v < e.0 → word v ≡ 0))
