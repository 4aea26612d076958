-- The map that a radix table is: its words with their pages, in rising order of the pages.
use Rattle.std.specs.Prelude.{ℕ, ◌%◌, ◌^◌, Bool, not, ◌&&◌, ◌==◌, nat_le, nat_lt, Option, Some, None, List, [], ◌∷◌}
use Rattle.std.specs.Prelude.{unwrap_or, find, if◌then◌else◌}
use Rattle.std.specs.List.{filter, flat_map, list_any, range_with_len}
use Rattle.std.specs.Ordering.{nat_cmp}
use Rattle.std.specs.FinMap.Entries as sorted

-- the words that are not 0, by page, and the pages for whose words there is room
pub record Map : Type 0 where
  pub words : List (ℕ × ℕ)
  pub room : List ℕ

-- the word of a page, 0 if there is none
abbrev pub word_at : Map → ℕ → ℕ
word_at m page = unwrap_or (sorted.find nat_cmp page m.words) 0

-- there is room for the word of the page, so that setting it asks for no memory
abbrev pub is_reserved : Map → ℕ → Bool
is_reserved m page = list_any (λ v. v == page) m.room

-- the map once the page has the word
abbrev pub with_word : Map → ℕ → ℕ → Map
with_word m page word = record m { words = sorted.put nat_cmp page word m.words }

-- the map once the page has none
abbrev pub without_word : Map → ℕ → Map
without_word m page = record m { words = sorted.where_key nat_cmp (λ v. not (v == page)) m.words }

-- the map without its room, if it has no word
abbrev pub room_left : List (ℕ × ℕ) → List ℕ → List ℕ
room_left [] room = []
room_left (_ ∷ _) room = room

-- the map once it has given its room back, which it does if it has no word
abbrev pub given_back : Map → Map
given_back m = record m { room = room_left m.words m.room }

-- a page with its word, if it lies before an end
abbrev pub before : ℕ → Option (ℕ × ℕ) → Option (ℕ × ℕ)
before end None = None
before end (Some e) = if nat_lt e.0 end then Some e else None

-- the first page from there on that has a word, and its word, if it lies before the end
abbrev pub next_word : Map → ℕ → ℕ → Option (ℕ × ℕ)
next_word m page end = before end (find (λ e. nat_le page e.0) m.words)

-- whether a word is marked: by its lowest four bits
abbrev pub is_marked : ℕ → Bool
is_marked w = nat_le 5 (w % 16)

-- the first page from there on whose word is marked, and its word, if it lies before the end
abbrev pub next_marked : Map → ℕ → ℕ → Option (ℕ × ℕ)
next_marked m page end = before end (find (λ e. nat_le page e.0 && is_marked e.1) m.words)

-- a word if it is marked
abbrev pub marked : ℕ → ℕ
marked w = if is_marked w then w else 0

-- the pairs of these numbers and what a function has for them, where that is not 0
abbrev pub pairs : (ℕ → ℕ) → List ℕ → List (ℕ × ℕ)
pairs f ns = flat_map (λ n. if f n == 0 then [] else ((n, f n) ∷ [])) ns

-- how many pages there are
unfoldable pub page_count : ℕ
page_count = 2 ^ 36

-- the numbers of all pages
abbrev pub pages : List ℕ
pages = range_with_len 0 page_count

-- the map of functions that give for each page its word, and whether there is room for it, 0 if there is none
abbrev pub map_of : (ℕ → ℕ) → (ℕ → ℕ) → Map
map_of word room = record { words = pairs word pages; room = filter (λ v. not (room v == 0)) pages }
