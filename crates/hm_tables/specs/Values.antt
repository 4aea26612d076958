-- The page tables of the processes, and the reverse maps of the pools.
use Rattle.std.specs.Prelude.{ℕ, Bool, Option, Some, None, is_some, List, [], length, unwrap_or, option_map, find}
use Rattle.std.specs.Prelude.{slice_index_or, if◌then◌else◌}
use Rattle.hm_base.specs.declared.PoolId.{PoolId}
use Rattle.hm_base.specs.declared.Frame.{Frame}
use Rattle.hm_base.specs.declared.Place.{Place}
use Rattle.hm_base.specs.declared.Place.TheVariants.{Empty}
use Rattle.hm_base.specs.PlaceWords.{names, moving_frame, is_frame, is_empty_place}
use Rattle.entry_words.specs.Word.{pool_field, word_of}
use Rattle.entry_words.specs.Reading.{place_at}
use Rattle.radix_tables.specs.Maps.{Map, word_at, with_word, without_word}
use Rattle.rev_maps.specs.declared.uses.Use.{Use}
use Rattle.rev_maps.specs.Uses.{Uses, uses_of, is_by}

-- the table of each process; the uses of each frame of the system's pool, and then of each device's
pub record Tables : Type 0 where
  pub processes : List Map
  pub pools : List (List Uses)

-- a table of no page
abbrev pub no_words : Map
no_words = record { words = []; room = [] }

-- the table of a process; one of no page if the number is none
abbrev pub table_of : Tables → ℕ → Map
table_of x p = slice_index_or x.processes p no_words

-- the uses of the frames of a pool
abbrev pub pool_in : List (List Uses) → PoolId → List Uses
pool_in pools pool = slice_index_or pools (pool_field pool) []

-- how many frames a pool has
abbrev pub size_in : List (List Uses) → PoolId → ℕ
size_in pools pool = length (pool_in pools pool)

-- the uses of a frame: which pages name it
abbrev pub uses_in : List (List Uses) → Frame → Uses
uses_in pools f = uses_of (pool_in pools f.pool) f.number

-- the place that a word stands for
unfoldable pub place_of_word : ℕ → Place
place_of_word w = unwrap_or (place_at w) Empty

-- the place of a page in a table; the empty place if it has no word
abbrev pub place_in_table : Map → ℕ → Place
place_in_table m v = place_of_word (word_at m v)

-- the place of a page of a process
abbrev pub place_of : Tables → ℕ → ℕ → Place
place_of x p v = place_in_table (table_of x p) v

-- the table with a place at a page
abbrev pub table_with : Map → ℕ → Place → Map
table_with m v x = if is_empty_place x then without_word m v else with_word m v (word_of x)

-- the place is a migration entry
abbrev pub is_moving : Place → Bool
is_moving x = is_some (moving_frame x)

-- the frame has a use by that page, and whether that is a migration entry
abbrev pub mark_by : ℕ → ℕ → List Use → Option Bool
mark_by p v us = option_map (λ u. u.moving) (find (is_by p v) us)

-- the same, by the place of the page
abbrev pub mark_of : Place → Frame → Option Bool
mark_of x f = if is_frame (names x) f then Some (is_moving x) else None
