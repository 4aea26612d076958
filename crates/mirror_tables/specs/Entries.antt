-- The table of a mirror as contracts see it: the entries of its pages, in rising order of the pages.
use Rattle.std.specs.Prelude.{◌≡◌, ℕ, ◌-◌, ◌/◌, ◌<◌, true, not, Option, List, length, slice_index, slice_index_or}
use Rattle.std.specs.Ordering.{nat_cmp}
use Rattle.std.specs.FinMap.Entries as sorted
use Rattle.hm_base.specs.Pages.{Pages, covers}
use Rattle.mirror_tables.specs.Blocks.{keys}
use Rattle.mirror_tables.specs.declared.entry.MirrorEntry.{MirrorEntry}

-- the window, the entries with their pages, and for each block of 256 pages how many more there is room for
pub record Table : Type 0 where
  pub window : Pages
  pub entries : List (ℕ × MirrorEntry)
  pub rooms : List ℕ

-- the entry of a page, if it has one
abbrev pub entry_at : Table → ℕ → Option MirrorEntry
entry_at t page = sorted.find nat_cmp page t.entries

-- the entries with one at this page, over the one that was there
abbrev pub with_entry : Table → ℕ → MirrorEntry → List (ℕ × MirrorEntry)
with_entry t page e = sorted.put nat_cmp page e t.entries

-- the entries without those of the span's pages
abbrev pub without_span : Table → Pages → List (ℕ × MirrorEntry)
without_span t s = sorted.where_key nat_cmp (λ v. not (covers s v)) t.entries

-- the table with other entries, and room that may be another
abbrev pub changed : Table → List (ℕ × MirrorEntry) → List ℕ → Table
changed t es rooms = record t { entries = es; rooms = rooms }

-- the block of a page, counted from the window's first
abbrev pub block_of : Pages → ℕ → ℕ
block_of window page = (page - window.first) / 256

-- how many more entries there is room for in the page's block
abbrev pub room_at : Table → ℕ → ℕ
room_at t page = slice_index_or t.rooms (block_of t.window page) 0

-- the pages rise, and lie in the window
pub record IsTable (window : Pages) (es : List (ℕ × MirrorEntry)) : Type 0 where
  pub rising : (i j : ℕ) → i < j → j < length es → slice_index (keys es) i < slice_index (keys es) j
  pub inside : (i : ℕ) → i < length es → covers window (slice_index (keys es) i) ≡ true
