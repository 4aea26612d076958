-- A block of a mirror's table as contracts see it: the entries of its pages, in rising order of the pages.
use Rattle.std.specs.Prelude.{ℕ, ◌<◌, not, Option, List, [], map, length, slice_index}
use Rattle.std.specs.Ordering.{nat_cmp}
use Rattle.std.specs.FinMap.Entries as sorted
use Rattle.hm_base.specs.Pages.{Pages, covers}
use Rattle.mirror_tables.specs.declared.entry.MirrorEntry.{MirrorEntry}

-- the entries with their pages, and how many more there is room for
pub record Block : Type 0 where
  pub entries : List (ℕ × MirrorEntry)
  pub room : ℕ

-- a block with no entries and no room
abbrev pub empty_block : Block
empty_block = record { entries = []; room = 0 }

-- the entry of a page, if it has one
abbrev pub entry_at : Block → ℕ → Option MirrorEntry
entry_at b page = sorted.find nat_cmp page b.entries

-- the entries with one at this page, over the one that was there
abbrev pub with_entry : Block → ℕ → MirrorEntry → List (ℕ × MirrorEntry)
with_entry b page e = sorted.put nat_cmp page e b.entries

-- the entries without those of the span's pages
abbrev pub without_span : Block → Pages → List (ℕ × MirrorEntry)
without_span b s = sorted.where_key nat_cmp (λ v. not (covers s v)) b.entries

-- the block with other entries, and room that may be another
abbrev pub changed : Block → List (ℕ × MirrorEntry) → ℕ → Block
changed b es room = record { entries = es; room = room }

-- the pages of the entries
abbrev pub keys : List (ℕ × MirrorEntry) → List ℕ
keys es = map (λ e. e.0) es

-- the pages rise
pub record IsBlock (es : List (ℕ × MirrorEntry)) : Type 0 where
  pub rising : (i j : ℕ) → i < j → j < length es → slice_index (keys es) i < slice_index (keys es) j
