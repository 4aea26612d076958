-- The blocks of a table, each with the entries of its pages alone.
use Rattle.std.specs.Prelude.{◌≡◌, ℕ, ◌<◌, ◌≤◌, Bool, true, ◌&&◌, ◌==◌, List, [], ◌∷◌, map, length, slice_index_or, ⊤}
use Rattle.std.specs.List.{flat_map}
use Rattle.hm_base.specs.Pages.{Pages, covers}
use Rattle.mirror_tables.specs.Blocks.{Block, empty_block, without_span, IsBlock}
use Rattle.mirror_tables.specs.Entries.{Table, block_of}
use Rattle.mirror_tables.specs.declared.entry.MirrorEntry.{MirrorEntry}

-- the entries of all blocks, one block after the other
abbrev pub all_entries : List Block → List (ℕ × MirrorEntry)
all_entries bs = flat_map (λ b. b.entries) bs

-- the room of each block
abbrev pub rooms_of : List Block → List ℕ
rooms_of bs = map (λ b. b.room) bs

-- the table that the blocks are, as contracts see it
abbrev pub table_of : Pages → List Block → Table
table_of w bs = record { window = w; entries = all_entries bs; rooms = rooms_of bs }

-- a page of the window in its block of this number
abbrev pub in_block : Pages → ℕ → ℕ → Bool
in_block w k page = covers w page && (block_of w page == k)

-- the pages of all entries pass
abbrev pub AllKeys : (ℕ → Bool) → List (ℕ × MirrorEntry) → Type 0
AllKeys test [] = ⊤
AllKeys test (e ∷ es) = (test e.0 ≡ true) × AllKeys test es

-- the entries are those of the block of this number
pub record IsBlockOf (w : Pages) (k : ℕ) (es : List (ℕ × MirrorEntry)) : Type 0 where
  pub rising : IsBlock es
  pub here : AllKeys (in_block w k) es

-- a block by its number; one that has not come has no entries
abbrev pub block_at : List Block → ℕ → Block
block_at bs k = slice_index_or bs k empty_block

-- each block has the entries of its own pages alone, so that a page is looked for in one block
abbrev pub IsDirectory : Pages → List Block → Type 0
IsDirectory w bs = (k : ℕ) → k < length bs → IsBlockOf w k (block_at bs k).entries

-- the blocks with room for an entry more in one of them, and no other entries
pub record IsRoomier (at : ℕ) (bs cs : List Block) : Type 0 where
  pub entries : (k : ℕ) → (block_at cs k).entries ≡ (block_at bs k).entries
  pub rooms : (k : ℕ) → (block_at bs k).room ≤ (block_at cs k).room
  pub room : 1 ≤ (block_at cs at).room

-- one block without the entries of a span, and no less room
pub record IsErasedOf (s : Pages) (b c : Block) : Type 0 where
  pub entries : c.entries ≡ without_span b s
  pub room : b.room ≤ c.room
  pub rising : IsBlock c.entries

-- the blocks from one up to another without the entries of a span
pub record IsErased (s : Pages) (from upto : ℕ) (bs cs : List Block) : Type 0 where
  pub len : length cs ≡ length bs
  pub below : (k : ℕ) → k < from → block_at cs k ≡ block_at bs k
  pub within : (k : ℕ) → from ≤ k → k < upto → k < length bs → IsErasedOf s (block_at bs k) (block_at cs k)
  pub above : (k : ℕ) → upto ≤ k → block_at cs k ≡ block_at bs k
