-- Where among the entries a page has its place.
use Rattle.std.specs.Prelude.{ℕ, ◌<◌, ◌≤◌, List, length, slice_index}
use Rattle.mirror_tables.specs.Blocks.{keys}
use Rattle.mirror_tables.specs.declared.entry.MirrorEntry.{MirrorEntry}

-- the pages below the place are lower, and those from there on are not
pub record IsPlace (es : List (ℕ × MirrorEntry)) (page at : ℕ) : Type 0 where
  pub within : at ≤ length es
  pub below : (k : ℕ) → k < at → slice_index (keys es) k < page
  pub from : (k : ℕ) → at ≤ k → k < length es → page ≤ slice_index (keys es) k
