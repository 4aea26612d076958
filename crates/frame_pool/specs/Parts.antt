-- Parts of a pool's bytes, 512 bytes each, and marks that say which may hold another byte than 0.
use Rattle.std.specs.Prelude.{◌≡◌, ℕ, ◌/◌, ◌≤◌, Bool, false, List, length, replicate, slice_index, slice_index_or}

-- a part of zeros
unfoldable pub zero_part : List ℕ
zero_part = replicate 512 0

-- the marks of the parts of so many bytes; those past the list are false
pub record Marks : Type 0 where
  pub size : ℕ
  pub marks : List Bool

-- the part has a mark
abbrev pub part_marked : Marks → ℕ → Bool
part_marked m k = slice_index_or m.marks k false

-- there is a mark for each byte's part, and a part without one has zeros alone
pub record AreParts (bytes : List ℕ) (m : Marks) : Type 0 where
  pub room : length bytes ≤ m.size
  pub blank : (i : ℕ) → part_marked m (i / 512) ≡ false → slice_index bytes i ≡ 0
