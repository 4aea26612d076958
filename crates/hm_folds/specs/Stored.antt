-- The bytes that a process has written, by address.
use Rattle.std.specs.Prelude.{◌≡◌, ℕ, ◌≤◌, ◌<◌, Bool, Option, Some, None, is_some, unwrap_or}
use Rattle.std.specs.Ordering.{nat_cmp}
use Rattle.std.specs.BTreeMap as tree
use Rattle.hm_folds.specs.declared.stored.Stored.{Stored}

-- the byte at an address
abbrev pub byte_in : Stored → ℕ → ℕ
byte_in x a = unwrap_or (tree.get nat_cmp x.bytes a) 0

-- it has a place in the map
abbrev pub has_byte : Stored → ℕ → Bool
has_byte x a = is_some (tree.get nat_cmp x.bytes a)

-- an address from there on, and all bytes before it are zeros; without one, all are
abbrev pub IsFirst : Stored → ℕ → Option ℕ → Type 0
IsFirst x from None = (a : ℕ) → from ≤ a → byte_in x a ≡ 0
IsFirst x from (Some at) = (from ≤ at) × ((a : ℕ) → from ≤ a → a < at → byte_in x a ≡ 0)
