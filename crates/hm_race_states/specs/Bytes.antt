-- The bytes of the processes of a state, as contracts see them.
use Rattle.std.specs.Prelude.{◌≡◌, ℕ, Bool, true, not, ◌==◌, Option, Some, None, List}
use Rattle.hm_race_keys.specs.Sparse.{found, mixed}
use Rattle.hm_race_keys.specs.declared.sparse.Item.{Item}
use Rattle.hm_race_states.specs.declared.memory.Written.{Written}

-- a byte that may not be kept; then it is 0
abbrev pub byte_of : Option Written → ℕ
byte_of None = 0
byte_of (Some x) = x.byte

-- the byte of a process at an address, by the items
abbrev pub bytes_in : List (Item Written) → ℕ → ℕ → ℕ
bytes_in xs p a = byte_of (found xs p a)

-- nothing, or a byte that is not 0
abbrev pub may_keep : Option Written → Bool
may_keep None = true
may_keep (Some x) = not (x.byte == 0)

-- no byte that is kept is 0
abbrev pub IsKept : List (Item Written) → Type 0
IsKept xs = (p a : ℕ) → may_keep (found xs p a) ≡ true

-- a sum with a byte mixed in
abbrev pub mixed_byte : Written → ℕ → ℕ
mixed_byte x sum = mixed sum x.byte
