-- The bytes of frames, as contracts see them.
use Rattle.std.specs.Prelude.{ℕ, ◌+◌, ◌*◌, nat_lt, if◌then◌else◌, List}
use Rattle.hm_base.specs.PlaceWords.{pool_index}
use Rattle.hm_base.specs.declared.Frame.{Frame}
use Rattle.hm_race_keys.specs.declared.sparse.Item.{Item}
use Rattle.hm_race_states.specs.Bytes.{bytes_in}
use Rattle.hm_race_states.specs.declared.memory.Written.{Written}

-- the byte of a frame at an offset, if the frames of a pool lie one after the other, as the pages of a process would
abbrev pub framed : (ℕ → ℕ → ℕ) → Frame → ℕ → ℕ
framed bytes f o = if nat_lt o 4096 then bytes (pool_index f.pool) (f.number * 4096 + o) else 0

-- the same by the items
abbrev pub contents_in : List (Item Written) → Frame → ℕ → ℕ
contents_in xs = framed (bytes_in xs)
