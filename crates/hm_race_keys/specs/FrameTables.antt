-- What the items of frames stand for.
use Rattle.std.specs.Prelude.{ℕ, ⊤, Bool, Option, List, is_some}
use Rattle.hm_base.specs.PlaceWords.{pool_index}
use Rattle.hm_base.specs.declared.Frame.{Frame}
use Rattle.hm_race_keys.specs.Sparse.{found, mixed}
use Rattle.hm_race_keys.specs.declared.sparse.Item.{Item}

-- the frame is held, by the items
abbrev pub held_in : List (Item ⊤) → Frame → Bool
held_in xs f = is_some (found xs (pool_index f.pool) f.number)

-- a held frame adds nothing to a sum but its number
abbrev pub mixed_held : ⊤ → ℕ → ℕ
mixed_held x sum = sum

-- who has the frame locked, by the items
abbrev pub lockers_in : List (Item ℕ) → Frame → Option ℕ
lockers_in xs f = found xs (pool_index f.pool) f.number

-- a sum with an actor mixed in
abbrev pub mixed_actor : ℕ → ℕ → ℕ
mixed_actor a sum = mixed sum a
