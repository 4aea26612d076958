-- Where frames were committed to, as contracts see it.
use Rattle.std.specs.Prelude.{ℕ, Option, Some, None, List}
use Rattle.hm_base.specs.PlaceWords.{pool_index}
use Rattle.hm_base.specs.declared.Frame.{Frame}
use Rattle.hm_history.specs.Memory.Places.{places_start, places_next}
use Rattle.hm_history.specs.declared.Kind.{Kind}
use Rattle.hm_race_keys.specs.Sparse.{found, mixed}
use Rattle.hm_race_keys.specs.declared.sparse.Item.{Item}
use Rattle.hm_flaw_states.specs.declared.commits.CommittedTo.{CommittedTo}

-- the frame, if one is kept
abbrev pub target_of : Option CommittedTo → Option Frame
target_of None = None
target_of (Some x) = Some x.frame

-- where a frame was committed to, by the items
abbrev pub commits_in : List (Item CommittedTo) → Frame → Option Frame
commits_in xs f = target_of (found xs (pool_index f.pool) f.number)

-- the same after an entry, for which the other parts do not count
abbrev pub commits_next : (Frame → Option Frame) → Kind → Frame → Option Frame
commits_next f k = (places_next (record places_start { committed_to = f }) k).committed_to

-- a sum with a frame mixed in
abbrev pub mixed_target : CommittedTo → ℕ → ℕ
mixed_target x sum = mixed (mixed sum (pool_index x.frame.pool)) x.frame.number
