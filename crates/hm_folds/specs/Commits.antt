-- Where the frames were committed to, of all pools.
use Rattle.std.specs.Prelude.{ℕ, Option, Some, None, option_map, List, slice_get}
use Rattle.std.specs.Ordering.{nat_cmp}
use Rattle.std.specs.BTreeMap as tree
use Rattle.hm_base.specs.declared.Frame.{Frame}
use Rattle.hm_base.specs.PlaceWords.{pool_index}
use Rattle.hm_folds.specs.TableMap.{pool_of}
use Rattle.hm_folds.specs.declared.commits.KeptFrame.{KeptFrame}
use Rattle.hm_folds.specs.declared.commits.PoolCommits.{PoolCommits}

-- the frame of a pair of numbers, which takes less room
abbrev pub frame_kept : KeptFrame → Frame
frame_kept x = record { pool = pool_of x.dev; number = x.number }

-- where a frame of the pool was committed to
abbrev pub frame_in : PoolCommits → ℕ → Option Frame
frame_in x n = option_map frame_kept (tree.get nat_cmp x.frames n)

-- the same of a pool that may not be kept
abbrev pub frame_of : ℕ → Option PoolCommits → Option Frame
frame_of n None = None
frame_of n (Some x) = frame_in x n

-- where a frame was committed to
abbrev pub committed_at : List PoolCommits → Frame → Option Frame
committed_at xs f = frame_of f.number (slice_get xs (pool_index f.pool))
