-- For each frame, how many pages have to do with it, and how many of them are writable.
use Rattle.std.specs.Prelude.{ℕ, ◌+◌, ◌-◌, ◌^◌, ◌<◌, Bool, ◌||◌, ◌==◌, nat_le, Option, Some, None, is_some, unwrap_or}
use Rattle.std.specs.Prelude.{List, slice_get}
use Rattle.std.specs.Ordering.{nat_cmp}
use Rattle.std.specs.BTreeMap as tree
use Rattle.hm_base.specs.declared.Frame.{Frame}
use Rattle.hm_base.specs.PlaceWords.{pool_index}
use Rattle.hm_folds.specs.declared.shares.Shares.{Shares}
use Rattle.hm_folds.specs.declared.shares.PoolShares.{PoolShares}

-- a frame that no page has to do with
abbrev pub no_shares : Shares
no_shares = record { pages = 0; writers = 0 }

-- the pages of both
abbrev pub plus : Shares → Shares → Shares
plus x y = record { pages = x.pages + y.pages; writers = x.writers + y.writers }

-- the numbers of both together can be written
abbrev pub Fit : Shares → Shares → Type 0
Fit x y = (x.pages + y.pages < 2 ^ 64) × (x.writers + y.writers < 2 ^ 64)

-- so it is whatever frame they come to
abbrev pub AllFit : (Frame → Shares) → Shares → Type 0
AllFit shares more = (f : Frame) → Fit (shares f) more

-- the pages of the first without those of the second
abbrev pub less : Shares → Shares → Shares
less x y = record { pages = x.pages - y.pages; writers = x.writers - y.writers }

-- none is writable, or there is one page at the most
abbrev pub has_one_writer : Shares → Bool
has_one_writer x = nat_le x.pages 1 || (x.writers == 0)

-- the shares of a frame in its pool
abbrev pub shares_in : PoolShares → ℕ → Shares
shares_in x n = unwrap_or (tree.get nat_cmp x.shares n) no_shares

-- it has a place in the map
abbrev pub has_shares : PoolShares → ℕ → Bool
has_shares x n = is_some (tree.get nat_cmp x.shares n)

-- the shares of a frame in a pool that may not be kept
abbrev pub shares_of : ℕ → Option PoolShares → Shares
shares_of n None = no_shares
shares_of n (Some x) = shares_in x n

-- those of a frame
abbrev pub shares_at : List PoolShares → Frame → Shares
shares_at xs f = shares_of f.number (slice_get xs (pool_index f.pool))
