-- The table of a mirror, by page.
use Rattle.std.specs.Prelude.{◌≡◌, ℕ, ◌≤◌, ◌<◌, true, Option, Some, None, is_some, option_map}
use Rattle.std.specs.Ordering.{nat_cmp}
use Rattle.std.specs.BTreeMap as tree
use Rattle.hm_history.specs.Memory.Places.{TableEntry}
use Rattle.hm_base.specs.declared.Frame.{Frame}
use Rattle.hm_base.specs.declared.PoolId.{PoolId}
use Rattle.hm_folds.specs.declared.table_map.KeptEntry.{KeptEntry}
use Rattle.hm_folds.specs.declared.table_map.TableMap.{TableMap}

-- a frame of no device is the system's
abbrev pub pool_of : Option ℕ → PoolId
pool_of None = PoolId.System
pool_of (Some d) = PoolId.Device d

-- no number is the zero page
abbrev pub target_of : Option ℕ → Option ℕ → Option Frame
target_of dev number = option_map (λ n. record { pool = pool_of dev; number = n }) number

-- the number that is kept for a pool: none for the system's
abbrev pub dev_of_pool : PoolId → Option ℕ
dev_of_pool PoolId.System = None
dev_of_pool (PoolId.Device d) = Some d

-- the same of a frame that may be none, which stands for the zero page
abbrev pub dev_of : Option Frame → Option ℕ
dev_of None = None
dev_of (Some f) = dev_of_pool f.pool

-- the table entry that a kept one stands for
abbrev pub entry_of : KeptEntry → TableEntry
entry_of x = record { target = target_of x.dev x.number; right = x.right; from = x.since }

-- the entry of a page
abbrev pub entry_in : TableMap → ℕ → Option TableEntry
entry_in x v = option_map entry_of (tree.get nat_cmp x.entries v)

-- a page from there on that has an entry, and none before it has one
pub record IsFirstAt (f : ℕ → Option TableEntry) (from at : ℕ) : Type 0 where
  pub above : from ≤ at
  pub there : is_some (f at) ≡ true
  pub none : (v : ℕ) → from ≤ v → v < at → f v ≡ None

-- so it is of what was found; if nothing was, no page from there on has an entry
abbrev pub IsFirstEntry : (ℕ → Option TableEntry) → ℕ → Option ℕ → Type 0
IsFirstEntry f from None = (v : ℕ) → from ≤ v → f v ≡ None
IsFirstEntry f from (Some at) = IsFirstAt f from at
