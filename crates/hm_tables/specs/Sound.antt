-- The reverse maps say what the tables say.
use Rattle.std.specs.Prelude.{◌≡◌, ℕ, ◌^◌, true, nat_lt, length}
use Rattle.std.specs.List.{list_all}
use Rattle.std.specs.Ordering.{nat_cmp}
use Rattle.std.specs.FinMap.Entries as sorted
use Rattle.hm_base.specs.declared.Frame.{Frame}
use Rattle.radix_tables.specs.Maps.{Map}
use Rattle.rev_maps.specs.Uses.{is_rising}
use Rattle.hm_tables.specs.Values.{Tables, table_of, uses_in, place_of, mark_by, mark_of}

-- the pages of a table rise, and lie in the address space
pub record IsOrdered (m : Map) : Type 0 where
  pub sorted : sorted.is_sorted nat_cmp m.words ≡ true
  pub below : list_all (λ e. nat_lt e.0 (2 ^ 36)) m.words ≡ true

-- a frame has a use by exactly the pages whose place names it
pub record IsTables (x : Tables) : Type 0 where
  pub processes : length x.processes ≡ 32
  pub pools : length x.pools ≡ 5
  pub ordered : (p : ℕ) → IsOrdered (table_of x p)
  pub rising : (f : Frame) → is_rising (uses_in x.pools f).list ≡ true
  pub exact : (p v : ℕ) (f : Frame) → mark_by p v (uses_in x.pools f).list ≡ mark_of (place_of x p v) f
