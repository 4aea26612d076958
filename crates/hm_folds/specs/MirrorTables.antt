-- The tables of all mirrors, and the device and the process of each.
use Rattle.std.specs.Prelude.{◌≡◌, ℕ, Option, Some, None, List, slice_get, slice_index_or}
use Rattle.hm_history.specs.Memory.Words.{with_at}
use Rattle.hm_history.specs.Memory.Places.{TableEntry, places_start, places_next}
use Rattle.hm_history.specs.Memory.Plain.{Plain, mirror_owner, plain_next}
use Rattle.hm_history.specs.declared.Kind.{Kind}
use Rattle.hm_folds.specs.TableMap.{entry_in}
use Rattle.hm_folds.specs.declared.table_map.TableMap.{TableMap}

-- the entry of a page in a table that may not be kept
abbrev pub entry_at : ℕ → Option TableMap → Option TableEntry
entry_at v None = None
entry_at v (Some x) = entry_in x v

-- the entry of a mirror's page
abbrev pub tables_of : List TableMap → ℕ → ℕ → Option TableEntry
tables_of xs m v = entry_at v (slice_get xs m)

-- the tables after an entry, for which the other parts of the state do not count
abbrev pub table_next : (ℕ → ℕ → Option TableEntry) → Kind → ℕ → ℕ → Option TableEntry
table_next f k = (places_next (record places_start { table = f }) k).table

-- by mirror, the number of its device or process
abbrev pub numbers_of : List (Option ℕ) → ℕ → Option ℕ
numbers_of xs m = slice_index_or xs m None

-- the devices after an entry, for which the other parts of the state do not count
abbrev pub device_next : (ℕ → Option ℕ) → Kind → ℕ → Option ℕ
device_next f k = (places_next (record places_start { device = f }) k).device

-- the process of a mirror is that of its attach
abbrev pub owner_next : (ℕ → Option ℕ) → Kind → ℕ → Option ℕ
owner_next f (Kind.Attached m d p r q) = with_at f m (Some p)
owner_next f _ = f

-- the processes that are noted are those of the plain state
abbrev pub OwnersFollow : Type 0
OwnersFollow = (s : Plain) (k : Kind) (m : ℕ) → owner_next (mirror_owner s) k m ≡ mirror_owner (plain_next s k) m
