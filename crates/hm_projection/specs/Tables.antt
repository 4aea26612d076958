-- The driver's tables and windows: what is erased with an entry.
use Rattle.std.specs.Prelude.{◌≡◌, ℕ, Bool, ◌&&◌, nat_le, nat_lt, Option, Some, None, true, is_some, option_map, List, []}
use Rattle.std.specs.Prelude.{filter, map, slice_index_or}
use Rattle.hm_base.specs.Pages.{Pages, covers}
use Rattle.hm_folds.specs.MirrorTables.{tables_of}
use Rattle.hm_history.specs.Memory.After.{After}
use Rattle.hm_history.specs.Memory.Places.{TableEntry, places_next}
use Rattle.hm_history.specs.Memory.Words.{numbers, with_at}
use Rattle.hm_history.specs.declared.Kind.{Kind}
use Rattle.hm_projection.specs.declared.tables.Driver.{Driver}
use Rattle.hm_protocol.specs.Projection.{erased, window_of}
use Rattle.hm_protocol.specs.declared.events.Event.{Event}

-- ---- what the driver has

-- the window of a mirror, if it came
abbrev pub windows_of : List (Option Pages) → ℕ → Option Pages
windows_of xs m = slice_index_or xs m None

-- the windows after an entry
abbrev pub window_next : (ℕ → Option Pages) → Kind → ℕ → Option Pages
window_next f (Kind.Attached m d p r q) = with_at f m (Some r)
window_next f k = f

-- it is the driver of a state
pub record IsDriver (s : After) (x : Driver) : Type 0 where
  pub tables : tables_of x.tables.tables.items ≡ s.places.table
  pub windows : (m : ℕ) → windows_of x.windows m ≡ option_map (λ y. y.window) (s.plain.mirrors m)

-- ---- what it erases

-- the pages of a window, from one up to another, that have an entry
abbrev pub erased_between : (ℕ → Option TableEntry) → Pages → ℕ → ℕ → List ℕ
erased_between f w from end = filter (λ v. is_some (f v) && (nat_le from v && nat_lt v end)) (numbers w.first w.count)

-- the page is one of the span's; without one it is any
abbrev pub is_covered : Option Pages → ℕ → Bool
is_covered None v = true
is_covered (Some r) v = covers r v

-- the entries of a mirror in a span
abbrev pub erased_where : After → ℕ → Option Pages → List Event
erased_where s m span = map (λ v. Event.Erase m v)
    (filter (λ v. is_some (s.places.table m v) && is_covered span v) (window_of s m))

-- the state after an entry, as far as it erases
abbrev pub with_erased : After → Kind → After
with_erased s k = record s { places = places_next s.places k }

-- the entries that the driver erases with an entry
abbrev pub erases : After → Kind → List Event
erases s (Kind.Told m r q) = erased s (with_erased s (Kind.Told m r q)) m
erases s (Kind.Detaching m q) = erased s (with_erased s (Kind.Detaching m q)) m
erases s (Kind.Detached m) = erased s (with_erased s (Kind.Detached m)) m
erases s k = []
