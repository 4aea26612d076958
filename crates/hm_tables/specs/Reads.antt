-- What is read of the tables.
use Rattle.std.specs.Prelude.{ℕ, Bool, true, not, ◌&&◌, ◌==◌, nat_le, Option, Some, None, length, option_map, find}
use Rattle.std.specs.Prelude.{if◌then◌else◌}
use Rattle.hm_base.specs.declared.Frame.{Frame}
use Rattle.hm_base.specs.declared.Place.{Place}
use Rattle.hm_base.specs.PlaceWords.{names, is_frame, writable}
use Rattle.hm_history.specs.Memory.Places.{is_used}
use Rattle.radix_tables.specs.Maps.{Map, before, is_marked}
use Rattle.rev_maps.specs.Uses.{first_use}
use Rattle.hm_tables.specs.Values.{Tables, table_of, uses_in, place_of_word}
use Rattle.hm_tables.specs.declared.places.PageTest.{PageTest}
use Rattle.hm_tables.specs.declared.places.PageTest.TheVariants.{Used, Writable}

-- what a search for a page asks of its place
abbrev pub page_test : PageTest → Place → Bool
page_test Used = is_used
page_test Writable = writable

-- the first word of a table from there on whose place passes, with its page
abbrev pub first_passing : Map → (Place → Bool) → ℕ → Option (ℕ × ℕ)
first_passing m test from = find (λ e. nat_le from e.0 && test (place_of_word e.1)) m.words

-- the first page of a table from there on whose place passes
abbrev pub next_in_table : Map → (Place → Bool) → ℕ → Option ℕ
next_in_table m test from = option_map (λ e. e.0) (first_passing m test from)

-- the same, if it lies before an end
abbrev pub next_in_span : Map → (Place → Bool) → ℕ → ℕ → Option ℕ
next_in_span m test from end = option_map (λ e. e.0) (before end (first_passing m test from))

-- a word that a place that passes may have
abbrev pub is_likely : PageTest → ℕ → Bool
is_likely Used w = true
is_likely Writable w = is_marked w

-- the first such word from there on, with its page
abbrev pub next_likely : Map → PageTest → ℕ → Option (ℕ × ℕ)
next_likely m test from = find (λ e. nat_le from e.0 && is_likely test e.1) m.words

-- the first page of a process from there on whose place passes
abbrev pub next_page_of : Tables → (Place → Bool) → ℕ → ℕ → Option ℕ
next_page_of x test p from = next_in_table (table_of x p) test from

-- the same, if it lies before an end
abbrev pub next_page_before : Tables → (Place → Bool) → ℕ → ℕ → ℕ → Option ℕ
next_page_before x test p from end = next_in_span (table_of x p) test from end

-- the lowest page that names the frame, by an entry whose mark passes
abbrev pub lowest_of : Tables → (Bool → Bool) → Frame → Option (ℕ × ℕ)
lowest_of x test f = first_use (λ u. test u.moving) (uses_in x.pools f).list

-- how many pages name the frame
abbrev pub use_count : Tables → Frame → ℕ
use_count x f = length (uses_in x.pools f).list

-- the frame that no page names once the page has the new place, unless somebody has it locked
abbrev pub orphaned : Tables → Option Frame → Place → Bool → Option Frame
orphaned x None y is_locked = None
orphaned x (Some f) y is_locked =
    if not is_locked && (not (is_frame (names y) f) && (use_count x f == 1)) then Some f else None
