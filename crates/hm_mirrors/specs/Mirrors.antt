-- The mirrors with their tables, by number, as contracts see them.
use Rattle.std.specs.Prelude.{◌≡◌, ℕ, ◌<◌, ◌≤◌, Bool, true, false, ◌&&◌, Option, Some, None, option_map, List, []}
use Rattle.std.specs.Prelude.{replicate, slice_index_or, slice_set, ⊤}
use Rattle.hm_base.specs.Pages.{Pages, covers, lies_in}
use Rattle.hm_history.specs.Memory.Places.{TableEntry}
use Rattle.hm_history.specs.declared.Kind.{Kind}
use Rattle.hm_history.specs.declared.Who.{Who}
use Rattle.mirror_tables.specs.Entries.{Table, entry_at, with_entry, without_span, changed, room_at}
use Rattle.mirror_tables.specs.declared.entry.MirrorEntry.{MirrorEntry}
use Rattle.hm_mirrors.specs.Entries.{entry_for, shown_entry}
use Rattle.hm_mirrors.specs.declared.info.MirrorStage.{MirrorStage}
use Rattle.hm_mirrors.specs.declared.info.MirrorInfo.{MirrorInfo}
use Rattle.hm_mirrors.specs.declared.info.Mirror.{Mirror}

-- no mirror was attached yet; there may be 32
abbrev pub mirrors_start : List (Option Mirror)
mirrors_start = replicate 32 None

-- the mirror of a number, if one was ever attached
abbrev pub mirror_at : List (Option Mirror) → ℕ → Option Mirror
mirror_at xs m = slice_index_or xs m None

-- what is read
abbrev pub info_of : List (Option Mirror) → ℕ → Option MirrorInfo
info_of xs m = option_map (λ x. x.info) (mirror_at xs m)

-- the mirror came once, and passes the test
abbrev pub info_passes : (MirrorInfo → Bool) → Option MirrorInfo → Bool
info_passes test None = false
info_passes test (Some x) = test x

-- the stage is that of a mirror that is attached, and not on its way out
abbrev pub stands_attached : MirrorStage → Bool
stands_attached MirrorStage.Attached = true
stands_attached MirrorStage.Detaching = false
stands_attached MirrorStage.Gone = false

-- the mirror is attached
abbrev pub is_attached_of : List (Option Mirror) → ℕ → Bool
is_attached_of xs m = info_passes (λ x. stands_attached x.stage) (info_of xs m)

-- the mirror is attached, and the span lies in its window
abbrev pub in_window_of : List (Option Mirror) → ℕ → Pages → Bool
in_window_of xs m r = info_passes (λ x. stands_attached x.stage && lies_in r x.window) (info_of xs m)

-- the mirror's process; 0 before it came
abbrev pub proc_of : List (Option Mirror) → ℕ → ℕ
proc_of xs m = elim (info_of xs m) [ None ↦ 0 | Some x ↦ x.process ]

-- the mirror's device; 0 before it came
abbrev pub device_of : List (Option Mirror) → ℕ → ℕ
device_of xs m = elim (info_of xs m) [ None ↦ 0 | Some x ↦ x.device ]

-- whose memory an access is of; nobody's where its mirror has not come
abbrev pub owner_of : List (Option Mirror) → Who → Option ℕ
owner_of xs (Who.Cpu p) = Some p
owner_of xs (Who.Mirror m) = option_map (λ x. x.process) (info_of xs m)

-- the table entry of a page, of a mirror that may not have come
abbrev pub entry_in : ℕ → Option Mirror → Option MirrorEntry
entry_in v None = None
entry_in v (Some x) = entry_at x.table v

-- the table entry of a mirror's page, as it is kept
abbrev pub entry_of : List (Option Mirror) → ℕ → ℕ → Option MirrorEntry
entry_of xs m v = entry_in v (mirror_at xs m)

-- as a history has it
abbrev pub table_of : List (Option Mirror) → ℕ → ℕ → Option TableEntry
table_of xs m v = option_map shown_entry (entry_of xs m v)

-- ---- what an entry leaves

-- the mirrors with one of them changed
abbrev pub with_mirror : List (Option Mirror) → ℕ → Option Mirror → List (Option Mirror)
with_mirror xs m x = slice_set xs m x

-- a mirror with another table
abbrev pub with_table : Mirror → Table → Mirror
with_table x t = record x { table = t }

-- a table of a window with no entries
abbrev pub empty_table : Pages → Table
empty_table r = record { window = r; entries = []; rooms = [] }

-- the mirror at a later stage, with its table erased
abbrev pub standing_as : MirrorStage → Mirror → Mirror
standing_as t x = record { info = record x.info { stage = t }; table = empty_table x.info.window }

-- a mirror that has just come
abbrev pub attached : ℕ → ℕ → Pages → Mirror
attached d p r =
    record {
      info = record { device = d; process = p; window = r; stage = MirrorStage.Attached };
      table = empty_table r;
    }

-- the room that a table has after a change is left open
abbrev pub set_in : List ℕ → ℕ → MirrorEntry → Mirror → Mirror
set_in room v e x = with_table x (changed x.table (with_entry x.table v e) room)

-- the mirror without the entries of a span
abbrev pub erased_in : List ℕ → Pages → Mirror → Mirror
erased_in room r x = with_table x (changed x.table (without_span x.table r) room)

-- the room of the table of a mirror that may not have come
abbrev pub room_in : Option Mirror → List ℕ
room_in None = []
room_in (Some x) = x.table.rooms

-- the room of the table of a mirror
abbrev pub room_of : List (Option Mirror) → ℕ → List ℕ
room_of xs m = room_in (mirror_at xs m)

-- the mirrors with one of them changed, if it came
abbrev pub changed_mirror : (Mirror → Mirror) → List (Option Mirror) → ℕ → List (Option Mirror)
changed_mirror f xs m = with_mirror xs m (option_map f (mirror_at xs m))

-- the mirrors after an entry; `room` is that of its mirror's table then
abbrev pub mirrors_next : List ℕ → Kind → List (Option Mirror) → List (Option Mirror)
mirrors_next room (Kind.Attached m d p r q) xs = with_mirror xs m (Some (attached d p r))
mirrors_next room (Kind.Detaching m q) xs = changed_mirror (standing_as MirrorStage.Detaching) xs m
mirrors_next room (Kind.Detached m) xs = changed_mirror (standing_as MirrorStage.Gone) xs m
mirrors_next room (Kind.Told m r q) xs = changed_mirror (erased_in room r) xs m
mirrors_next room (Kind.Set m v f w from) xs = changed_mirror (set_in room v (entry_for f w from)) xs m
mirrors_next room k xs = xs

-- the mirror of an entry, whose table's room it may change
abbrev pub mirror_of : Kind → Option ℕ
mirror_of (Kind.Told m r q) = Some m
mirror_of (Kind.Set m v f w from) = Some m
mirror_of k = None

-- the room that a step may change
abbrev pub room_for : Kind → List (Option Mirror) → List ℕ
room_for k xs = elim (mirror_of k) [ None ↦ [] | Some m ↦ room_of xs m ]

-- the mirrors with other room in the table of the entry's mirror
abbrev pub with_room : List ℕ → Mirror → Mirror
with_room room x = with_table x (changed x.table x.table.entries room)

-- the mirrors after room was made for the entry that a `set` adds; other kinds need none
abbrev pub reserved : List ℕ → Kind → List (Option Mirror) → List (Option Mirror)
reserved room (Kind.Set m v f w from) xs = changed_mirror (with_room room) xs m
reserved room k xs = xs

-- there is room for the entry of a page, if it lies in the window
abbrev pub HasRoom : ℕ → Option Mirror → Type 0
HasRoom v None = ⊤
HasRoom v (Some x) = covers x.table.window v ≡ true → 1 ≤ room_at x.table v

-- there is room for what the entry adds
abbrev pub MirrorsRoom : Kind → List (Option Mirror) → Type 0
MirrorsRoom (Kind.Set m v f w from) xs = HasRoom v (mirror_at xs m)
MirrorsRoom k xs = ⊤

-- what a change asks for: an entry that is set lies in its table's window
abbrev pub InTable : ℕ → Option Mirror → Type 0
InTable v None = ⊤
InTable v (Some x) = covers x.table.window v ≡ true

-- what a step asks of the mirrors; only a `set` asks anything
abbrev pub CanStep : Kind → List (Option Mirror) → Type 0
CanStep (Kind.Set m v f w from) xs = m < 32 → InTable v (mirror_at xs m)
CanStep k xs = ⊤
