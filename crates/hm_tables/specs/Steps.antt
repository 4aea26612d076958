-- What each kind of entry makes of the tables, and what it needs.
use Rattle.std.specs.Prelude.{◌≡◌, ℕ, zero, suc, ◌-◌, ◌^◌, ◌<◌, ◌≤◌, Bool, true, false, not, ◌&&◌, ◌==◌, if◌then◌else◌}
use Rattle.std.specs.Prelude.{Option, Some, None, IsTrue, List, [], ◌∷◌, ◌++◌, length, slice_index, slice_set}
use Rattle.std.specs.Prelude.{replicate}
use Rattle.hm_base.specs.Program.{Program}
use Rattle.hm_base.specs.declared.PoolId.{PoolId}
use Rattle.hm_base.specs.declared.Frame.{Frame}
use Rattle.hm_base.specs.declared.Place.{Place}
use Rattle.hm_base.specs.PlaceWords.{names, is_frame}
use Rattle.entry_words.specs.Word.{pool_field, has_word}
use Rattle.radix_tables.specs.Maps.{is_reserved, given_back}
use Rattle.rev_maps.specs.Uses.{Uses, unused, has_use, with_moving, added, removed}
use Rattle.hm_history.specs.declared.Kind.{Kind}
use Rattle.hm_tables.specs.Values.{Tables, no_words, table_of, pool_in, size_in, uses_in, place_of, table_with}
use Rattle.hm_tables.specs.Values.{is_moving, mark_by, mark_of}

-- the pools of a script: the system's, and those of devices 0 to 3
abbrev pub frames_of : Program → ℕ → ℕ
frames_of c n = if n == 0 then c.frames else slice_index c.devices (n - 1)

-- the first n pools of a script, with no frame in use
abbrev pub first_pools : Program → ℕ → List (List Uses)
first_pools c zero = []
first_pools c (suc n) = first_pools c n ++ (replicate (frames_of c n) unused ∷ [])

-- the tables before the first entry: no process has a word, no frame a use
abbrev pub tables_start : Program → Tables
tables_start c = record { processes = replicate 32 no_words; pools = first_pools c 5 }

-- the pools with other uses of a frame
abbrev pub with_uses : List (List Uses) → Frame → Uses → List (List Uses)
with_uses pools f uses = slice_set pools (pool_field f.pool) (slice_set (pool_in pools f.pool) f.number uses)

-- the page names the frame no more
abbrev pub without_use_of : ℕ → ℕ → Option Frame → List (List Uses) → List (List Uses)
without_use_of p v None pools = pools
without_use_of p v (Some f) pools = with_uses pools f (removed p v (uses_in pools f))

-- the page names the frame
abbrev pub with_use_of : ℕ → ℕ → Bool → Option Frame → List (List Uses) → List (List Uses)
with_use_of p v moving None pools = pools
with_use_of p v moving (Some f) pools =
    with_uses pools f (added (record { proc = p; page = v; moving = moving }) (uses_in pools f))

-- the use of the page is by a migration entry
abbrev pub with_mark_of : ℕ → ℕ → Option Frame → List (List Uses) → List (List Uses)
with_mark_of p v None pools = pools
with_mark_of p v (Some f) pools =
    let uses = uses_in pools f in with_uses pools f (record uses { list = with_moving p v uses.list })

-- the second place names the frame that the first one names
abbrev pub keeps_frame : Option Frame → Place → Bool
keeps_frame None y = false
keeps_frame (Some f) y = is_frame (names y) f

-- and is a migration entry now
abbrev pub freezes : Place → Place → Bool
freezes old y = is_moving y && keeps_frame (names old) y

-- and neither is a migration entry: the use of the page stays as it is
abbrev pub keeps_use : Place → Place → Bool
keeps_use old y = not (is_moving old) && (not (is_moving y) && keeps_frame (names old) y)

-- the uses once the page has another place
abbrev pub uses_next : ℕ → ℕ → Place → Place → List (List Uses) → List (List Uses)
uses_next p v old y pools =
    if freezes old y then with_mark_of p v (names old) pools
    else if keeps_use old y then pools
    else with_use_of p v (is_moving y) (names y) (without_use_of p v (names old) pools)

-- the tables after an entry: a place changes, or a process that has exited gives its room back
abbrev pub tables_next : Kind → Tables → Tables
tables_next (Kind.Place p v y) x = record {
  processes = slice_set x.processes p (table_with (table_of x p) v y);
  pools = uses_next p v (place_of x p v) y x.pools;
}
tables_next (Kind.Exited p) x = record x { processes = slice_set x.processes p (given_back (table_of x p)) }
tables_next _ x = x

-- the frame that a place names is one of its pool; the sizes of the pools may be those of a script or of the tables
abbrev pub FrameFits : (PoolId → ℕ) → Option Frame → Type 0
FrameFits size None = Unit {0}
FrameFits size (Some f) = f.number < size f.pool

-- the frame that the entry puts at a page is one of its pool
abbrev pub TablesFit : (PoolId → ℕ) → Kind → Type 0
TablesFit size (Kind.Place p v y) = FrameFits size (names y)
TablesFit size _ = Unit {0}

-- there is room for the word of the page, and for the use of its frame
abbrev pub HasUseRoom : List (List Uses) → Option Frame → Type 0
HasUseRoom pools None = Unit {0}
HasUseRoom pools (Some f) = 1 ≤ (uses_in pools f).room

-- there is room for the word and the use that the entry adds, so that it cannot run out of memory
abbrev pub TablesRoom : Kind → Tables → Type 0
TablesRoom (Kind.Place p v y) x = (is_reserved (table_of x p) v ≡ true) × HasUseRoom x.pools (names y)
TablesRoom _ x = Unit {0}

-- what the types of an entry's fields keep
abbrev pub TablesRange : Kind → Type 0
TablesRange (Kind.Place p v y) = (p < 32) × (v < 2 ^ 36) × IsTrue (has_word y)
TablesRange (Kind.Exited p) = p < 32
TablesRange _ = Unit {0}

-- the uses by the page are what its place says
abbrev pub SaysOf : List (List Uses) → ℕ → ℕ → Place → Type 0
SaysOf pools p v old = (g : Frame) → mark_by p v (uses_in pools g).list ≡ mark_of old g

-- the frame has a use by the page
abbrev pub LosesUse : List (List Uses) → Option Frame → ℕ → ℕ → Type 0
LosesUse pools None p v = Unit {0}
LosesUse pools (Some f) p v = has_use p v (uses_in pools f).list ≡ true

-- the frame has room for a use, and none by the page
abbrev pub GainsUse : List (List Uses) → Option Frame → ℕ → ℕ → Type 0
GainsUse pools None p v = Unit {0}
GainsUse pools (Some f) p v = (1 ≤ (uses_in pools f).room) × (has_use p v (uses_in pools f).list ≡ false)

-- the same but for room
pub record SamePools (before after : List (List Uses)) : Type 0 where
  pub count : length after ≡ length before
  pub sizes : (pool : PoolId) → size_in after pool ≡ size_in before pool
  pub lists : (f : Frame) → (uses_in after f).list ≡ (uses_in before f).list

-- the same words and uses; only room may have changed
pub record SameTables (x y : Tables) : Type 0 where
  pub processes : length y.processes ≡ length x.processes
  pub words : (p : ℕ) → (table_of y p).words ≡ (table_of x p).words
  pub pools : SamePools x.pools y.pools
