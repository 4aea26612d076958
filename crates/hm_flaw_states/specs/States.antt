-- A state that is kept exactly, as contracts see it.
use Rattle.std.specs.Prelude.{ℕ, Option, map}
use Rattle.std.specs.Option.{option_map}
use Rattle.std.specs.Rc.{rc_value}
use Rattle.hm_history.specs.Memory.Plain.{MirrorState, Plain}
use Rattle.hm_history.specs.Memory.Places.{Places}
use Rattle.hm_history.specs.Memory.Locks.{Locks}
use Rattle.hm_history.specs.Memory.After.{After}
use Rattle.hm_history.specs.Kernel.Going.{State}
use Rattle.hm_folds.specs.Been.{been_of}
use Rattle.hm_race_keys.specs.Arrays.{flag_in, lock_in}
use Rattle.hm_race_keys.specs.FrameTables.{held_in, lockers_in}
use Rattle.hm_race_keys.specs.PagePlaces.{places_in}
use Rattle.hm_race_states.specs.Bytes.{bytes_in}
use Rattle.hm_race_states.specs.Mirrors.{mirrors_in}
use Rattle.hm_race_states.specs.Spaces.{spaces_in}
use Rattle.hm_race_states.specs.States.{goings_in}
use Rattle.hm_flaw_states.specs.FrameBytes.{contents_in}
use Rattle.hm_flaw_states.specs.OwnTables.{table_in}
use Rattle.hm_flaw_states.specs.Commits.{commits_in}
use Rattle.hm_flaw_states.specs.Placed.{pages_in}
use Rattle.hm_flaw_states.specs.Seqs.{seqs_in}
use Rattle.hm_flaw_states.specs.declared.state.FlawState.{FlawState}

-- the device of a mirror that was attached
abbrev pub device_of : Option MirrorState → Option ℕ
device_of x = option_map (λ (m : MirrorState). m.dev) x

-- processes, their bytes, and mirrors
abbrev pub plain_in : FlawState → Plain
plain_in x = record {
  there = (spaces_in x.spaces.value).there;
  named = (spaces_in x.spaces.value).named;
  been = been_of x.been;
  areas = (spaces_in x.spaces.value).areas;
  bytes = bytes_in x.bytes.value;
  mirrors = mirrors_in x.mirrors.value;
}

-- places, frames and the mirrors' tables
abbrev pub all_places : FlawState → Places
all_places x = record {
  place = places_in x.places.value;
  placed = pages_in x.placed.value.pages.items;
  held = held_in x.held.value;
  committed_to = commits_in x.commits.value;
  withdrawn = flag_in x.marks.value.withdrawn;
  removed = flag_in x.marks.value.removed;
  table = table_in x.tables.value;
  device = λ m. device_of (mirrors_in x.mirrors.value m);
}

-- the locks
abbrev pub locks_in : FlawState → Locks
locks_in x = record { map = lock_in x.maps.value.locks; frame = lockers_in x.locks.value }

-- the state of the memory
abbrev pub after_in : FlawState → After
after_in x = record {
  length = x.entries;
  plain = plain_in x;
  places = all_places x;
  sequences = seqs_in x.seqs.value x.guards.value;
  locks = locks_in x;
  contents = contents_in x.contents.value;
}

-- the state of the definitions that it stands for
abbrev pub state_in : FlawState → State
state_in x = record { after = after_in x; going = goings_in (map rc_value x.tasks.items) }
