-- The parts of a state in three groups: at the start, and after an entry.
use Rattle.std.specs.Prelude.{◌≡◌, ℕ, false, None, [], map}
use Rattle.std.specs.Rc.{rc_value}
use Rattle.hm_base.specs.Program.{Program}
use Rattle.hm_history.specs.Memory.Locks.{locks_start, map_next, orphan}
use Rattle.hm_history.specs.Memory.Plain.{plain_start, plain_next}
use Rattle.hm_history.specs.Memory.Sequences.{sequences_start}
use Rattle.hm_history.specs.Kernel.Going.{going_from}
use Rattle.hm_history.specs.declared.Kind.{Kind}
use Rattle.hm_race_keys.specs.Arrays.{flag_in, lock_in}
use Rattle.hm_race_keys.specs.FrameTables.{held_in, lockers_in}
use Rattle.hm_race_keys.specs.PagePlaces.{places_in, places_of}
use Rattle.hm_race_keys.specs.TableEntries.{table_in}
use Rattle.hm_race_keys.specs.Trail.{mirrors_next, place_next, held_next, withdrawn_next}
use Rattle.hm_race_keys.specs.Trail.{removed_next, table_next, lockers_next, entry_old}
use Rattle.hm_race_states.specs.Afters.{bytes_next}
use Rattle.hm_race_states.specs.Bytes.{bytes_in}
use Rattle.hm_race_states.specs.Mirrors.{mirrors_in}
use Rattle.hm_race_states.specs.Small.{kept_seqs}
use Rattle.hm_race_states.specs.Spaces.{bare, spaces_in}
use Rattle.hm_race_states.specs.States.{goings_in}
use Rattle.hm_race_states.specs.declared.parts.ActorParts.{ActorParts}
use Rattle.hm_race_states.specs.declared.parts.PlaceParts.{PlaceParts}
use Rattle.hm_race_states.specs.declared.parts.ProcessParts.{ProcessParts}
use Rattle.hm_race_states.specs.declared.state.RaceState.{RaceState}

-- the state of these groups
abbrev pub joined : ProcessParts → PlaceParts → ActorParts → RaceState
joined p q a = record {
  spaces = p.spaces;
  bytes = p.bytes;
  mirrors = p.mirrors;
  places = q.places;
  held = q.held;
  marks = a.marks;
  tables = q.tables;
  locks = q.locks;
  maps = a.maps;
  seqs = p.seqs;
  tasks = a.tasks;
  few = a.few;
}

-- ---- before the first entry

-- what is kept by process and by mirror
pub record ProcessesStart (y : ProcessParts) : Type 0 where
  pub spaces : spaces_in y.spaces.value ≡ bare plain_start
  pub bytes : y.bytes.value ≡ []
  pub mirrors : y.mirrors.value ≡ []
  pub seqs : kept_seqs y.seqs.value ≡ sequences_start

-- what is kept by page and by frame
pub record PlacesStart (y : PlaceParts) : Type 0 where
  pub places : y.places.value ≡ []
  pub held : y.held.value ≡ []
  pub tables : y.tables.value ≡ []
  pub locks : y.locks.value ≡ []

-- what is kept by actor, and of devices
pub record ActorsStart (c : Program) (y : ActorParts) : Type 0 where
  pub withdrawn : (d : ℕ) → flag_in y.marks.value.withdrawn d ≡ false
  pub removed : (d : ℕ) → flag_in y.marks.value.removed d ≡ false
  pub maps : (a : ℕ) → lock_in y.maps.value.locks a ≡ None
  pub goings : (a : ℕ) → goings_in (map rc_value y.tasks.items) a ≡ going_from c a 0

-- ---- after an entry

-- what is kept by process and by mirror, but for sequences
pub record ProcessesGo (x : RaceState) (k : Kind) (y : ProcessParts) : Type 0 where
  pub spaces : spaces_in y.spaces.value ≡ bare (plain_next (spaces_in x.spaces.value) k)
  pub bytes : bytes_in y.bytes.value ≡ bytes_next (bytes_in x.bytes.value) (mirrors_in x.mirrors.value) k
  pub mirrors : mirrors_in y.mirrors.value ≡ mirrors_next (mirrors_in x.mirrors.value) k

-- what is kept by page and by frame
pub record PlacesGo (x : RaceState) (a : ℕ) (k : Kind) (y : PlaceParts) : Type 0 where
  pub place : places_in y.places.value ≡ place_next (places_in x.places.value) k
  pub held : held_in y.held.value ≡ held_next (held_in x.held.value) k
  pub table : table_in y.tables.value ≡ table_next (table_in x.tables.value) k
  pub locks : lockers_in y.locks.value
      ≡ lockers_next (lockers_in x.locks.value) a k (entry_old (places_in x.places.value) k)
      (orphan (record locks_start { frame = lockers_in x.locks.value }) (places_of x.places.value) k)

-- what is kept by actor, but for how far it is, and of devices
pub record ActorsGo (x : RaceState) (a : ℕ) (k : Kind) (y : ActorParts) : Type 0 where
  pub withdrawn : flag_in y.marks.value.withdrawn ≡ withdrawn_next (flag_in x.marks.value.withdrawn) k
  pub removed : flag_in y.marks.value.removed ≡ removed_next (flag_in x.marks.value.removed) k
  pub maps : lock_in y.maps.value.locks ≡ map_next (record locks_start { map = lock_in x.maps.value.locks }) a k
