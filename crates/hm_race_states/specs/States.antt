-- A state of a race, as contracts see it.
use Rattle.std.specs.Prelude.{ℕ, false, Option, None, Some, List, [], map, slice_get}
use Rattle.std.specs.Rc.{rc_value}
use Rattle.hm_history.specs.Memory.Contents.{zeros}
use Rattle.hm_history.specs.Kernel.Going.{Going, State}
use Rattle.hm_race_keys.specs.Arrays.{flag_in, lock_in}
use Rattle.hm_race_keys.specs.PagePlaces.{places_in, listed}
use Rattle.hm_race_keys.specs.FrameTables.{held_in, lockers_in}
use Rattle.hm_race_keys.specs.TableEntries.{table_in}
use Rattle.hm_race_states.specs.Small.{kept_seqs}
use Rattle.hm_race_states.specs.Spaces.{spaces_in}
use Rattle.hm_race_states.specs.Tasks.{going_in}
use Rattle.hm_race_states.specs.Mirrors.{mirrors_in}
use Rattle.hm_race_states.specs.Bytes.{bytes_in}
use Rattle.hm_race_states.specs.declared.tasks.RaceTask.{RaceTask}
use Rattle.hm_race_states.specs.declared.state.RaceState.{RaceState}

-- an actor that the script has not
abbrev pub nobody : Going
nobody = record { index = 0; stack = []; pages = [] }

-- how far an actor is, if the state has it
abbrev pub going_at : Option RaceTask → Going
going_at None = nobody
going_at (Some t) = going_in t

-- how far each actor is, by number
abbrev pub goings_in : List RaceTask → ℕ → Going
goings_in ts a = going_at (slice_get ts a)

-- the state of the definitions that a state of a race stands for; what a form leaves out is as at the start, and the
-- pages with a place are listed in rising order
abbrev pub state_in : RaceState → State
state_in x = record {
  after = record {
    length = 0;
    plain = record {
      there = (spaces_in x.spaces.value).there;
      named = (spaces_in x.spaces.value).named;
      been = λ p. false;
      areas = (spaces_in x.spaces.value).areas;
      bytes = bytes_in x.bytes.value;
      mirrors = mirrors_in x.mirrors.value;
    };
    places = record {
      place = places_in x.places.value;
      placed = listed x.places.value;
      held = held_in x.held.value;
      committed_to = λ f. None;
      withdrawn = flag_in x.marks.value.withdrawn;
      removed = flag_in x.marks.value.removed;
      table = table_in x.tables.value;
      device = λ m. None;
    };
    sequences = kept_seqs x.seqs.value;
    locks = record { map = lock_in x.maps.value.locks; frame = lockers_in x.locks.value };
    contents = λ f. zeros;
  };
  going = goings_in (map rc_value x.tasks.items);
}
