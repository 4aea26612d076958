-- States of a race that no search tells apart.
use Rattle.std.specs.Prelude.{◌≡◌, ℕ, true, length, map}
use Rattle.std.specs.Rc.{rc_value}
use Rattle.hm_base.specs.declared.Frame.{Frame}
use Rattle.hm_race_keys.specs.Arrays.{flag_in, lock_in}
use Rattle.hm_race_keys.specs.FrameTables.{held_in, lockers_in}
use Rattle.hm_race_keys.specs.PagePlaces.{places_in, IsPlaced}
use Rattle.hm_race_keys.specs.Sparse.{rising_from}
use Rattle.hm_race_keys.specs.TableEntries.{table_in}
use Rattle.hm_race_keys.specs.Trail.{answers_in}
use Rattle.hm_race_states.specs.Bytes.{bytes_in}
use Rattle.hm_race_states.specs.Mirrors.{mirrors_in}
use Rattle.hm_race_states.specs.Small.{kept_seqs}
use Rattle.hm_race_states.specs.Spaces.{spaces_in}
use Rattle.hm_race_states.specs.States.{goings_in}
use Rattle.hm_race_states.specs.declared.key.StateKey.{StateKey}
use Rattle.hm_race_states.specs.declared.state.RaceState.{RaceState}

-- the same places, held frames, tables and locks of frames
pub record SamePlaces (x y : RaceState) : Type 0 where
  pub places : (p v : ℕ) → places_in x.places.value p v ≡ places_in y.places.value p v
  pub held : (f : Frame) → held_in x.held.value f ≡ held_in y.held.value f
  pub tables : (m v : ℕ) → table_in x.tables.value m v ≡ table_in y.tables.value m v
  pub locks : (f : Frame) → lockers_in x.locks.value f ≡ lockers_in y.locks.value f

-- the same processes, bytes, mirrors and sequences
pub record SameProcesses (x y : RaceState) : Type 0 where
  pub spaces : spaces_in x.spaces.value ≡ spaces_in y.spaces.value
  pub bytes : (p a : ℕ) → bytes_in x.bytes.value p a ≡ bytes_in y.bytes.value p a
  pub mirrors : (m : ℕ) → mirrors_in x.mirrors.value m ≡ mirrors_in y.mirrors.value m
  pub seqs : kept_seqs x.seqs.value ≡ kept_seqs y.seqs.value

-- the same devices withdrawn and removed, the same mmap locks, and all actors as far
pub record SameActors (x y : RaceState) : Type 0 where
  pub withdrawn : (d : ℕ) → flag_in x.marks.value.withdrawn d ≡ flag_in y.marks.value.withdrawn d
  pub removed : (d : ℕ) → flag_in x.marks.value.removed d ≡ flag_in y.marks.value.removed d
  pub maps : (a : ℕ) → lock_in x.maps.value.locks a ≡ lock_in y.maps.value.locks a
  pub tasks : (a : ℕ) → goings_in (map rc_value x.tasks.items) a ≡ goings_in (map rc_value y.tasks.items) a

-- all actors were answered the same
pub record SameAnswers (x y : StateKey) : Type 0 where
  pub answers : (a : ℕ) → answers_in x.answers.value.lists.items a ≡ answers_in y.answers.value.lists.items a

-- what holds of every key that a program has: places and table entries in order, and a list for each of 16 actors
pub record IsKey (k : StateKey) : Type 0 where
  pub placed : IsPlaced k.state.places.value
  pub places : rising_from 0 0 k.state.places.value ≡ true
  pub tables : rising_from 0 0 k.state.tables.value ≡ true
  pub sized : length k.answers.value.lists.items ≡ 16
