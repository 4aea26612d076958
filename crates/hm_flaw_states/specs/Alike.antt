-- States that are the same, part by part.
use Rattle.std.specs.Prelude.{◌≡◌, ℕ, map}
use Rattle.std.specs.Rc.{rc_value}
use Rattle.hm_base.specs.declared.Frame.{Frame}
use Rattle.hm_folds.specs.Been.{been_of}
use Rattle.hm_race_keys.specs.Arrays.{flag_in, lock_in}
use Rattle.hm_race_keys.specs.FrameTables.{held_in, lockers_in}
use Rattle.hm_race_keys.specs.PagePlaces.{places_in}
use Rattle.hm_race_states.specs.Bytes.{bytes_in}
use Rattle.hm_race_states.specs.Mirrors.{mirrors_in}
use Rattle.hm_flaw_states.specs.Exact.{exact_in}
use Rattle.hm_race_states.specs.Spaces.{spaces_in}
use Rattle.hm_race_states.specs.States.{goings_in}
use Rattle.hm_flaw_states.specs.FrameBytes.{contents_in}
use Rattle.hm_flaw_states.specs.LateSpans.{late_in}
use Rattle.hm_flaw_states.specs.OwnTables.{table_in}
use Rattle.hm_flaw_states.specs.Owns.{seq_in}
use Rattle.hm_flaw_states.specs.declared.owns.Own.{Own}
use Rattle.hm_flaw_states.specs.Commits.{commits_in}
use Rattle.hm_flaw_states.specs.Placed.{pages_in}
use Rattle.hm_flaw_states.specs.Seqs.{guards_in}
use Rattle.hm_flaw_states.specs.declared.state.FlawState.{FlawState}

-- the same processes, bytes and mirrors
pub record SameProcesses (x y : FlawState) : Type 0 where
  pub been : (p : ℕ) → been_of x.been p ≡ been_of y.been p
  pub spaces : spaces_in x.spaces.value ≡ spaces_in y.spaces.value
  pub bytes : (p a : ℕ) → bytes_in x.bytes.value p a ≡ bytes_in y.bytes.value p a
  pub mirrors : (m : ℕ) → mirrors_in x.mirrors.value m ≡ mirrors_in y.mirrors.value m

-- the same places, frames and tables
pub record SamePlaces (x y : FlawState) : Type 0 where
  pub places : (p v : ℕ) → places_in x.places.value p v ≡ places_in y.places.value p v
  pub placed : pages_in x.placed.value.pages.items ≡ pages_in y.placed.value.pages.items
  pub held : (f : Frame) → held_in x.held.value f ≡ held_in y.held.value f
  pub commits : (f : Frame) → commits_in x.commits.value f ≡ commits_in y.commits.value f
  pub withdrawn : (d : ℕ) → flag_in x.marks.value.withdrawn d ≡ flag_in y.marks.value.withdrawn d
  pub removed : (d : ℕ) → flag_in x.marks.value.removed d ≡ flag_in y.marks.value.removed d
  pub tables : (m v : ℕ) → table_in x.tables.value m v ≡ table_in y.tables.value m v

-- the same sequences, locks and bytes of frames, and all actors as far
pub record SameActors (x y : FlawState) : Type 0 where
  pub entries : x.entries ≡ y.entries
  pub seqs : exact_in x.seqs.value.kept ≡ exact_in y.seqs.value.kept
  pub guards : (a : ℕ) → guards_in x.guards.value.guards.items a ≡ guards_in y.guards.value.guards.items a
  pub maps : (a : ℕ) → lock_in x.maps.value.locks a ≡ lock_in y.maps.value.locks a
  pub locks : (f : Frame) → lockers_in x.locks.value f ≡ lockers_in y.locks.value f
  pub contents : (f : Frame) (o : ℕ) → contents_in x.contents.value f o ≡ contents_in y.contents.value f o
  pub tasks : (a : ℕ) → goings_in (map rc_value x.tasks.items) a ≡ goings_in (map rc_value y.tasks.items) a

-- a driver has the same of its own
pub record SameOwns (x y : Own) : Type 0 where
  pub seqs : (m : ℕ) → seq_in x.seqs m ≡ seq_in y.seqs m
  pub table : (m v : ℕ) → table_in x.table m v ≡ table_in y.table m v
  pub late : (a : ℕ) → late_in x.late.of_actors.items a ≡ late_in y.late.of_actors.items a
  pub bytes : (f : Frame) (o : ℕ) → contents_in x.bytes f o ≡ contents_in y.bytes f o
