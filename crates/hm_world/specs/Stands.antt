-- What a world keeps: each structure holds what the history gives.
use Rattle.std.specs.Prelude.{◌≤◌, Option, List, [], length}
use Rattle.hm_base.specs.Program.{Program, IsScript}
use Rattle.hm_history.specs.Kernel.Going.{State}
use Rattle.hm_history.specs.Laws.{DueFrom}
use Rattle.hm_frames.specs.Pools.{PoolsState}
use Rattle.hm_frames.specs.Shown.{FramesShown}
use Rattle.hm_tables.specs.Values.{Tables}
use Rattle.hm_tables.specs.Shown.{TablesShown}
use Rattle.hm_spaces.specs.Spaces.{SpacesValue, SpacesShown}
use Rattle.hm_notifiers.specs.NotifiersValue.{NotifiersValue}
use Rattle.hm_notifiers.specs.Shown.{NotifiersValueShown}
use Rattle.hm_mirrors.specs.declared.info.Mirror.{Mirror}
use Rattle.hm_mirrors.specs.Shown.{MirrorsShown}
use Rattle.hm_actors.specs.Actors.{TaskValue, ActorsShown}
use Rattle.hm_world.specs.WorldValue.{WorldValue, now, HaltsRightly}

-- the structures of a world
pub record Parts : Type 0 where
  pub frames : PoolsState
  pub tables : Tables
  pub spaces : SpacesValue
  pub notifiers : NotifiersValue
  pub mirrors : List (Option Mirror)
  pub actors : List TaskValue

-- each shows its part of the state
pub record Shows (c : Program) (s : State) (x : Parts) : Type 0 where
  pub frames : FramesShown c s.after x.frames
  pub tables : TablesShown c s.after.places.place s.after.places.placed x.tables
  pub spaces : SpacesShown s.after.plain.there s.after.plain.named s.after.plain.areas s.after.locks.map x.spaces
  pub notifiers :
      NotifiersValueShown s.after.length s.after.sequences.seq s.after.sequences.active s.after.sequences.interval
      x.notifiers
  pub mirrors : MirrorsShown s.after.plain.mirrors s.after.places.table s.after.places.device x.mirrors
  pub actors : ActorsShown (length c.actors) s.going x.actors

-- a world's structures are those of its history, which is one of entries that were due
pub record Stands (t : WorldValue) (x : Parts) : Type 0 where
  pub script : IsScript t.script
  pub due : DueFrom t.script [] t.history
  pub few : length t.history ≤ 2000000
  pub halted : HaltsRightly t.script t.history t.halted
  pub shows : Shows t.script (now t) x
