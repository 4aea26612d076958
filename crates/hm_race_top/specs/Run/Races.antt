-- The race of a script, as contracts see it.
use Rattle.std.specs.Prelude.{◌≡◌, ◌≤◌, List, [], length}
use Rattle.hm_base.specs.Program.{Program, IsScript}
use Rattle.hm_history.specs.Kernel.Run.{run}
use Rattle.hm_history.specs.Laws.{DueFrom}
use Rattle.hm_history.specs.declared.Entry.{Entry}

-- a script, and the entries of its set-up
pub record RaceValue : Type 0 where
  pub script : Program
  pub set_up : List Entry

-- the set-up is the run of the script, which is a history of entries that were due, and not too long
pub record IsRace (t : RaceValue) : Type 0 where
  pub script : IsScript t.script
  pub run : t.set_up ≡ run t.script
  pub due : DueFrom t.script [] t.set_up
  pub few : length t.set_up ≤ 2000000
