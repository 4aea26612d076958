-- A set-up that is made again, entry by entry.
use Rattle.std.specs.Prelude.{◌≡◌, ℕ, ◌<◌, List, [], length}
use Rattle.hm_base.specs.Program.{Program}
use Rattle.hm_history.specs.Kernel.Due.{due}
use Rattle.hm_history.specs.Kernel.Going.{state_of}
use Rattle.hm_history.specs.Laws.{DueFrom}
use Rattle.hm_history.specs.declared.Entry.{Entry}
use Rattle.hm_history.specs.declared.Progress.{Progress}
use Rattle.hm_flaw_parts.specs.Marks.{marks_in}
use Rattle.hm_flaw_parts.specs.Races.Races.{marked_of}
use Rattle.hm_flaw_states.specs.Follows.{Standing}
use Rattle.hm_flaw_states.specs.States.{state_in}
use Rattle.hm_flaw_states.specs.declared.set_ups.SoFar.{SoFar}

-- the state and the marks are those after these entries
pub record IsAfter (c : Program) (h : List Entry) (x : SoFar) : Type 0 where
  pub state : state_in x.state ≡ state_of c h
  pub marked : marks_in x.marks ≡ marked_of c h
  pub standing : Standing (state_in x.state)

-- after entries that were due one more is due to the actor
pub record IsNext (c : Program) (x : SoFar) (a : ℕ) : Type 0 where
  pub history : List Entry
  pub entry : Entry
  pub after : IsAfter c history x
  pub were_due : DueFrom c [] history
  pub is_due : due c history a ≡ Progress.Did entry
  pub few : length history < 2000000
