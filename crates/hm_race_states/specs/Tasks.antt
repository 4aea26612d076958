-- How far an actor is, as contracts see it.
use Rattle.hm_history.specs.Kernel.Going.{Going}
use Rattle.hm_race_states.specs.declared.tasks.RaceTask.{RaceTask}

-- how far the actor is: its operation's number, its phases, and the pages of its migration
abbrev pub going_in : RaceTask → Going
going_in t = record { index = t.index; stack = t.stack; pages = t.records }
