-- How far actors are after an entry.
use Rattle.std.specs.Prelude.{ℕ, List}
use Rattle.hm_base.specs.Program.{Program}
use Rattle.hm_history.specs.Memory.Words.{with_at}
use Rattle.hm_history.specs.Memory.Sequences.{Sequences}
use Rattle.hm_history.specs.Kernel.Going.{Going}
use Rattle.hm_race_laws.specs.Positions.{forget_going}
use Rattle.hm_race_laws.specs.Numbers.{small_going}
use Rattle.hm_race_states.specs.States.{goings_in}
use Rattle.hm_race_states.specs.declared.tasks.RaceTask.{RaceTask}

-- what each actor has come to, after one of them went on
abbrev pub goings_with : List RaceTask → ℕ → Going → ℕ → Going
goings_with ts a g = with_at (goings_in ts) a g

-- the actors without positions, by the sequences that the state has before they are made small
abbrev pub blurred_goings : Program → Sequences → (ℕ → Going) → ℕ → Going
blurred_goings c s f a = forget_going (small_going c s a (f a))
