-- Whether a schedule goes on past a full history: some turn finds an entry due, and no room for it.
use Rattle.std.specs.Prelude.{ℕ, suc, zero, Bool, false, not, ◌&&◌, ◌||◌, List, [], ◌∷◌}
use Rattle.hm_base.specs.Program.{Program}
use Rattle.hm_base.specs.declared.ops.ScheduleLine.{ScheduleLine}
use Rattle.hm_history.specs.Kernel.Due.{due}
use Rattle.hm_history.specs.Kernel.Run.{has_room, is_entry, turn, actors_of, line_run}
use Rattle.hm_history.specs.declared.Entry.{Entry}

-- the actor has an entry due, and there is no room
abbrev pub overruns_turn : Program → List Entry → ℕ → Bool
overruns_turn c h a = is_entry (due c h a) && not (has_room h)

-- one of n turns of the actor is such
abbrev pub overruns_turns : Program → List Entry → ℕ → ℕ → Bool
overruns_turns c h a zero = false
overruns_turns c h a (suc n) = overruns_turn c h a || overruns_turns c (turn c h a) a n

-- one of these actors is such
abbrev pub some_overruns : Program → List Entry → List ℕ → Bool
some_overruns c h [] = false
some_overruns c h (a ∷ more) = overruns_turn c h a || some_overruns c h more

-- one of the line's turns finds an entry due and no room; of a `drain`, some actor has one due at its end
abbrev pub overruns_line : Program → List Entry → ScheduleLine → Bool
overruns_line c h (ScheduleLine.Run a n) = overruns_turns c h a n
overruns_line c h ScheduleLine.Drain = some_overruns c (line_run c h ScheduleLine.Drain) (actors_of c)

-- one of these lines of a schedule has such a turn
abbrev pub overruns_lines : Program → List Entry → List ScheduleLine → Bool
overruns_lines c h [] = false
overruns_lines c h (l ∷ ls) = overruns_line c h l || overruns_lines c (line_run c h l) ls

-- one of the script's lines has
abbrev pub overruns : Program → Bool
overruns c = overruns_lines c [] c.schedule
