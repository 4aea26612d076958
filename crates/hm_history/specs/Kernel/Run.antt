-- The history of a schedule: its turns in order.
use Rattle.std.specs.Prelude.{ℕ, suc, zero, Bool, true, false, not, ◌&&◌, nat_lt, List, [], ◌∷◌, ◌++◌, length, fold}
use Rattle.std.specs.List.{list_all}
use Rattle.hm_base.specs.Program.{Program}
use Rattle.hm_base.specs.declared.ops.ScheduleLine.{ScheduleLine}
use Rattle.hm_history.specs.Memory.Words.{numbers}
use Rattle.hm_history.specs.declared.Entry.{Entry}
use Rattle.hm_history.specs.declared.Progress.{Progress}
use Rattle.hm_history.specs.Kernel.Due.{due}

-- the history takes one more entry
abbrev pub has_room : List Entry → Bool
has_room h = nat_lt (length h) 2000000

-- the history after a turn that came to this
abbrev pub added : List Entry → Progress → List Entry
added h (Progress.Did e) = elim (has_room h) [ true ↦ h ++ e ∷ [] | false ↦ h ]
added h (Progress.Waiting why) = h
added h Progress.Idle = h

-- the history after a turn of an actor
abbrev pub turn : Program → List Entry → ℕ → List Entry
turn c h a = added h (due c h a)

-- after n turns of one actor
abbrev pub turns : Program → List Entry → ℕ → ℕ → List Entry
turns c h a zero = h
turns c h a (suc n) = turns c (turn c h a) a n

-- as many rounds, and turns of an actor in one, as a history has room for entries: each adds one, or nothing is left
-- to do
unfoldable pub enough : ℕ
enough = 2000000

-- the turn added an entry
abbrev pub is_entry : Progress → Bool
is_entry (Progress.Did e) = true
is_entry (Progress.Waiting why) = false
is_entry Progress.Idle = false

-- the actor has no operation left
abbrev pub is_idle : Progress → Bool
is_idle (Progress.Did e) = false
is_idle (Progress.Waiting why) = false
is_idle Progress.Idle = true

-- after the actor's turns as long as each adds an entry, at most n
abbrev pub turns_on : Program → List Entry → ℕ → ℕ → List Entry
turns_on c h a zero = h
turns_on c h a (suc n) = elim (is_entry (due c h a) && has_room h) [ true ↦ turns_on c (turn c h a) a n | false ↦ h ]

-- the actors in their order
abbrev pub actors_of : Program → List ℕ
actors_of c = numbers 0 (length c.actors)

-- a round of a drain: each actor in order goes on as long as it can
abbrev pub round : Program → List Entry → List Entry
round c h = fold (λ g a. turns_on c g a enough) h (actors_of c)

-- no actor has an operation left
abbrev pub all_idle : Program → List Entry → Bool
all_idle c h = list_all (λ a. is_idle (due c h a)) (actors_of c)

-- rounds until all are idle or there is no room, at most n
abbrev pub drained : Program → List Entry → ℕ → List Entry
drained c h zero = h
drained c h (suc n) = elim (not (all_idle c h) && has_room h) [ true ↦ drained c (round c h) n | false ↦ h ]

-- the history after a line of the schedule
abbrev pub line_run : Program → List Entry → ScheduleLine → List Entry
line_run c h (ScheduleLine.Run a n) = turns c h a n
line_run c h ScheduleLine.Drain = drained c h enough

-- the history of a script's schedule
abbrev pub run : Program → List Entry
run c = fold (line_run c) [] c.schedule
