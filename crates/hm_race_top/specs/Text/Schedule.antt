-- Turns as lines of a schedule.
use Rattle.std.specs.Prelude.{ℕ, ◌+◌, ◌==◌, ◌&&◌, nat_lt, true, false, List, [], ◌∷◌, ◌++◌}
use Rattle.hm_base.specs.Program.{Program}
use Rattle.hm_base.specs.declared.ops.ScheduleLine.{ScheduleLine}

-- k turns of an actor, and more turns: those of one actor in a row are one line, as far as a line goes
abbrev pub packed_from : ℕ → ℕ → List ℕ → List ScheduleLine
packed_from a k [] = ScheduleLine.Run a k ∷ []
packed_from a k (b ∷ bs) = elim ((a == b) && nat_lt k 1000000) [
  | true ↦ packed_from a (k + 1) bs
  | false ↦ ScheduleLine.Run a k ∷ packed_from b 1 bs
]

-- turns as lines of a schedule: those of one actor in a row are one line
abbrev pub packed : List ℕ → List ScheduleLine
packed [] = []
packed (a ∷ bs) = packed_from a 1 bs

-- the script with these turns after its own schedule
abbrev pub with_turns : Program → List ℕ → Program
with_turns c turns = record c { schedule = c.schedule ++ packed turns }
