-- The phases of a stack: as many of its three as it is deep, from the top on.
use Rattle.std.specs.Prelude.{List, [], ◌∷◌}
use Rattle.hm_history.specs.declared.phases.Phase.{Phase}
use Rattle.hm_phases.specs.declared.Depth.{Depth}

-- the first phases of three, as many as the stack is deep
abbrev pub front : Depth → Phase → Phase → Phase → List Phase
front Depth.Zero a b c = []
front Depth.One a b c = a ∷ []
front Depth.Two a b c = a ∷ b ∷ []
front Depth.Three a b c = a ∷ b ∷ c ∷ []
