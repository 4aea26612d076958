-- The phases of an actor, of which states share those below the top.
use Rattle.std.specs.Prelude.{List, [], ◌∷◌}
use Rattle.hm_history.specs.declared.phases.Phase.{Phase}
use Rattle.hm_race_states.specs.declared.shared_phases.Listed.{Listed}
use Rattle.hm_race_states.specs.declared.shared_phases.Listed.TheVariants.{Zero, One, Two, Three}

-- the phases, the top first
abbrev pub phases_in : Listed → List Phase
phases_in Zero = []
phases_in (One a) = a ∷ []
phases_in (Two a b) = a ∷ b.value ∷ []
phases_in (Three a b c) = a ∷ b.value ∷ c.value ∷ []
