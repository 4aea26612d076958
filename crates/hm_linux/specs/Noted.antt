-- The states of a script with variants: those of the definitions, and what the variants note besides.
use Rattle.std.specs.Prelude.{ℕ, Bool, false, Option, None, List, []}
use Rattle.hm_base.specs.declared.Frame.{Frame}
use Rattle.hm_history.specs.Kernel.Going.{State}

-- what the history does not tell: the frames that an actor has a reference to, the frame of an exclusive page that it
-- has locked, whether its page was changed before it was to be its alone, and whether an invalidation met its snapshot
pub record Noted : Type 0 where
  pub references : ℕ → List Frame
  pub locks : ℕ → Option Frame
  pub busy : ℕ → Bool
  pub torn : ℕ → Bool

-- nothing is noted
abbrev pub nothing_noted : Noted
nothing_noted = record { references = λ a. []; locks = λ a. None; busy = λ a. false; torn = λ a. false }

-- the state of the definitions, and what is noted
pub record Varied : Type 0 where
  pub state : State
  pub noted : Noted

-- a state to which the definitions' memory manager came
abbrev pub varied_from : State → Varied
varied_from u = record { state = u; noted = nothing_noted }
