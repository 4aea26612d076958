-- Actors between operations.
use Rattle.std.specs.Prelude.{◌≡◌, ℕ}
use Rattle.hm_base.specs.Program.{Program}
use Rattle.hm_history.specs.Kernel.Going.{State, going_from}

-- the actor stands where an operation begins, or has none left. It does where no operation of it is under way; and
-- where one has come back to its first phase with nothing held, as a look-up that starts over
abbrev pub IsAtRest : Program → State → ℕ → Type 0
IsAtRest c s a = s.going a ≡ going_from c a (s.going a).index

-- every other actor does
abbrev pub OthersRest : Program → State → ℕ → Type 0
OthersRest c s a = (b : ℕ) → (b ≡ a → ⊥) → IsAtRest c s b
