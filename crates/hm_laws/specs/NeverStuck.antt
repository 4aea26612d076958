-- Somebody always goes on: as long as an operation has not ended, an entry is due to some actor.
use Rattle.std.specs.Prelude.{◌≡◌, ℕ, true, is_some, List, []}
use Rattle.hm_base.specs.Program.{Program, IsScript}
use Rattle.hm_history.specs.Kernel.Going.{op_at, state_of}
use Rattle.hm_history.specs.Kernel.Due.{due}
use Rattle.hm_history.specs.Laws.{DueFrom}
use Rattle.hm_history.specs.declared.Entry.{Entry}
use Rattle.hm_history.specs.declared.Progress.{Progress}

-- an actor has an operation that has not ended
abbrev pub IsUnderWay : Program → List Entry → ℕ → Type 0
IsUnderWay c h a = is_some (op_at c a ((state_of c h).going a).index) ≡ true

-- what is due to such an actor is an entry, and no wait
pub record GoesOn (c : Program) (h : List Entry) : Type 0 where
  pub entry : Entry
  pub under_way : IsUnderWay c h entry.actor
  pub is_due : due c h entry.actor ≡ Progress.Did entry

-- whatever the actors have come to, they do not all wait for one another
abbrev pub NeverStuck : Type 0
NeverStuck = (c : Program) → IsScript c → (h : List Entry) → DueFrom c [] h → (a : ℕ) → IsUnderWay c h a → GoesOn c h
