-- What an operation that is refused leaves.
use Rattle.std.specs.Prelude.{◌≡◌, ℕ, true, Some, List, [], ◌∷◌, ◌++◌, ⊤}
use Rattle.hm_base.specs.Program.{Program, IsScript}
use Rattle.hm_base.specs.declared.cause.Cause.{Cause}
use Rattle.hm_base.specs.declared.ops.Op.{Op}
use Rattle.hm_history.specs.Memory.Plain.{Plain, plain_next}
use Rattle.hm_history.specs.Laws.{DueFrom}
use Rattle.hm_history.specs.Memory.After.{after}
use Rattle.hm_history.specs.Kernel.Going.{op_at, state_of}
use Rattle.hm_history.specs.Kernel.Due.{due}
use Rattle.hm_history.specs.declared.Entry.{Entry}
use Rattle.hm_history.specs.declared.Kind.{Kind}
use Rattle.hm_history.specs.declared.Progress.{Progress}

-- the number of the actor's operation that is next or under way after a history
abbrev pub operation_of : Program → List Entry → ℕ → ℕ
operation_of c h a = ((state_of c h).going a).index

-- the entry changes no plain state, whatever that is
abbrev pub ChangesNothing : Kind → Type 0
ChangesNothing k = (s : Plain) → plain_next s k ≡ s

-- of the entries that follow h, those of the actor's operation of this number change no plain state
abbrev pub OwnChangeNothing : Program → ℕ → ℕ → List Entry → List Entry → Type 0
OwnChangeNothing c a number h [] = ⊤
OwnChangeNothing c a number h (e ∷ es) =
    (e.actor ≡ a → operation_of c h a ≡ number → ChangesNothing e.kind)
    × OwnChangeNothing c a number (h ++ e ∷ []) es

-- after the history a refusal is due to the actor
abbrev pub IsRefused : Program → List Entry → ℕ → Cause → Type 0
IsRefused c h a why = due c h a ≡ Progress.Did (record { actor = a; kind = Kind.Refused why })

-- where an operation is refused, each of its entries has left the plain state as it was
abbrev pub RefusedLeavesPlain : Type 0
RefusedLeavesPlain =
    (c : Program) → IsScript c → (h : List Entry) → DueFrom c [] h → (a : ℕ) (why : Cause) → IsRefused c h a why
    → OwnChangeNothing c a (operation_of c h a) [] h

-- a removal that is refused has withdrawn its device
abbrev pub RefusedRemovalWithdraws : Type 0
RefusedRemovalWithdraws =
    (c : Program) → IsScript c → (h : List Entry) → DueFrom c [] h → (a d : ℕ) (why : Cause) → IsRefused c h a why
    → op_at c a (operation_of c h a) ≡ Some (Op.Remove d) → (after h).places.withdrawn d ≡ true
