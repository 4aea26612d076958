-- What is noted of an entry, part by part: for an actor in an operation it is what the state has.
use Rattle.std.specs.Prelude.{◌≡◌, ℕ, Option, Some, List, ◌∷◌}
use Rattle.hm_base.specs.Program.{Program}
use Rattle.hm_base.specs.declared.Place.{Place}
use Rattle.hm_base.specs.declared.ops.Op.{Op}
use Rattle.hm_history.specs.Memory.After.{After}
use Rattle.hm_history.specs.Kernel.Going.{Going, op_at, seen_place, coming, coming_page}
use Rattle.hm_history.specs.declared.Kind.{Kind}
use Rattle.hm_history.specs.declared.phases.Migrating.{Migrating}
use Rattle.hm_history.specs.declared.phases.Phase.{Phase}

-- at the operation and the top of the stack, if the actor has both
abbrev pub AtTop : Program → ℕ → Going → (Op → Phase → Type 0) → Type 0
AtTop c a g holds =
    (o : Op) (top : Phase) (below : List Phase) → op_at c a g.index ≡ Some o → g.stack ≡ top ∷ below → holds o top

-- what was noted as the place is that of the page which the actor's entry is about
abbrev pub IsPlaceSeen : Program → After → ℕ → Going → Kind → Place → Type 0
IsPlaceSeen c s a g k x = AtTop c a g (λ o top. x ≡ seen_place s o top k)

-- what was noted as the page is the record to which the actor's migration has come
abbrev pub IsPageSeen : Program → After → ℕ → Going → Option Migrating → Type 0
IsPageSeen c s a g x = AtTop c a g (λ o top. x ≡ coming_page (coming s o g.pages top))
