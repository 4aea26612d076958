-- The page to which a migration has come, by any test of a record at a step.
use Rattle.std.specs.Prelude.{ℕ, Bool, ◌&&◌, nat_le, Option, Some, None, List, [], ◌∷◌, find}
use Rattle.hm_history.specs.declared.phases.Migrating.{Migrating}
use Rattle.hm_history.specs.declared.phases.MoveStep.{MoveStep}

-- the first record from this page on that passes
abbrev pub first_from : (Migrating → Bool) → ℕ → List Migrating → Option Migrating
first_from test next xs = find (λ x. nat_le next x.page && test x) xs

-- the first of these steps that has a record, and that record; only the first step begins at a page
abbrev pub come_by : (MoveStep → Migrating → Bool) → List Migrating → List MoveStep → ℕ
    → Option (MoveStep × Migrating)
come_by test xs [] next = None
come_by test xs (step ∷ steps) next = elim (first_from (test step) next xs) [
  | Some x ↦ Some (step, x)
  | None ↦ come_by test xs steps 0
]
