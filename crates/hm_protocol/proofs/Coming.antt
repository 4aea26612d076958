-- The record to which a migration has come.
use Rattle.std.proofs.Common.{refl, ap, sym, subst, ◌∙◌, inl, inr, cond}
use Rattle.std.proofs.lemmas.Bool.{and_parts}
use Rattle.std.specs.Prelude.{◌≡◌, ℕ, ◌⊎◌, Bool, true, false, ◌&&◌, nat_le, Option, Some}
use Rattle.std.specs.Prelude.{None}
use Rattle.std.specs.Prelude.{List, [], ◌∷◌, find}
use Rattle.hm_base.specs.declared.ops.Op.{Op}
use Rattle.hm_history.specs.Memory.After.{After}
use Rattle.hm_history.specs.Kernel.Going.{come_to, coming, concerns}
use Rattle.hm_history.specs.declared.phases.Migrating.{Migrating}
use Rattle.hm_history.specs.declared.phases.MoveStep.{MoveStep}
use Rattle.hm_history.specs.declared.phases.Phase.{Phase}
use Rattle.hm_history.proofs.Tests.{no_test}
use Rattle.hm_laws.specs.Records.{Among}
use Rattle.hm_laws.proofs.Migration.Coming.{find_some}

-- it is one of the records, and the step has something to do for it
pub come_says : (s : After) (o : Op) (xs : List Migrating) (steps : List MoveStep) (n : ℕ) (at : MoveStep)
    (x : Migrating)
    → come_to s o xs steps n ≡ Some (at, x) → Among xs x × (concerns s o at x ≡ true)
come_says s o xs [] n at x e = cc
come_says s o xs (step ∷ steps) n at x e =
    pick (find (λ x. nat_le n x.page && concerns s o step x) xs) refl e (come_says s o xs steps 0 at x)
  where
    pick : (y : Option Migrating) → find (λ x. nat_le n x.page && concerns s o step x) xs ≡ y
        → elim y as (λ y. Option (MoveStep × Migrating)) [ Some x ↦ Some (step, x) | None ↦ come_to s o xs steps 0 ]
        ≡ Some (at, x)
        → (come_to s o xs steps 0 ≡ Some (at, x) → Among xs x × (concerns s o at x ≡ true))
        → Among xs x × (concerns s o at x ≡ true)
    pick None f e ih = ih e
    pick (Some y) f e ih = subst (λ (w : MoveStep × Migrating). Among xs w.1 × (concerns s o w.0 w.1 ≡ true))
        (same (step, y) (at, x) e)
        (z.0, (and_parts (nat_le n y.page) (concerns s o step y) z.1).1)
      where
        same : (v w : MoveStep × Migrating) → ◌≡◌ {A = Option (MoveStep × Migrating)} (Some v) (Some w) → v ≡ w
        same v w e = cc

        z : Among xs y × ((nat_le n y.page && concerns s o step y) ≡ true)
        z = find_some (λ x. nat_le n x.page && concerns s o step x) xs y f

-- from the last step it comes to no other
pub last_only : (s : After) (o : Op) (xs : List Migrating) (v : ℕ) (i : MoveStep) (x : Migrating)
    → coming s o xs (Phase.Moves MoveStep.Finish v) ≡ Some (i, x) → i ≡ MoveStep.Finish
last_only s o xs v i x e = by_found (find (λ x. nat_le v x.page && concerns s o MoveStep.Finish x) xs) e
  where
    by_found : (r : Option Migrating) → ◌≡◌ {A = Option (MoveStep × Migrating)}
        (elim r [ Some y ↦ Some (MoveStep.Finish, y) | None ↦ None ]) (Some (i, x))
        → i ≡ MoveStep.Finish
    by_found None e = cc
    by_found (Some y) e = ap (λ (z : Option (MoveStep × Migrating)). elim z [ None ↦ MoveStep.Finish | Some w ↦ w.0 ])
        (sym e)

-- a migration in its last step sets nothing
pub finish_sets_nothing : (s : After) (o : Op) (xs : List Migrating) (n : ℕ) (x : Migrating)
    → coming s o xs (Phase.Moves MoveStep.Finish n) ≡ Some (MoveStep.SetOwnTable, x) → ⊥
finish_sets_nothing s o xs n x e = no_test (ap (λ (i : MoveStep). elim i [ MoveStep.Finish ↦ true | _ ↦ false ])
    (last_only s o xs n MoveStep.SetOwnTable x e))
