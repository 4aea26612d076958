-- The search for the page to which a migration has come, and the definition of the history.
use Rattle.std.proofs.Common.{◌≡◌, ℕ, Bool, true, false, ◌&&◌, nat_le, Option, Some, None, List, [], ◌∷◌, refl, sym, ap, ◌∙◌}
use Rattle.std.specs.Prelude.{find}
use Rattle.hm_base.specs.declared.ops.Op.{Op}
use Rattle.hm_history.specs.Memory.After.{After}
use Rattle.hm_history.specs.Kernel.Going.{concerns, come_to}
use Rattle.hm_history.specs.declared.phases.Migrating.{Migrating}
use Rattle.hm_history.specs.declared.phases.MoveStep.{MoveStep}
use Rattle.hm_actors.specs.Coming.{first_from, come_by}

-- a list searched from an element on
found_here : (p : Migrating → Bool) (x : Migrating) (xs : List Migrating) (b : Bool) → p x ≡ b → b ≡ true → find p (x ∷ xs) ≡ Some x
found_here p x xs true e t = rw (e, find) refl
found_here p x xs false e t = cc

not_here : (p : Migrating → Bool) (x : Migrating) (xs : List Migrating) (b : Bool) → p x ≡ b → b ≡ false → find p (x ∷ xs) ≡ find p xs
not_here p x xs true e t = cc
not_here p x xs false e t = rw (e, find) refl

-- one step of the search
pub came : (test : MoveStep → Migrating → Bool) (xs : List Migrating) (step : MoveStep) (steps : List MoveStep) (next : ℕ) (x : Migrating) →
    first_from (test step) next xs ≡ Some x → come_by test xs (step ∷ steps) next ≡ Some (step, x)
came test xs step steps next x e = rw (e, come_by) refl

pub came_not : (test : MoveStep → Migrating → Bool) (xs : List Migrating) (step : MoveStep) (steps : List MoveStep) (next : ℕ) →
    first_from (test step) next xs ≡ None → come_by test xs (step ∷ steps) next ≡ come_by test xs steps 0
came_not test xs step steps next e = rw (e, come_by) refl

-- there is no step where there is no record
pub come_nowhere : (test : MoveStep → Migrating → Bool) (steps : List MoveStep) (next : ℕ) → come_by test [] steps next ≡ None
come_nowhere test [] next = refl
come_nowhere test (step ∷ steps) next = come_nowhere test steps 0

-- tests that agree
find_same : (p q : Migrating → Bool) (xs : List Migrating) → ((x : Migrating) → p x ≡ q x) → find p xs ≡ find q xs
find_same p q [] e = refl
find_same p q (x ∷ xs) e = by (p x) refl (q x) refl (e x) (find_same p q xs e)
  where
    by : (b : Bool) → p x ≡ b → (d : Bool) → q x ≡ d → p x ≡ q x → find p xs ≡ find q xs → find p (x ∷ xs) ≡ find q (x ∷ xs)
    by true i true j r h = found_here p x xs (p x) refl i ∙ sym (found_here q x xs (q x) refl j)
    by true i false j r h = cc
    by false i true j r h = cc
    by false i false j r h = not_here p x xs (p x) refl i ∙ h ∙ sym (not_here q x xs (q x) refl j)

pub come_by_shown : (s : After) (o : Op) (test : MoveStep → Migrating → Bool) → ((step : MoveStep) (x : Migrating) → test step x ≡ concerns s o step x) →
    (xs : List Migrating) (steps : List MoveStep) (next : ℕ) → come_by test xs steps next ≡ come_to s o xs steps next
come_by_shown s o test e xs [] next = refl
come_by_shown s o test e xs (step ∷ steps) next = by (first_from (concerns s o step) next xs) refl (come_by_shown s o test e xs steps 0)
  where
    same : first_from (test step) next xs ≡ first_from (concerns s o step) next xs
    same = find_same (λ x. nat_le next x.page && test step x) (λ x. nat_le next x.page && concerns s o step x) xs (λ x. ap (λ (b : Bool). nat_le next x.page && b) (e step x))

    by : (r : Option Migrating) → first_from (concerns s o step) next xs ≡ r → come_by test xs steps 0 ≡ come_to s o xs steps 0 →
        come_by test xs (step ∷ steps) next ≡ come_to s o xs (step ∷ steps) next
    by (Some x) i h = came test xs step steps next x (same ∙ i) ∙ sym (rw (i, come_to) refl)
    by None i h = came_not test xs step steps next (same ∙ i) ∙ h ∙ sym (rw (i, come_to) refl)
