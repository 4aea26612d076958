-- The entries of a migration's steps, each at the record that it has come to.
use Rattle.std.proofs.Common.{◌≡◌, ℕ, ◌+◌, ◌<◌, Bool, true, false, ◌&&◌, ◌||◌, nat_le, if◌then◌else◌, Option, Some, None, List, [], ◌∷◌, refl, sym, ap, subst, arith, find, count_by}
use Rattle.std.specs.List.{list_any}
use Rattle.std.proofs.lemmas.Bool.Decides.{nat_tests}
use Rattle.std.proofs.lemmas.Bool.{or_left, or_right}
use Rattle.hm_base.specs.Program.{Program}
use Rattle.hm_base.specs.declared.ops.Op.{Op}
use Rattle.hm_history.specs.Memory.After.{After}
use Rattle.hm_history.specs.Kernel.Going.{steps_from, come_to, coming, coming_page, concerns}
use Rattle.hm_history.specs.Kernel.Stacks.{next_cursor}
use Rattle.hm_history.specs.Kernel.Due.{due_moves, due_step}
use Rattle.hm_history.specs.declared.phases.Migrating.{Migrating}
use Rattle.hm_history.specs.declared.phases.MoveStep.{MoveStep}
use Rattle.hm_history.specs.declared.phases.MoveStep.TheVariants.{FreezeOthers, TakeAndCopy, Commit, SetOwnTable, Finish}
use Rattle.hm_history.specs.declared.phases.Phase.{Phase}
use Rattle.hm_history.specs.declared.phases.Next.TheVariants.{Do}
use Rattle.hm_laws.specs.Past.{Past}
use Rattle.hm_laws.specs.Sound.{Sound}
use Rattle.hm_laws.specs.Records.{same_step}
use Rattle.hm_laws.specs.Facts.{No_guard, Holds, facts, HoldsAll}
use Rattle.hm_laws.proofs.Due.Good.{Good}
use Rattle.hm_laws.proofs.Migration.Good.{Came, Steps}
use Rattle.hm_laws.proofs.Migration.Coming.{came_to}
use Rattle.hm_laws.proofs.Migration.FreezeOthers.{freeze_others_ok}
use Rattle.hm_laws.proofs.Migration.TakeAndCopy.{take_and_copy_ok}
use Rattle.hm_laws.proofs.Migration.Commit.{commit_ok}
use Rattle.hm_laws.proofs.Migration.OwnTable.{set_own_table_ok}
use Rattle.hm_laws.proofs.Migration.PageEnds.{finish_ok, migrated_ok}
use Rattle.hm_history.proofs.Tests.{true_false}

-- what it comes to
came_step : (i k : MoveStep) (x y : Migrating) → ◌≡◌ {A = Option (MoveStep × Migrating)} (Some (i, x)) (Some (k, y)) → i ≡ k
came_step i k x y e = ap (λ (r : Option (MoveStep × Migrating)). elim r [ None ↦ i | Some z ↦ z.0 ]) e

no_end : (k : MoveStep) (x : Migrating) → ◌≡◌ {A = Option (MoveStep × Migrating)} None (Some (k, x)) → ⊥
no_end k x e = cc

step_itself : (k : MoveStep) → same_step k k ≡ true
step_itself FreezeOthers = refl
step_itself TakeAndCopy = refl
step_itself Commit = refl
step_itself SetOwnTable = refl
step_itself Finish = refl

step_tests : (i k : MoveStep) → i ≡ k → same_step i k ≡ true
step_tests i k e = subst (λ j. same_step i j ≡ true) e (step_itself i)

-- it comes to one of the steps that it looks through
came_among : (s : After) (o : Op) (xs : List Migrating) (steps : List MoveStep) (next : ℕ) (k : MoveStep) (x : Migrating) → come_to s o xs steps next ≡ Some (k, x) → list_any (same_step k) steps ≡ true
came_among s o xs [] next k x e = absurd (no_end k x e)
came_among s o xs (step ∷ steps) next k x e = by (find (λ y. nat_le next y.page && concerns s o step y) xs) (came_among s o xs steps 0 k x) e
  where
    by : (z : Option Migrating) → (come_to s o xs steps 0 ≡ Some (k, x) → list_any (same_step k) steps ≡ true) → ◌≡◌ {A = Option (MoveStep × Migrating)} (elim z [ Some y ↦ Some (step, y) | None ↦ come_to s o xs steps 0 ]) (Some (k, x)) → (same_step k step || list_any (same_step k) steps) ≡ true
    by (Some y) go e = or_left (same_step k step) (list_any (same_step k) steps) (step_tests k step (sym (came_step step k y x e)))
    by None go e = or_right (same_step k step) (list_any (same_step k) steps) (go e)

-- to the first of all only from there
pub from_first : (s : After) (o : Op) (xs : List Migrating) (step : MoveStep) (next : ℕ) (x : Migrating) → come_to s o xs (steps_from step) next ≡ Some (FreezeOthers, x) → step ≡ FreezeOthers
from_first s o xs FreezeOthers next x e = refl
from_first s o xs TakeAndCopy next x e = absurd (true_false false (came_among s o xs (steps_from TakeAndCopy) next FreezeOthers x e) refl)
from_first s o xs Commit next x e = absurd (true_false false (came_among s o xs (steps_from Commit) next FreezeOthers x e) refl)
from_first s o xs SetOwnTable next x e = absurd (true_false false (came_among s o xs (steps_from SetOwnTable) next FreezeOthers x e) refl)
from_first s o xs Finish next x e = absurd (true_false false (came_among s o xs (steps_from Finish) next FreezeOthers x e) refl)

-- and from there to none that is past the taking of frames, where each page has something to do
none_passes : (t : Migrating → Bool) (xs : List Migrating) → ((x : Migrating) → t x ≡ true) → find t xs ≡ None → xs ≡ []
none_passes t [] h e = refl
none_passes t (x ∷ xs) h e = absurd (first (t x) (h x) e)
  where
    first : (b : Bool) → b ≡ true → ◌≡◌ {A = Option Migrating} (if b then Some x else find t xs) None → ⊥
    first true k e = cc
    first false k e = cc

no_record_left : (s : After) (o : Op) (steps : List MoveStep) (next : ℕ) (k : MoveStep) (x : Migrating) → come_to s o [] steps next ≡ Some (k, x) → ⊥
no_record_left s o [] next k x e = no_end k x e
no_record_left s o (step ∷ steps) next k x e = no_record_left s o steps 0 k x e

from_zero : (n : ℕ) → (nat_le 0 n && true) ≡ true
from_zero n = grind (arith, nat_tests)

not_past_taking : (s : After) (o : Op) (xs : List Migrating) (next : ℕ) (x : Migrating) → come_to s o xs (steps_from FreezeOthers) next ≡ Some (Commit, x) → ⊥
not_past_taking s o xs next x e = by (find (λ y. nat_le next y.page && concerns s o FreezeOthers y) xs) (find (λ y. nat_le 0 y.page && concerns s o TakeAndCopy y) xs) refl e
  where
    other : (step : MoveStep) (y : Migrating) → same_step step Commit ≡ false → ◌≡◌ {A = Option (MoveStep × Migrating)} (Some (step, y)) (Some (Commit, x)) → ⊥
    other step y n e = true_false (same_step step Commit) (step_tests step Commit (came_step step Commit y x e)) n

    by : (z w : Option Migrating) → find (λ y. nat_le 0 y.page && concerns s o TakeAndCopy y) xs ≡ w → ◌≡◌ {A = Option (MoveStep × Migrating)} (elim z [ Some y ↦ Some (FreezeOthers, y) | None ↦ elim w [ Some y ↦ Some (TakeAndCopy, y) | None ↦ come_to s o xs (steps_from Commit) 0 ] ]) (Some (Commit, x)) → ⊥
    by (Some y) w ew e = other FreezeOthers y refl e
    by None (Some y) ew e = other TakeAndCopy y refl e
    by None None ew e = no_record_left s o (steps_from Commit) 0 Commit x (subst (λ ys. come_to s o ys (steps_from Commit) 0 ≡ Some (Commit, x)) (none_passes (λ y. nat_le 0 y.page && concerns s o TakeAndCopy y) xs (λ y. from_zero y.page) ew) e)

-- so that the guard of a commit is followed by the next page's
pub commits_on : (s : After) (o : Op) (xs : List Migrating) (step : MoveStep) (next : ℕ) (x : Migrating) → come_to s o xs (steps_from step) next ≡ Some (Commit, x) → (u : ℕ) → next_cursor step u ≡ Phase.Moves Commit (u + 1)
commits_on s o xs FreezeOthers next x e u = absurd (not_past_taking s o xs next x e)
commits_on s o xs TakeAndCopy next x e u = refl
commits_on s o xs Commit next x e u = refl
commits_on s o xs SetOwnTable next x e u = refl
commits_on s o xs Finish next x e u = refl

abbrev At : Program → After → Past → ℕ → Op → List Migrating → MoveStep → ℕ → Option (MoveStep × Migrating) → Type 0
At c s t a o xs step v r = coming s o xs (Phase.Moves step v) ≡ r → Steps c s t a o xs step v (coming_page r) (due_moves c s o xs r)

at_record : (c : Program) (s : After) (t : Past) (a : ℕ) (o : Op) (xs : List Migrating) (step : MoveStep) (v : ℕ) (k : MoveStep) (x : Migrating) → a < 16 → Sound c s t → Holds s t a No_guard → Came s t a o xs k x → At c s t a o xs step v (Some (k, x))
at_record c s t a o xs step v FreezeOthers x few so g m e = subst (λ n. Steps c s t a o xs n v (Some x) (due_step c s o FreezeOthers x)) (sym (from_first s o xs step v x e)) (freeze_others_ok c s t a o xs x v few so g m)
at_record c s t a o xs step v TakeAndCopy x few so g m e = take_and_copy_ok c s t a o xs x step v so g m
at_record c s t a o xs step v Commit x few so g m e = commit_ok c s t a o xs x step v few so g (commits_on s o xs step v x e) m
at_record c s t a o xs step v SetOwnTable x few so g m e = set_own_table_ok c s t a o xs x step v so g m
at_record c s t a o xs step v Finish x few so g m e = finish_ok c s t a o xs x step v so g m

pub moves_ok : (c : Program) (s : After) (t : Past) (a : ℕ) (o : Op) (xs : List Migrating) (step : MoveStep) (v : ℕ) → a < 16 → Sound c s t → HoldsAll s t a (facts o xs (Phase.Moves step v ∷ [])) → Good c s t a o xs (Phase.Moves step v) [] (Do (due_moves c s o xs (coming s o xs (Phase.Moves step v))))
moves_ok c s t a o xs step v few so h = came_to c s t a o xs step v (At c s t a o xs step v) so h.1.1 h.1.0 (record {
  here = λ k x m. at_record c s t a o xs step v k x few so h.0 m;
  ended = λ m e. migrated_ok c s t a o xs step v (count_by (λ x. x.moved) xs) so h.0 m;
}) refl
