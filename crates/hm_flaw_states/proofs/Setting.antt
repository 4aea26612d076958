-- What a migration comes to whose driver sets its own table, whether or not its interval is being invalidated.
use Rattle.std.proofs.Common.{◌≡◌, ℕ, Bool, true, false, not, ◌&&◌, ◌==◌, if◌then◌else◌, Option, Some, None, List, [], ◌∷◌, refl, sym, ap, ◌∙◌}
use Rattle.std.specs.Prelude.{nat_le, find}
use Rattle.hm_base.specs.declared.ops.Op.{Op}
use Rattle.hm_history.specs.Memory.After.{After}
use Rattle.hm_history.specs.Memory.Plain.{is_attached, mirror_proc}
use Rattle.hm_history.specs.Memory.Sequences.{interval_seq}
use Rattle.hm_history.specs.Kernel.Operation.{op_mirror, is_to_device}
use Rattle.hm_history.specs.Kernel.Going.{concerns, come_to, coming, steps_from}
use Rattle.hm_history.specs.declared.phases.Migrating.{Migrating}
use Rattle.hm_history.specs.declared.phases.MoveStep.{MoveStep}
use Rattle.hm_history.specs.declared.phases.Phase.{Phase}
use Rattle.hm_flaws.specs.Overrides.{uninvalidated, coming_anyway}
use Rattle.hm_flaw_states.specs.Steps.Found.{page_set_at, page_to_set}

abbrev At : Type 0
At = Option (MoveStep × Migrating)

differ : false ≡ true → ⊥
differ e = cc

-- what none of these passes, none passes a harder test
none_harder : (t u : Migrating → Bool) → ((x : Migrating) → u x ≡ true → t x ≡ true) → (xs : List Migrating) → find t xs ≡ None → find u xs ≡ None
none_harder t u h [] e = refl
none_harder t u h (x ∷ xs) e = by (none_harder t u h xs) (t x) refl (u x) refl
  where
    by : (find t xs ≡ None → find u xs ≡ None) → (a : Bool) → t x ≡ a → (b : Bool) → u x ≡ b → find u (x ∷ xs) ≡ None
    by ih true p b q = cc
    by ih false p true q = absurd (differ (sym p ∙ h x q))
    by ih false p false q = ap (λ (a : Bool). if a then Some x else find u xs) q ∙ ih (sym (ap (λ (a : Bool). if a then Some x else find t xs) p) ∙ e)

module _ (s : After) (o : Op) (xs : List Migrating) where
  -- the first page of a step
  abbrev first : After → MoveStep → ℕ → Option Migrating
  first u step n = find (λ x. nat_le n x.page && concerns u o step x) xs

  abbrev on : After → MoveStep → List MoveStep → Option Migrating → At
  on u step steps r = elim r as (λ y. At) [ Some x ↦ Some (step, x) | None ↦ come_to u o xs steps 0 ]

  -- it sets sooner than one that waits
  sooner : (n : ℕ) (x : Migrating) → (nat_le n x.page && concerns s o MoveStep.SetOwnTable x) ≡ true → (nat_le n x.page && concerns (uninvalidated s) o MoveStep.SetOwnTable x) ≡ true
  sooner n x e = by (nat_le n x.page) (is_to_device o) x.moved (is_attached s.plain (op_mirror o)) (not (interval_seq s.sequences (op_mirror o) == s.sequences.seq (mirror_proc s.plain (op_mirror o)))) e
    where
      by : (a b c d e : Bool) → (a && (b && (c && (d && e)))) ≡ true → (a && (b && (c && (d && true)))) ≡ true
      by true true true true e h = refl
      by true true true false e h = cc
      by true true false d e h = cc
      by true false c d e h = cc
      by false b c d e h = cc

  -- a step that is none of the driver's table comes to the same page
  same_first : (step : MoveStep) (n : ℕ) → (step ≡ MoveStep.SetOwnTable → ⊥) → first (uninvalidated s) step n ≡ first s step n
  same_first MoveStep.FreezeOthers n h = refl
  same_first MoveStep.TakeAndCopy n h = refl
  same_first MoveStep.Commit n h = refl
  same_first MoveStep.SetOwnTable n h = absurd (h refl)
  same_first MoveStep.Finish n h = refl

  -- what is no page to set is what the right one comes to
  abbrev AreSame : List MoveStep → ℕ → Type 0
  AreSame steps n = ((x : Migrating) → come_to (uninvalidated s) o xs steps n ≡ Some (MoveStep.SetOwnTable, x) → ⊥) → come_to (uninvalidated s) o xs steps n ≡ come_to s o xs steps n

  same_step : (step : MoveStep) (steps : List MoveStep) (n : ℕ) → AreSame steps 0 → (step ≡ MoveStep.SetOwnTable → ⊥) → (r : Option Migrating) → first (uninvalidated s) step n ≡ r → AreSame (step ∷ steps) n
  same_step step steps n ih other (Some x) e = λ h. ap (on (uninvalidated s) step steps) e ∙ sym (ap (on s step steps) (sym (same_first step n other) ∙ e))
  same_step step steps n ih other None e = λ h. ap (on (uninvalidated s) step steps) e ∙ (ih (λ x i. h x (ap (on (uninvalidated s) step steps) e ∙ i)) ∙ sym (ap (on s step steps) (sym (same_first step n other) ∙ e)))

  set_step : (steps : List MoveStep) (n : ℕ) → AreSame steps 0 → (r : Option Migrating) → first (uninvalidated s) MoveStep.SetOwnTable n ≡ r → AreSame (MoveStep.SetOwnTable ∷ steps) n
  set_step steps n ih (Some x) e = λ h. absurd (h x (ap (on (uninvalidated s) MoveStep.SetOwnTable steps) e))
  set_step steps n ih None e = λ h. ap (on (uninvalidated s) MoveStep.SetOwnTable steps) e ∙ (ih (λ x i. h x (ap (on (uninvalidated s) MoveStep.SetOwnTable steps) e ∙ i)) ∙ sym (ap (on s MoveStep.SetOwnTable steps) (none_harder _ _ (sooner n) xs e)))

  same_steps : (steps : List MoveStep) (n : ℕ) → AreSame steps n
  same_steps [] n = λ h. refl
  same_steps (MoveStep.FreezeOthers ∷ steps) n = same_step MoveStep.FreezeOthers steps n (same_steps steps 0) (λ e. cc) (first (uninvalidated s) MoveStep.FreezeOthers n) refl
  same_steps (MoveStep.TakeAndCopy ∷ steps) n = same_step MoveStep.TakeAndCopy steps n (same_steps steps 0) (λ e. cc) (first (uninvalidated s) MoveStep.TakeAndCopy n) refl
  same_steps (MoveStep.Commit ∷ steps) n = same_step MoveStep.Commit steps n (same_steps steps 0) (λ e. cc) (first (uninvalidated s) MoveStep.Commit n) refl
  same_steps (MoveStep.SetOwnTable ∷ steps) n = set_step steps n (same_steps steps 0) (first (uninvalidated s) MoveStep.SetOwnTable n) refl
  same_steps (MoveStep.Finish ∷ steps) n = same_step MoveStep.Finish steps n (same_steps steps 0) (λ e. cc) (first (uninvalidated s) MoveStep.Finish n) refl

  -- if there is no page to set, all is as if the driver waited
  pub comes_alike : (step : MoveStep) (n : ℕ) → page_to_set (coming_anyway s o xs (Phase.Moves step n)) ≡ None → coming_anyway s o xs (Phase.Moves step n) ≡ coming s o xs (Phase.Moves step n)
  comes_alike step n e = same_steps (steps_from step) n (λ x i. differs x (sym (ap page_to_set i) ∙ e))
    where
      differs : (x : Migrating) → Some x ≡ None → ⊥
      differs x h = cc

-- a page that is to be set is one that the migration has come to
pub set_there : (at : At) (x : Migrating) → page_to_set at ≡ Some x → at ≡ Some (MoveStep.SetOwnTable, x)
set_there None x e = cc
set_there (Some at) x e = by at.0 at.1 e
  where
    by : (step : MoveStep) (y : Migrating) → page_set_at step y ≡ Some x → (let z : At = Some (step, y) in z) ≡ Some (MoveStep.SetOwnTable, x)
    by MoveStep.FreezeOthers y e = cc
    by MoveStep.TakeAndCopy y e = cc
    by MoveStep.Commit y e = cc
    by MoveStep.SetOwnTable y e = ap (λ (z : Option Migrating). elim z as (λ w. At) [ None ↦ None | Some v ↦ Some (MoveStep.SetOwnTable, v) ]) e
    by MoveStep.Finish y e = cc
