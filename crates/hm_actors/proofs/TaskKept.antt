-- A task after its entry.
use Rattle.std.proofs.Common.{◌≡◌, ℕ, ◌+◌, ◌≤◌, true, false, Some, is_none, List, [], ◌∷◌, length, refl, sym, ap, ◌∙◌, subst, slice_get}
use Rattle.std.proofs.lemmas.List.{get_or_past}
use Rattle.hm_base.specs.Program.{Program}
use Rattle.hm_base.specs.declared.ops.Op.{Op}
use Rattle.hm_history.specs.Kernel.Stacks.{stack_after}
use Rattle.hm_history.specs.Kernel.Going.{going_from, going_on, recorded}
use Rattle.hm_history.specs.declared.Kind.{Kind}
use Rattle.hm_history.specs.declared.phases.Seen.{Seen}
use Rattle.hm_history.specs.declared.phases.Phase.{Phase}
use Rattle.hm_actors.specs.Actors.{RecordsValue, TaskValue, nobody, task_of, spare_next, spare_on, task_top, ActorsFit}

pub nobody_past : (x : List TaskValue) (a : ℕ) → length x ≤ a → task_of x a ≡ nobody
nobody_past x a l = get_or_past x a nobody l

pub task_fits : (c : Program) (a : ℕ) (k : Kind) (seen : Seen) (t d : TaskValue) → t ≡ d → ActorsFit c a d.going k seen → ActorsFit c a t.going k seen
task_fits c a k seen t d e f = subst (λ (x : TaskValue). ActorsFit c a x.going k seen) (sym e) f

-- the entry at the top phase ends the operation, or does not
of_top : (c : Program) (a : ℕ) (d : TaskValue) (o : Op) (k : Kind) (seen : Seen) (st : List Phase) (top : Phase) → Some top ≡ slice_get st 0 →
    task_top c a d o st k seen
    ≡ record { going = going_on c a d.going.index (stack_after o d.going.stack k seen) (recorded top seen.page d.going.pages k); spare = spare_on (stack_after o d.going.stack k seen) (spare_next top k d.spare) }
of_top c a d o k seen [] top e = cc
of_top c a d o k seen (x ∷ below) top e = let q : x ≡ top = cc in rw q refl

pub is_empty : (st : List Phase) → true ≡ is_none (slice_get st 0) → st ≡ []
is_empty [] e = refl
is_empty (x ∷ below) e = cc

-- the task, as it is shown
abbrev pub at : ℕ → List Phase → RecordsValue → TaskValue
at i st rs = record { going = record { index = i; stack = st; pages = rs.items }; spare = rs.spare }

pub ends : (c : Program) (a i : ℕ) (st new : List Phase) (rs : RecordsValue) (o : Op) (top : Phase) (k : Kind) (seen : Seen) →
    Some top ≡ slice_get st 0 → new ≡ stack_after o st k seen → true ≡ is_none (slice_get new 0) →
    record { going = going_from c a (i + 1); spare = 0 } ≡ task_top c a (at i st rs) o st k seen
ends c a i st new rs o top k seen p m z =
    sym (of_top c a (at i st rs) o k seen st top p
    ∙ ap (λ (y : List Phase). record { going = going_on c a i y (recorded top seen.page rs.items k); spare = spare_on y (spare_next top k rs.spare) }) (sym m ∙ is_empty new z))

goes_by : (c : Program) (a i : ℕ) (new : List Phase) (next : RecordsValue) → false ≡ is_none (slice_get new 0) →
    record { going = going_on c a i new next.items; spare = spare_on new next.spare } ≡ at i new next
goes_by c a i [] next e = cc
goes_by c a i (x ∷ below) next e = refl

pub goes_on : (c : Program) (a i : ℕ) (st new : List Phase) (rs next : RecordsValue) (o : Op) (top : Phase) (k : Kind) (seen : Seen) →
    Some top ≡ slice_get st 0 → next ≡ record { items = recorded top seen.page rs.items k; spare = spare_next top k rs.spare } →
    new ≡ stack_after o st k seen → false ≡ is_none (slice_get new 0) →
    at i new next ≡ task_top c a (at i st rs) o st k seen
goes_on c a i st new rs next o top k seen p n m z =
    sym (of_top c a (at i st rs) o k seen st top p
    ∙ ap (λ (y : List Phase). record { going = going_on c a i y (recorded top seen.page rs.items k); spare = spare_on y (spare_next top k rs.spare) }) (sym m)
    ∙ ap (λ (y : RecordsValue). record { going = going_on c a i new y.items; spare = spare_on new y.spare }) (sym n)
    ∙ goes_by c a i new next z)
