-- Whose an entry is that is due, what an actor past the script has to do, and how long a state's history is.
use Rattle.std.proofs.Common.{◌≡◌, ℕ, ◌+◌, ◌≤◌, Option, Some, None, List, [], ◌∷◌, length, slice_get, ap, sym, fold, arith}
use Rattle.std.proofs.lemmas.Option.{slice_get_past}
use Rattle.hm_base.specs.Program.{Program}
use Rattle.hm_base.specs.declared.ops.Op.{Op}
use Rattle.hm_history.specs.Kernel.Going.{State, op_at, state_next}
use Rattle.hm_history.specs.Kernel.Due.{due_in, due_top, due_phase, progress}
use Rattle.hm_history.specs.declared.Entry.{Entry}
use Rattle.hm_history.specs.declared.Progress.{Progress}
use Rattle.hm_history.specs.declared.phases.Phase.{Phase}
use Rattle.hm_history.specs.declared.phases.Next.{Next}
use Rattle.hm_history.specs.declared.phases.Next.TheVariants.{Do, Wait}

abbrev entry_of : Entry → Progress → Entry
entry_of e (Progress.Did d) = d
entry_of e _ = e

-- what is due to an actor is its own
pub own_actor : (c : Program) (u : State) (a : ℕ) (e : Entry) → due_in c u a ≡ Progress.Did e → e.actor ≡ a
own_actor c u a e d = top (op_at c a (u.going a).index) (u.going a).stack d
  where
    next : (n : Next) → progress a n ≡ Progress.Did e → e.actor ≡ a
    next (Do k) h = sym (ap (λ p. (entry_of e p).actor) h)
    next (Wait y) h = cc

    top : (o : Option Op) (l : List Phase) → due_top c u.after a o (u.going a).pages l ≡ Progress.Did e → e.actor ≡ a
    top None [] h = cc
    top None (x ∷ l) h = cc
    top (Some o) [] h = cc
    top (Some o) (x ∷ l) h = next (due_phase c u.after a o (u.going a).pages x) h

-- an actor that the script does not have has no operations
pub no_op : (c : Program) (a i : ℕ) → length c.actors ≤ a → op_at c a i ≡ None
no_op c a i h = ap (λ x. slice_get (elim x as (λ y. List Op) [ None ↦ [] | Some os ↦ os ]) i) (slice_get_past c.actors a h)

-- each entry adds one to the length
pub lengths : (c : Program) (u : State) (h : List Entry) → (fold (state_next c) u h).after.length ≡ u.after.length + length h
lengths c u [] = omega arith
lengths c u (e ∷ h) = omega (arith, lengths c (state_next c u e) h)
