-- Some actor always goes on: who waits, waits for an actor that goes on, or that waits for one that does.
use Rattle.std.proofs.Common.{◌≡◌, ℕ, ◌+◌, ◌⊎◌, inl, inr, true, is_some, Option, Some, None, List, [], ◌∷◌, refl, ap, ◌∙◌, fold}
use Rattle.hm_base.specs.Program.{Program}
use Rattle.hm_base.specs.declared.ops.Op.{Op}
use Rattle.hm_history.specs.Memory.After.{After}
use Rattle.hm_history.specs.Kernel.Going.{State, Going, op_at, first_stack, going_from, going_on, going_next, going_top, state_next, state_of, state_start}
use Rattle.hm_history.specs.Kernel.Due.{due_in, due_top, due_phase, progress}
use Rattle.hm_history.specs.declared.Kind.{Kind}
use Rattle.hm_history.specs.declared.Entry.{Entry}
use Rattle.hm_history.specs.declared.Progress.{Progress}
use Rattle.hm_history.specs.declared.phases.Migrating.{Migrating}
use Rattle.hm_history.specs.declared.phases.Phase.{Phase}
use Rattle.hm_history.specs.declared.phases.Next.{Next}
use Rattle.hm_history.specs.declared.phases.Next.TheVariants.{Do, Wait}
use Rattle.hm_laws.specs.Past.{Past, past_start}
use Rattle.hm_laws.specs.Facts.{nothing_held, facts, facts_of, HoldsAll}
use Rattle.hm_laws.specs.Stands.{Standing}
use Rattle.hm_laws.specs.NeverStuck.{GoesOn, NeverStuck}
use Rattle.hm_laws.proofs.Histories.Sound.{small, at_start, standing_after}
use Rattle.hm_laws.proofs.Waits.WaitsFor.{IsBusy, HasMapLock, NoWait, ForBusy, ForHolder}
use Rattle.hm_laws.proofs.Waits.BusyGoesOn.{waits_for_holder, busy_goes, locker_goes, idle_busy, idle_lock}
use Rattle.hm_history.proofs.Updates.{with_case}

-- an actor with an operation has a phase of it
abbrev pub HasPhase : Program → ℕ → Going → Type 0
HasPhase c a g = (o : Op) → op_at c a g.index ≡ Some o → g.stack ≡ [] → ⊥

first_some : (x : Option Op) (o : Op) → x ≡ Some o → first_stack x ≡ [] → ⊥
first_some None o e h = cc
first_some (Some i) o e h = cc

from_phase : (c : Program) (a i : ℕ) → HasPhase c a (going_from c a i)
from_phase c a i o e h = first_some (op_at c a i) o e h

on_phase : (c : Program) (a i : ℕ) (st : List Phase) (xs : List Migrating) → HasPhase c a (going_on c a i st xs)
on_phase c a i [] xs o e h = from_phase c a (i + 1) o e h
on_phase c a i (x ∷ st) xs o e h = cc

next_phase : (c : Program) (s : After) (a : ℕ) (g : Going) (k : Kind) → HasPhase c a g → HasPhase c a (going_next c s a g k)
next_phase c s a g k h = by (op_at c a g.index)
  where
    top : (o : Op) (st : List Phase) → HasPhase c a (going_top c s a g o st k)
    top o [] = h
    top o (x ∷ st) = on_phase c a g.index _ _

    by : (x : Option Op) → HasPhase c a (elim x as (λ y. Going) [ None ↦ g | Some o ↦ going_top c s a g o g.stack k ])
    by None = h
    by (Some o) = top o g.stack

abbrev pub HavePhases : Program → State → Type 0
HavePhases c u = (a : ℕ) → HasPhase c a (u.going a)

phases_after : (c : Program) (u : State) (h : List Entry) → HavePhases c u → HavePhases c (fold (state_next c) u h)
phases_after c u [] p = p
phases_after c u (e ∷ h) p = phases_after c (state_next c u e) h (λ a. with_case (HasPhase c) u.going e.actor (going_next c u.after e.actor (u.going e.actor) e.kind) a (λ here. next_phase c u.after e.actor (u.going e.actor) e.kind (p e.actor)) (λ ne. p a))

pub phases_of : (c : Program) (h : List Entry) → HavePhases c (state_of c h)
phases_of c h = phases_after c (state_start c) h (λ a. from_phase c a 0)

-- an actor under way, and what is due to it
pub record UnderWay (c : Program) (u : State) (a : ℕ) (P : Next → Type 0) : Type 0 where
  pub next : Next
  pub says : P next
  pub under_way : is_some (op_at c a (u.going a).index) ≡ true
  pub is_due : due_in c u a ≡ progress a next

pub under_way : (c : Program) (u : State) (t : Past) (a : ℕ) (P : Next → Type 0) → HavePhases c u → Standing c u t → (op_at c a (u.going a).index ≡ None → ⊥) →
    ((o : Op) (xs : List Migrating) (top : Phase) (below : List Phase) → HoldsAll u.after t a (facts o xs (top ∷ below)) → P (due_phase c u.after a o xs top)) → UnderWay c u a P
under_way c u t a P ph st some each = by (op_at c a (u.going a).index) refl (u.going a).stack refl (st.known a)
  where
    by : (x : Option Op) → op_at c a (u.going a).index ≡ x → (l : List Phase) → (u.going a).stack ≡ l → HoldsAll u.after t a (facts_of x (u.going a).pages l) → UnderWay c u a P
    by None e l i h = absurd (some e)
    by (Some o) e [] i h = absurd (ph a o e i)
    by (Some o) e (top ∷ below) i h = record {
      next = due_phase c u.after a o (u.going a).pages top;
      says = each o (u.going a).pages top below h;
      under_way = ap is_some e;
      is_due = ap (λ x. due_top c u.after a x (u.going a).pages (u.going a).stack) e ∙ ap (due_top c u.after a (Some o) (u.going a).pages) i;
    }

pub idle : (c : Program) (u : State) (t : Past) (a : ℕ) → Standing c u t → op_at c a (u.going a).index ≡ None → HoldsAll u.after t a nothing_held
idle c u t a st e = by (op_at c a (u.going a).index) e (st.known a)
  where
    by : (x : Option Op) → x ≡ None → HoldsAll u.after t a (facts_of x (u.going a).pages (u.going a).stack) → HoldsAll u.after t a nothing_held
    by None e h = h
    by (Some o) e h = cc

-- some actor goes on
record Goes (c : Program) (u : State) : Type 0 where
  actor : ℕ
  kind : Kind
  under_way : is_some (op_at c actor (u.going actor).index) ≡ true
  is_due : due_in c u actor ≡ Progress.Did (record { actor = actor; kind = kind })

goes : (c : Program) (u : State) (a : ℕ) (P : Next → Type 0) → UnderWay c u a P → ((y : _) → P (Wait y) → Goes c u) → Goes c u
goes c u a P w waiting = by w.next w.says w.is_due
  where
    by : (n : Next) → P n → due_in c u a ≡ progress a n → Goes c u
    by (Do k) h e = record { actor = a; kind = k; under_way = w.under_way; is_due = e }
    by (Wait y) h e = waiting y h

busy_one : (c : Program) (u : State) (t : Past) (a : ℕ) → HavePhases c u → Standing c u t → IsBusy u.after a → Goes c u
busy_one c u t a ph st b = goes c u a NoWait (under_way c u t a NoWait ph st (λ e. idle_busy u.after t a (idle c u t a st e) b) (λ o xs top below h. busy_goes c u.after t a o xs top below h b)) (λ y n. absurd n)

lock_holder : (c : Program) (u : State) (t : Past) (a : ℕ) → HavePhases c u → Standing c u t → HasMapLock u.after a → Goes c u
lock_holder c u t a ph st b = goes c u a (ForBusy u.after) (under_way c u t a (ForBusy u.after) ph st (λ e. idle_lock u.after t a (idle c u t a st e) b) (λ o xs top below h. locker_goes c u.after t a o xs top below st.sound h b))
    (λ y n. busy_one c u t n.0 ph st n.1)

any_one : (c : Program) (u : State) (t : Past) (a : ℕ) → HavePhases c u → Standing c u t → is_some (op_at c a (u.going a).index) ≡ true → Goes c u
any_one c u t a ph st i = goes c u a (ForHolder u.after) (under_way c u t a (ForHolder u.after) ph st (λ e. some (op_at c a (u.going a).index) i e) (λ o xs top below h. waits_for_holder c u.after t a o xs top below st.sound h))
    (λ y n. one n.0 n.1)
  where
    some : (x : Option Op) → is_some x ≡ true → x ≡ None → ⊥
    some x i e = cc

    one : (b : ℕ) → IsBusy u.after b ⊎ HasMapLock u.after b → Goes c u
    one b (inl h) = busy_one c u t b ph st h
    one b (inr h) = lock_holder c u t b ph st h

goes_on : (c : Program) (h : List Entry) → Goes c (state_of c h) → GoesOn c h
goes_on c h g = record { entry = record { actor = g.actor; kind = g.kind }; under_way = g.under_way; is_due = g.is_due }

pub never_stuck : NeverStuck
never_stuck c sc h d a i = let st : (t : Past) × Standing c (state_of c h) t = standing_after c [] h past_start (small c sc) (at_start c (small c sc)) d in
    goes_on c h (any_one c (state_of c h) st.0 a (phases_of c h) st.1 i)
