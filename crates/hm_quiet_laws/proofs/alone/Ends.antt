-- An actor that goes on alone: how its operation ends, where it stands, and what each of its steps is to show.
use Rattle.std.proofs.Common.{◌≡◌, ℕ, ◌+◌, ◌≤◌, Some, None, List, [], ◌∷◌, sym, ap, ◌∙◌, subst, length, fold}
use Rattle.std.specs.Prelude.{⊤}
use Rattle.hm_base.specs.Program.{Program}
use Rattle.hm_base.specs.declared.ops.Op.{Op}
use Rattle.hm_history.specs.Memory.After.{After}
use Rattle.hm_history.specs.Kernel.Stacks.{stack_after}
use Rattle.hm_history.specs.Kernel.Going.{State, Going, op_at, going_from, going_on, going_next, going_top, state_next, seen_at, recorded}
use Rattle.hm_history.specs.Kernel.Due.{due_in, due_top, due_phase, progress}
use Rattle.hm_history.specs.declared.Kind.{Kind}
use Rattle.hm_history.specs.declared.Entry.{Entry}
use Rattle.hm_history.specs.declared.Progress.{Progress}
use Rattle.hm_history.specs.declared.phases.Migrating.{Migrating}
use Rattle.hm_history.specs.declared.phases.Phase.{Phase}
use Rattle.hm_history.specs.declared.phases.Next.{Next}
use Rattle.hm_history.specs.declared.phases.Next.TheVariants.{Do, Wait}
use Rattle.hm_history.proofs.Updates.{other_at}
use Rattle.hm_laws.specs.Past.{Past}
use Rattle.hm_laws.specs.Sound.{Sound}
use Rattle.hm_laws.specs.Facts.{facts, facts_of, HoldsAll}
use Rattle.hm_laws.specs.Stands.{Standing}
use Rattle.hm_laws.proofs.Due.Good.{Good}
use Rattle.hm_quiet_laws.specs.Rest.{OthersRest}
use Rattle.hm_quiet_laws.proofs.measure.Counts.{Counted, Few}
use Rattle.hm_quiet_laws.proofs.alone.NeverWaits.{Alone}
use Rattle.hm_quiet_laws.proofs.alone.Falls.{Falls}

-- entries that are due to an actor one after the other
abbrev pub DueAlong : Program → State → ℕ → List Entry → Type 0
DueAlong c u a [] = ⊤
DueAlong c u a (e ∷ es) = (due_in c u a ≡ Progress.Did e) × DueAlong c (state_next c u e) a es

pub record Ends (c : Program) (u : State) (a i n : ℕ) : Type 0 where
  pub entries : List Entry
  pub few : length entries ≤ n
  pub due : DueAlong c u a entries
  pub ended : (fold (state_next c) u entries).going a ≡ going_from c a (i + 1)
  pub others : (b : ℕ) → (b ≡ a → ⊥) → (fold (state_next c) u entries).going b ≡ u.going b

-- at each stack of an operation what is due falls, and leads to one of its stacks
abbrev pub StepsTo : Program → After → ℕ → Op → List Migrating → Phase → List Phase → (List Phase → Type 0) → Next → Type 0
StepsTo c s a o xs top below Stays (Do k) = Falls c s a o xs top below (Do k) × Stays (stack_after o (top ∷ below) k (seen_at s o xs top k))
StepsTo c s a o xs top below Stays (Wait y) = ⊤

abbrev pub EachFalls : Program → Op → (List Phase → Type 0) → Type 0
EachFalls c o Stays = (s : After) (t : Past) (a : ℕ) (xs : List Migrating) (top : Phase) (below : List Phase) → Sound c s t → Few c s → Alone s a → HoldsAll s t a (facts o xs (top ∷ below)) → Stays (top ∷ below) → Good c s t a o xs top below (due_phase c s a o xs top) →
    StepsTo c s a o xs top below Stays (due_phase c s a o xs top)

-- the counts are kept by all entries that are due, and say what is few
pub record Counting (c : Program) : Type 0 where
  pub kept : (u : State) (t : Past) (e : Entry) → Standing c u t → due_in c u e.actor ≡ Progress.Did e → Counted c u → Counted c (state_next c u e)
  pub few : (u : State) (t : Past) → Standing c u t → Counted c u → Few c u.after

-- the actor at a stack of its operation
pub record At (c : Program) (u : State) (a i : ℕ) (o : Op) (xs : List Migrating) (st : List Phase) : Type 0 where
  pub index : (u.going a).index ≡ i
  pub is_op : op_at c a i ≡ Some o
  pub pages : (u.going a).pages ≡ xs
  pub stack : (u.going a).stack ≡ st

pub due_at : (c : Program) (u : State) (a i : ℕ) (o : Op) (xs : List Migrating) (top : Phase) (below : List Phase) → At c u a i o xs (top ∷ below) → due_in c u a ≡ progress a (due_phase c u.after a o xs top)
due_at c u a i o xs top below at = ap (λ j. due_top c u.after a (op_at c a j) (u.going a).pages (u.going a).stack) at.index ∙ (ap (λ z. due_top c u.after a z (u.going a).pages (u.going a).stack) at.is_op ∙ (ap (λ z. due_top c u.after a (Some o) z (u.going a).stack) at.pages ∙ ap (due_top c u.after a (Some o) xs) at.stack))

pub knows_at : (c : Program) (u : State) (t : Past) (a i : ℕ) (o : Op) (xs : List Migrating) (st : List Phase) → At c u a i o xs st → Standing c u t → HoldsAll u.after t a (facts o xs st)
knows_at c u t a i o xs st at sd = subst (λ z. HoldsAll u.after t a (facts o xs z)) at.stack (subst (λ z. HoldsAll u.after t a (facts o z (u.going a).stack)) at.pages (subst (λ z. HoldsAll u.after t a (facts_of z (u.going a).pages (u.going a).stack)) (ap (op_at c a) at.index ∙ at.is_op) (sd.known a)))

pub going_at : (c : Program) (u : State) (a i : ℕ) (o : Op) (xs : List Migrating) (top : Phase) (below : List Phase) (k : Kind) → At c u a i o xs (top ∷ below) →
    going_next c u.after a (u.going a) k ≡ going_on c a i (stack_after o (top ∷ below) k (seen_at u.after o xs top k)) (recorded top (seen_at u.after o xs top k).page xs k)
going_at c u a i o xs top below k at = by (u.going a) at.index at.pages at.stack
  where
    by : (g : Going) → g.index ≡ i → g.pages ≡ xs → g.stack ≡ (top ∷ below) → going_next c u.after a g k ≡ going_on c a i (stack_after o (top ∷ below) k (seen_at u.after o xs top k)) (recorded top (seen_at u.after o xs top k).page xs k)
    by g ei ep es = subst (λ (w : Going). going_next c u.after a w k ≡ going_on c a i (stack_after o (top ∷ below) k (seen_at u.after o xs top k)) (recorded top (seen_at u.after o xs top k).page xs k)) (sym same) (ap (λ z. elim z as (λ y. Going) [ None ↦ record { index = i; stack = top ∷ below; pages = xs } | Some q ↦ going_top c u.after a (record { index = i; stack = top ∷ below; pages = xs }) q (top ∷ below) k ]) at.is_op)
      where
        same : g ≡ record { index = i; stack = top ∷ below; pages = xs }
        same = ap (λ j. record { index = j; stack = g.stack; pages = g.pages }) ei ∙ (ap (λ j. record { index = i; stack = j; pages = g.pages }) es ∙ ap (λ j. record { index = i; stack = top ∷ below; pages = j }) ep)

pub others_stay : (c : Program) (u : State) (a : ℕ) (k : Kind) (b : ℕ) → (b ≡ a → ⊥) → (state_next c u (record { actor = a; kind = k })).going b ≡ u.going b
others_stay c u a k b ne = other_at u.going a b (going_next c u.after a (u.going a) k) ne

pub others_rest : (c : Program) (u : State) (a : ℕ) (k : Kind) → OthersRest c u a → OthersRest c (state_next c u (record { actor = a; kind = k })) a
others_rest c u a k ot b ne = subst (λ (g : Going). g ≡ going_from c b g.index) (sym (others_stay c u a k b ne)) (ot b ne)
