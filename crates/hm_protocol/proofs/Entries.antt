-- Where an actor is after its entry, and which events the entry has.
use Rattle.std.proofs.Common.{refl, ap, sym, subst, ◌∙◌, inl, inr}
use Rattle.std.proofs.lemmas.Bool.{true≢false, cases_eq}
use Rattle.std.specs.Prelude.{◌≡◌, ℕ, ◌+◌, ◌⊎◌, Bool, true, false, not, ◌&&◌, if◌then◌else◌, Option, Some}
use Rattle.std.specs.Prelude.{None}
use Rattle.std.specs.Prelude.{List, [], ◌∷◌, ◌++◌, fold}
use Rattle.hm_base.specs.Program.{Program}
use Rattle.hm_base.specs.declared.ops.Op.{Op}
use Rattle.hm_history.specs.Memory.After.{After}
use Rattle.hm_history.specs.Kernel.Operation.{is_migration, is_evicting}
use Rattle.hm_history.specs.Kernel.Stacks.{first_phase, stack_after}
use Rattle.hm_history.specs.Kernel.Going.{Going, State, op_at, first_stack, going_on, going_next, going_top, seen_at}
use Rattle.hm_history.specs.Kernel.Going.{recorded}
use Rattle.hm_history.specs.Kernel.Going.{state_next}
use Rattle.hm_history.specs.declared.Kind.{Kind}
use Rattle.hm_history.specs.declared.Entry.{Entry}
use Rattle.hm_history.specs.declared.phases.Migrating.{Migrating}
use Rattle.hm_history.specs.declared.phases.Phase.{Phase}
use Rattle.hm_history.proofs.Tests.{same_some}
use Rattle.hm_history.proofs.Updates.{here_at, other_at}
use Rattle.hm_protocol.specs.declared.events.Event.{Event}
use Rattle.hm_protocol.specs.Known.{Known}
use Rattle.hm_protocol.specs.Noted.{known_next}
use Rattle.hm_protocol.specs.Projection.{comes_to, events_by, events_in, events_of, top_of, is_home}
use Rattle.hm_protocol.proofs.Stands.{Stand, stand, is_moves}

-- ---- an actor after its entry

-- an operation begins at rest
pub first_rests : (o : Option Op) → stand (first_stack o) ≡ Stand.Rests
first_rests None = refl
first_rests (Some o) = pick o
  where
    pick : (o : Op) → stand (first_phase o ∷ []) ≡ Stand.Rests
    pick (Op.Load p at n) = refl
    pick (Op.Store p at bs) = refl
    pick (Op.DeviceLoad m at n) = refl
    pick (Op.DeviceStore m at bs) = refl
    pick (Op.Add m at n) = refl
    pick (Op.Evict d) = refl
    pick (Op.Remove d) = refl
    pick o = refl

-- what holds wherever an operation goes on holds of its actor then: an operation that begins stands nowhere
pub going_holds : (P : Op → Stand → List Migrating → Type 0) (c : Program) (a i : ℕ) (o : Op) (st : List Phase)
    (xs : List Migrating) → op_at c a i ≡ Some o → ((x : Op) (us : List Migrating) → P x Stand.Rests us)
    → P o (stand st) xs
    → (x : Op) → op_at c a (going_on c a i st xs).index ≡ Some x
    → P x (stand (going_on c a i st xs).stack) (going_on c a i st xs).pages
going_holds P c a i o [] xs e rests h x q =
    subst (λ z. P x z []) (sym (first_rests (op_at c a (i + 1)))) (rests x [])
going_holds P c a i o (top ∷ below) xs e rests h x q =
    subst (λ z. P z (stand (top ∷ below)) xs) (same_some (op_at c a i) o x e q) h

-- ---- a state

-- what is known after the events of an entry
abbrev pub known_after : Program → State → Entry → Known → Known
known_after c t e k = fold known_next k (events_of c t (state_next c t e) e)

-- the events of an entry at a phase
pub events_are : (c : Program) (t u : State) (a : ℕ) (j : Kind) (o : Op) (top : Phase) (below : List Phase)
    → op_at c a (t.going a).index ≡ Some o → (t.going a).stack ≡ top ∷ below
    → events_in t u a j (op_at c a (t.going a).index)
    ≡ comes_to t.after o (t.going a).pages top j
    ++ events_by t.after u.after a o (t.going a).pages (top ∷ below) (top_of (u.going a).stack) j
events_are c t u a j o top below i e = ap (events_in t u a j) i
    ∙ ap (λ st. comes_to t.after o (t.going a).pages (top_of st) j
    ++ events_by t.after u.after a o (t.going a).pages st (top_of (u.going a).stack) j) e

-- so they are, of an operation at a stack
abbrev pub events_at : After → After → ℕ → Op → List Migrating → List Phase → Phase → Kind → List Event
events_at s u a o xs stack after j = comes_to s o xs (top_of stack) j ++ events_by s u a o xs stack after j

none_either : (b : Bool) → ◌≡◌ {A = List Event} (if b then [] ++ [] else []) []
none_either true = refl
none_either false = refl

-- only at its cursor a migration comes to something
pub nothing_comes : (s : After) (o : Op) (xs : List Migrating) (top : Phase) (j : Kind) → is_moves top ≡ false
    → comes_to s o xs top j ≡ []
nothing_comes s o xs (Phase.Moves step n) j h = absurd (true≢false h)
nothing_comes s o xs top j h = none_either (is_migration o)

-- a migration brings no page home
pub not_home : (o : Op) → is_migration o ≡ true → is_home o ≡ false
not_home o h = ap (λ b. not b && not (is_evicting o)) h

-- what holds of its actor after an entry, and of each other one, holds of all
pub each_actor : (c : Program) (t : State) (e : Entry) (P : ℕ → Going → Type 0)
    → P e.actor (going_next c t.after e.actor (t.going e.actor) e.kind)
    → ((b : ℕ) → (b ≡ e.actor → ⊥) → P b (t.going b)) → (b : ℕ) → P b ((state_next c t e).going b)
each_actor c t e P h others b = pick (cases_eq b e.actor)
  where
    next : Going
    next = going_next c t.after e.actor (t.going e.actor) e.kind

    pick : (b ≡ e.actor) ⊎ (b ≡ e.actor → ⊥) → P b ((state_next c t e).going b)
    pick (inl q) = subst (λ b. P b ((state_next c t e).going b)) (sym q)
        (subst (P e.actor) (sym (here_at t.going e.actor next)) h)
    pick (inr ne) = subst (P b) (sym (other_at t.going e.actor b next ne)) (others b ne)
