-- What an actor sees, and what it comes to.
use Rattle.std.proofs.Common.{◌≡◌, ℕ, Bool, Option, Some, None, List, [], ◌∷◌, refl, ap, subst}
use Rattle.hm_base.specs.Program.{Program}
use Rattle.hm_base.specs.declared.Frame.{Frame}
use Rattle.hm_base.specs.declared.Place.{Place}
use Rattle.hm_base.specs.declared.ops.Op.{Op}
use Rattle.hm_history.specs.Memory.After.{After}
use Rattle.hm_history.specs.Memory.Locks.{locks_start, orphan}
use Rattle.hm_history.specs.Kernel.Going.{Going, State, op_at, going_seen, going_top, going_next, seen_at, seen_overlap, seen_place, coming, coming_page}
use Rattle.hm_history.specs.declared.Kind.{Kind}
use Rattle.hm_history.specs.declared.Entry.{Entry}
use Rattle.hm_history.specs.declared.phases.Migrating.{Migrating}
use Rattle.hm_history.specs.declared.phases.Seen.{Seen}
use Rattle.hm_history.specs.declared.phases.Phase.{Phase}
use Rattle.hm_actors.specs.Actors.{IsSeen, task_next, task_top}
use Rattle.hm_race_keys.specs.FrameTables.{lockers_in}
use Rattle.hm_race_keys.specs.PagePlaces.{places_of}
use Rattle.hm_race_states.specs.Afters.{AtPhase, ActorTakes, TaskTakes}
use Rattle.hm_race_states.specs.States.{state_in}
use Rattle.hm_race_states.specs.declared.state.RaceState.{RaceState}

-- the frame that an entry leaves without a name, by what is kept
pub orphans : (x : RaceState) (k : Kind) → orphan (record locks_start { frame = lockers_in x.locks.value }) (places_of x.places.value) k ≡ orphan (state_in x).after.locks (state_in x).after.places k
orphans x (Kind.Place p v y) = refl
orphans x _ = refl

pub seen_is : (c : Program) (s : After) (a : ℕ) (g : Going) (k : Kind) (n : ℕ) (ov : Bool) (pl : Place) (left : Option Frame) (pg : Option Migrating) →
    n ≡ s.length → ov ≡ seen_overlap s k → AtPhase c a g (λ o top. pl ≡ seen_place s o top k) → left ≡ orphan s.locks s.places k → AtPhase c a g (λ o top. pg ≡ coming_page (coming s o g.pages top)) →
    IsSeen c s a g k (record { at = n; overlapped = ov; place = pl; orphan = left; page = pg })
seen_is c s a g k n ov pl left pg en ev ep el eg o top below fo ft = rw (en, ev, ep o top below fo ft, el, eg o top below fo ft) refl

-- an actor takes the entry, for what it is found to be
pub takes_here : (c : Program) (u : State) (e : Entry) (seen : Seen) (g : Going) → u.going e.actor ≡ g → ActorTakes c u e → IsSeen c u.after e.actor (u.going e.actor) e.kind seen → TaskTakes c e.actor g e.kind seen
takes_here c u e seen g i takes is = subst (λ z. TaskTakes c e.actor z e.kind seen) i (takes seen is)

top_is : (c : Program) (s : After) (a : ℕ) (g : Going) (o : Op) (k : Kind) (seen : Seen) (st : List Phase) → ((top : Phase) (below : List Phase) → st ≡ top ∷ below → seen ≡ seen_at s o g.pages top k) → (task_top c a (record { going = g; spare = 1 }) o st k seen).going ≡ going_top c s a g o st k
top_is c s a g o k seen [] is = refl
top_is c s a g o k seen (top ∷ below) is = ap (λ z. going_seen c a g o top k z) (is top below refl)

-- an actor after its entry, by what it saw
pub task_is : (c : Program) (s : After) (a : ℕ) (g : Going) (k : Kind) (seen : Seen) → IsSeen c s a g k seen → (task_next c a (record { going = g; spare = 1 }) k seen).going ≡ going_next c s a g k
task_is c s a g k seen is = by (op_at c a g.index) refl
  where
    by : (x : Option Op) → op_at c a g.index ≡ x → (task_next c a (record { going = g; spare = 1 }) k seen).going ≡ going_next c s a g k
    by None e = rw (task_next, going_next, e) refl
    by (Some o) e = rw (task_next, going_next, e) (top_is c s a g o k seen g.stack (λ top below es. is o top below e es))
