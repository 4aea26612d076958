-- The stacks of all actors stand after an entry that is due.
use Rattle.std.proofs.Common.{◌≡◌, ℕ, zero, suc, ◌+◌, ◌<◌, ◌≤◌, ◌==◌, inl, inr, Bool, true, false, if◌then◌else◌, Option, Some, None, List, [], ◌∷◌, length, map, refl, sym, ap, ◌∙◌, arith}
use Rattle.std.proofs.lemmas.Bool.{cases_lt}
use Rattle.std.proofs.lemmas.List.{length-map}
use Rattle.std.specs.Rc.{rc_value}
use Rattle.hm_base.specs.Program.{Program}
use Rattle.hm_base.specs.declared.ops.Op.{Op}
use Rattle.hm_history.specs.Memory.After.{After}
use Rattle.hm_history.specs.Kernel.Going.{Going, going_next, going_on, going_top, op_at, recorded, seen_at}
use Rattle.hm_history.specs.Kernel.Stacks.{stack_after}
use Rattle.hm_history.specs.declared.Entry.{Entry}
use Rattle.hm_history.specs.declared.Kind.{Kind}
use Rattle.hm_history.specs.declared.Progress.{Progress}
use Rattle.hm_history.specs.declared.phases.Body.{Body}
use Rattle.hm_history.specs.declared.phases.Migrating.{Migrating}
use Rattle.hm_history.specs.declared.phases.Phase.{Phase}
use Rattle.hm_history.specs.declared.phases.Seen.{Seen}
use Rattle.hm_actors.specs.Actors.{IsSeen, TaskValue, task_next, task_top}
use Rattle.hm_flaws.specs.Drivers.{Driver}
use Rattle.hm_flaws.specs.Flawed.{Flawed, due_by, due_flawed_top, flawed_next, found, going_by, taken_for}
use Rattle.hm_flaws.specs.declared.flaws.Flaw.{Flaw}
use Rattle.hm_race_states.specs.Afters.{TaskTakes}
use Rattle.hm_race_states.specs.States.{goings_in, nobody}
use Rattle.hm_race_states.specs.declared.tasks.RaceTask.{RaceTask}
use Rattle.hm_flaw_states.specs.Follows.{Standing}
use Rattle.hm_flaw_states.specs.States.{state_in}
use Rattle.hm_flaw_states.specs.declared.state.FlawState.{FlawState}
use Rattle.hm_flaw_states.specs.Rooms.{IsQuietAt, PlacesPage, StackStands}
use Rattle.hm_flaw_states.proofs.Quieting.{due_quiet}
use Rattle.hm_flaw_states.proofs.Standing.{counted_stack, first_stands, low_stack, ranged_stack, stack_stands, stands_by, stands_more}

-- ---- one actor

on_stands : (m : ℕ) (c : Program) (a i : ℕ) (st : List Phase) (xs : List Migrating) → StackStands m st → StackStands m (going_on c a i st xs).stack
on_stands m c a i [] xs h = first_stands m c a (i + 1)
on_stands m c a i (top ∷ below) xs h = h

-- what an actor's stack asks of its entry
pub task_takes : (n : ℕ) (c : Program) (a : ℕ) (g : Going) (k : Kind) (seen : Seen) → n ≤ 2000000 → PlacesPage k → IsQuietAt g.stack seen → StackStands n g.stack → TaskTakes c a g k seen
task_takes n c a g k seen few pg q h o e = let s = stack_stands n o g.stack k seen pg q h in record {
  fits = record { few = low_stack (n + 1) (stack_after o g.stack k seen) s; counted = counted_stack n g.stack few h };
  ranged = ranged_stack (n + 1) (stack_after o g.stack k seen) s;
}

top_stands : (m : ℕ) (c : Program) (a : ℕ) (d : TaskValue) (o : Op) (st : List Phase) (k : Kind) (seen : Seen) → StackStands m d.going.stack → StackStands m (stack_after o d.going.stack k seen) → StackStands m (task_top c a d o st k seen).going.stack
top_stands m c a d o [] k seen h s = h
top_stands m c a d o (top ∷ below) k seen h s = on_stands m c a d.going.index (stack_after o d.going.stack k seen) (recorded top seen.page d.going.pages k) s

-- its stack stands after the entry
pub task_stands : (n : ℕ) (c : Program) (a : ℕ) (d : TaskValue) (k : Kind) (seen : Seen) → PlacesPage k → IsQuietAt d.going.stack seen → StackStands n d.going.stack → StackStands (n + 1) (task_next c a d k seen).going.stack
task_stands n c a d k seen pg q h = by (op_at c a d.going.index)
  where
    by : (o : Option Op) → StackStands (n + 1) (elim o as (λ z. TaskValue) [ None ↦ d | Some p ↦ task_top c a d p d.going.stack k seen ]).going.stack
    by None = stands_more n d.going.stack h
    by (Some p) = top_stands (n + 1) c a d p d.going.stack k seen (stands_more n d.going.stack h) (stack_stands n p d.going.stack k seen pg q h)

next_stands : (n : ℕ) (c : Program) (s : After) (a : ℕ) (g : Going) (k : Kind) → PlacesPage k → ((seen : Seen) → IsSeen c s a g k seen → IsQuietAt g.stack seen) → StackStands n g.stack → StackStands (n + 1) (going_next c s a g k).stack
next_stands n c s a g k pg q h = by (op_at c a g.index) g.stack refl refl
  where
    by : (o : Option Op) (st : List Phase) → op_at c a g.index ≡ o → g.stack ≡ st → StackStands (n + 1) (elim o as (λ z. Going) [ None ↦ g | Some p ↦ going_top c s a g p st k ]).stack
    by None st e es = stands_more n g.stack h
    by (Some o) [] e es = stands_more n g.stack h
    by (Some o) (top ∷ below) e es =
        let sn : Seen = seen_at s o g.pages top k in
        on_stands (n + 1) c a g.index (stack_after o g.stack k sn) (recorded top sn.page g.pages k) (stack_stands n o g.stack k sn pg (q sn (λ p t b ep et. seen_same p t b (sym e ∙ ep) (sym es ∙ et))) h)
      where
        seen_same : (p : Op) (t : Phase) (b : List Phase) → Some o ≡ Some p → top ∷ below ≡ t ∷ b → seen_at s o g.pages top k ≡ seen_at s p g.pages t k
        seen_same p t b i j = cc

by_stands : (m : ℕ) (l : Flaw) (o : Option Op) (at : ℕ) (before : List Phase) (k : Kind) (g : Going) → StackStands m g.stack → StackStands m (going_by l o at before k g).stack
by_stands m Flaw.NoFlaw o at before k g h = h
by_stands m l o at before k g h = stands_by m l o at before k g.pages g.stack h

taken_page : (l : Flaw) (st : List Phase) (k : Kind) → PlacesPage k → PlacesPage (taken_for l st k)
taken_page Flaw.FrozenLate (Phase.Guard p r met told (Body.Select u) ∷ below) (Kind.Place q v x) h = h
taken_page l st k h = h

-- ---- all actors

-- stacks stand after an entry that is due
pub flawed_stands : (l : Flaw) (c : Program) (t : Flawed) (e : Entry) → due_by l c t e.actor ≡ Progress.Did e → PlacesPage e.kind → Standing t.state → Standing (flawed_next l c t e).state
flawed_stands l c t e is pg h b = by (b == e.actor)
  where
    a : ℕ
    a = e.actor

    n : ℕ
    n = t.state.after.length

    g : Going
    g = t.state.going a

    k : Kind
    k = taken_for l g.stack e.kind

    here : StackStands (n + 1) (going_by l (op_at c a g.index) n g.stack k (going_next c (found l c t) a g k)).stack
    here = by_stands (n + 1) l (op_at c a g.index) n g.stack k (going_next c (found l c t) a g k)
        (next_stands n c (found l c t) a g k (taken_page l g.stack e.kind pg) (λ seen sees. due_quiet l c t a e seen is sees) (h a))

    by : (i : Bool) → StackStands (n + 1) (if i then going_by l (op_at c a g.index) n g.stack k (going_next c (found l c t) a g k) else t.state.going b).stack
    by true = here
    by false = stands_more n (t.state.going b).stack (h b)

-- ---- which actors there are

past : (ts : List RaceTask) (a : ℕ) → length ts ≤ a → goings_in ts a ≡ nobody
past [] a h = refl
past (t ∷ ts) zero h = absurd (omega (arith, h))
past (t ∷ ts) (suc a) h = past ts a (omega (arith, h))

idle : (l : Flaw) (c : Program) (x : Driver) (s : After) (a : ℕ) (o : Option Op) (xs : List Migrating) (st : List Phase) (e : Entry) → st ≡ [] → due_flawed_top l c x s a o xs st ≡ Progress.Did e → ⊥
idle l c x s a (Some o) xs [] e n d = cc
idle l c x s a None xs [] e n d = cc
idle l c x s a o xs (top ∷ below) e n d = cc

-- something is due to an actor that the state has
pub actor_there : (ts : List RaceTask) (l : Flaw) (c : Program) (t : Flawed) (a : ℕ) (e : Entry) → t.state.going ≡ goings_in ts → due_by l c t a ≡ Progress.Did e → a < length ts
actor_there ts l c t a e same is = elim (cases_lt a (length ts)) [
  | inl k ↦ k
  | inr k ↦ absurd (idle l c t.driver (found l c t) a (op_at c a (t.state.going a).index) (t.state.going a).pages (t.state.going a).stack e (ap (λ (f : ℕ → Going). (f a).stack) same ∙ ap (λ (g : Going). g.stack) (past ts a k)) is)
]

pub actor_kept : (x : FlawState) (l : Flaw) (c : Program) (d : Driver) (a : ℕ) (e : Entry) → due_by l c (record { state = state_in x; driver = d }) a ≡ Progress.Did e → a < length x.tasks.items
actor_kept x l c d a e is = omega (arith, actor_there (map rc_value x.tasks.items) l c (record { state = state_in x; driver = d }) a e refl is, length-map x.tasks.items rc_value)
