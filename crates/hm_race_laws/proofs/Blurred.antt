-- Of states that are equal but for positions and absolute sequences, what is due and what comes next is equal but for
-- these, as long as the rules of hm_laws hold.
use Rattle.std.proofs.Common.{◌≡◌, ℕ, ◌+◌, Option, Some, None, List, [], ◌∷◌, ◌++◌, refl, sym, ap, ◌∙◌, subst, fold}
use mathlib.Core.Path.{fun_ext}
use Rattle.hm_base.specs.Program.{Program}
use Rattle.hm_base.specs.declared.ops.Op.{Op}
use Rattle.hm_history.specs.Memory.Words.{with_at}
use Rattle.hm_history.specs.Memory.Sequences.{Sequences}
use Rattle.hm_history.specs.Kernel.Going.{State, Going, op_at, first_stack, going_from, going_on, going_top, going_next, state_next, state_start, state_of}
use Rattle.hm_history.specs.Memory.After.{After}
use Rattle.hm_history.specs.Kernel.Due.{due_in}
use Rattle.hm_history.specs.Laws.{DueFrom}
use Rattle.hm_history.specs.declared.Kind.{Kind}
use Rattle.hm_history.specs.declared.Entry.{Entry}
use Rattle.hm_history.specs.declared.Progress.{Progress}
use Rattle.hm_history.specs.declared.phases.Migrating.{Migrating}
use Rattle.hm_history.specs.declared.phases.Touch.{Touch}
use Rattle.hm_history.specs.declared.phases.Touch.TheVariants.{Cpu, Walk, Sole}
use Rattle.hm_history.specs.declared.phases.Phase.{Phase}
use Rattle.hm_laws.specs.Past.{Past, past_start}
use Rattle.hm_laws.specs.Facts.{facts_of, HoldsAll}
use Rattle.hm_laws.specs.Stands.{Standing}
use Rattle.hm_laws.proofs.Histories.Sound.{Small, turn, turn_of, at_start, standing_after}
use Rattle.hm_race_laws.specs.Outcomes.{Point, Reached, with_answer, answer_of, answers_next}
use Rattle.hm_race_laws.specs.Positions.{forget_touch, forget_phase, forget_stack, forget_state, forget_kind, forget_progress}
use Rattle.hm_race_laws.specs.Numbers.{small_touch, small_phase, small_stack, mirror_of, small_state, small_kind, small_entry, small_progress}
use Rattle.hm_race_laws.specs.Blur.{blurred, blurred_entry, blurred_progress}
use Rattle.hm_race_laws.proofs.Points.{state_after}
use Rattle.hm_race_laws.proofs.DuePositions.{due_forgets}
use Rattle.hm_race_laws.proofs.NextPositions.{next_forgets}
use Rattle.hm_race_laws.proofs.SmallDues.{Ruled, due_same}
use Rattle.hm_race_laws.proofs.SmallNoted.{NotedStack}
use Rattle.hm_race_laws.proofs.SmallNext.{NotedBy, next_same}
use Rattle.hm_race_laws.proofs.SmallFacts.{known_noted, newcomer, opens_at}
use Rattle.hm_history.proofs.Updates.{with_case}

-- an actor with no operation left has no phases
abbrev HasNone : Program → ℕ → Going → Type 0
HasNone c a g = op_at c a g.index ≡ None → g.stack ≡ []

from_none : (c : Program) (a i : ℕ) → HasNone c a (going_from c a i)
from_none c a i e = ap first_stack e

on_none : (c : Program) (a i : ℕ) (o : Op) (l : List Phase) (xs : List Migrating) → op_at c a i ≡ Some o → HasNone c a (going_on c a i l xs)
on_none c a i o [] xs e n = from_none c a (i + 1) n
on_none c a i o (x ∷ l) xs e n = absurd (both (op_at c a i) o e n)
  where
    both : (y : Option Op) (z : Op) → y ≡ Some z → y ≡ None → ⊥
    both y z e d = cc

next_none : (c : Program) (s : After) (a : ℕ) (g : Going) (k : Kind) → HasNone c a g → HasNone c a (going_next c s a g k)
next_none c s a g k h = by (op_at c a g.index) refl
  where
    top : (o : Op) (l : List Phase) → op_at c a g.index ≡ Some o → HasNone c a (going_top c s a g o l k)
    top o [] e = h
    top o (x ∷ l) e = on_none c a g.index o _ _ e

    by : (y : Option Op) → op_at c a g.index ≡ y → HasNone c a (elim y as (λ z. Going) [ None ↦ g | Some o ↦ going_top c s a g o g.stack k ])
    by None e = h
    by (Some o) e = top o g.stack e

-- a state that a history of due entries has
pub record Valid (c : Program) (u : State) : Type 0 where
  pub past : Past
  pub stage : Standing c u past
  pub idle : (a : ℕ) → HasNone c a (u.going a)

pub valid_next : (c : Program) (u : State) (e : Entry) → Small c → Valid c u → due_in c u e.actor ≡ Progress.Did e → Valid c (state_next c u e)
valid_next c u e sm v d = record {
  past = _;
  stage = turn c u v.past e sm v.stage d;
  idle = λ a. with_case (HasNone c) u.going e.actor (going_next c u.after e.actor (u.going e.actor) e.kind) a (λ here. next_none c u.after e.actor (u.going e.actor) e.kind (v.idle e.actor)) (λ ne. v.idle a);
}

idle_after : (c : Program) (u : State) (h : List Entry) → ((a : ℕ) → HasNone c a (u.going a)) → (a : ℕ) → HasNone c a ((fold (state_next c) u h).going a)
idle_after c u [] p = p
idle_after c u (e ∷ h) p = idle_after c (state_next c u e) h (λ a. with_case (HasNone c) u.going e.actor (going_next c u.after e.actor (u.going e.actor) e.kind) a (λ here. next_none c u.after e.actor (u.going e.actor) e.kind (p e.actor)) (λ ne. p a))

valid_of : (c : Program) (h es : List Entry) → Small c → DueFrom c [] h → DueFrom c h es → Valid c (state_of c (h ++ es))
valid_of c h es sm d k = by (standing_after c [] h past_start sm (at_start c sm) d)
  where
    on : (z : (t : Past) × Standing c (state_of c (h ++ es)) t) → Valid c (state_of c (h ++ es))
    on z = record { past = z.0; stage = z.1; idle = idle_after c (state_start c) (h ++ es) (λ a. from_none c a 0) }

    by : (z : (t : Past) × Standing c (state_of c h) t) → Valid c (state_of c (h ++ es))
    by z = on (standing_after c h es z.0 sm z.1 k)

ruled : (c : Program) (u : State) → Valid c u → Ruled u.after
ruled c u v = record { sequences = v.stage.sound.sequences; mirrors = v.stage.sound.mirrors }

noted_by : (c : Program) (u : State) → Valid c u → (b : ℕ) → NotedBy c u b
noted_by c u v b = by (op_at c b (u.going b).index) refl (v.stage.known b)
  where
    by : (x : Option Op) → op_at c b (u.going b).index ≡ x → HoldsAll u.after v.past b (facts_of x (u.going b).pages (u.going b).stack) → NotedStack u.after.sequences (mirror_of x) (u.going b).stack
    by None e h = subst (NotedStack u.after.sequences 0) (sym (v.idle b e)) tt
    by (Some o) e h = known_noted u.after v.past b o (u.going b) (ruled c u v) h

-- positions and sequences are left out in either order
touch_commutes : (s : Sequences) (m : ℕ) (x : Touch) → forget_touch (small_touch s m x) ≡ small_touch s m (forget_touch x)
touch_commutes s m (Cpu k) = refl
touch_commutes s m (Walk k at q) = refl
touch_commutes s m Sole = refl

phase_commutes : (s : Sequences) (m : ℕ) (x : Phase) → forget_phase (small_phase s m x) ≡ small_phase s m (forget_phase x)
phase_commutes s m (Phase.Decide touch) = ap Phase.Decide (touch_commutes s m touch)
phase_commutes s m (Phase.Taken touch g x) = ap (λ z. Phase.Taken z g x) (touch_commutes s m touch)
phase_commutes s m (Phase.Armed touch g x) = ap (λ z. Phase.Armed z g x) (touch_commutes s m touch)
phase_commutes s m (Phase.GiveUp None) = refl
phase_commutes s m (Phase.GiveUp (Some touch)) = ap (λ z. Phase.GiveUp (Some z)) (touch_commutes s m touch)
phase_commutes s m _ = refl

stack_commutes : (s : Sequences) (m : ℕ) (l : List Phase) → forget_stack (small_stack s m l) ≡ small_stack s m (forget_stack l)
stack_commutes s m [] = refl
stack_commutes s m (x ∷ l) = ap (λ z. z ∷ forget_stack (small_stack s m l)) (phase_commutes s m x) ∙ ap (λ z. small_phase s m (forget_phase x) ∷ z) (stack_commutes s m l)

commutes : (c : Program) (u : State) → forget_state (small_state c u) ≡ small_state c (forget_state u)
commutes c u = ap (λ (z : ℕ → List Phase). record { after = (forget_state (small_state c u)).after; going = λ a. record { index = (u.going a).index; stack = z a; pages = (u.going a).pages } }) (fun_ext (λ a. stack_commutes u.after.sequences (mirror_of (op_at c a (u.going a).index)) (u.going a).stack))

kind_commutes : (k : Kind) → forget_kind (small_kind k) ≡ small_kind (forget_kind k)
kind_commutes (Kind.Set m v f w from) = refl
kind_commutes _ = refl

progress_commutes : (p : Progress) → forget_progress (small_progress p) ≡ small_progress (forget_progress p)
progress_commutes (Progress.Did e) = ap (λ k. Progress.Did (record { actor = e.actor; kind = k })) (kind_commutes e.kind)
progress_commutes (Progress.Waiting y) = refl
progress_commutes Progress.Idle = refl

-- what is due, and the next state
pub blurred_due : (c : Program) (u : State) (a : ℕ) → Valid c u → blurred_progress (due_in c u a) ≡ blurred_progress (due_in c (blurred c u) a)
blurred_due c u a v = ap forget_progress (due_same c u a (ruled c u v)) ∙ (progress_commutes (due_in c (small_state c u) a) ∙ (ap small_progress (due_forgets c (small_state c u) a) ∙ sym (progress_commutes (due_in c (blurred c u) a))))

pub blurred_next : (c : Program) (u : State) (e : Entry) → Small c → Valid c u → due_in c u e.actor ≡ Progress.Did e → blurred c (state_next c u e) ≡ blurred c (state_next c (blurred c u) (blurred_entry e))
blurred_next c u e sm v d = ap forget_state (next_same c u e (ruled c u v) (newcomer c u.after v.past e.actor e.kind (ruled c u v) (turn_of c u v.past e sm v.stage d).allowed) (noted_by c u v) (opens_at c u e (ruled c u v) d))
    ∙ (commutes c (state_next c (small_state c u) (small_entry e)) ∙ (ap (small_state c) (next_forgets c (small_state c u) (small_entry e)) ∙ sym (commutes c (state_next c (blurred c u) (blurred_entry e)))))

answer_small : (k : Kind) → answer_of k ≡ answer_of (forget_kind (small_kind k))
answer_small (Kind.Set m v f w from) = refl
answer_small _ = refl

pub answers_like : (f g : ℕ → List Kind) (e d : Entry) → f ≡ g → blurred_entry e ≡ blurred_entry d → answers_next f e ≡ answers_next g d
answers_like f g e d h k = ap (λ z. with_at f e.actor (with_answer z (f e.actor))) (answer_small e.kind) ∙ (ap (λ (z : Entry). with_at f z.actor (with_answer (answer_of z.kind) (f z.actor))) k ∙ (ap (λ (z : ℕ → List Kind). with_at z d.actor (with_answer (answer_of (forget_kind (small_kind d.kind))) (z d.actor))) h ∙ ap (λ z. with_at g d.actor (with_answer z (g d.actor))) (sym (answer_small d.kind))))

pub reached_valid : (c : Program) (h : List Entry) (x : Point) → Small c → DueFrom c [] h → Reached c h x → Valid c x.state
reached_valid c h x sm d r = subst (Valid c) (sym (state_after c h r.entries) ∙ ap (λ (z : Point). z.state) r.same) (valid_of c h r.entries sm d r.due)
