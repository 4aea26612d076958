-- The actors go on showing where the state has them.
use Rattle.std.proofs.Common.{◌≡◌, ℕ, zero, suc, ◌<◌, ◌≤◌, Option, Some, None, List, [], ◌∷◌, ◌++◌, length, refl, sym, ap, ◌∙◌, subst, arith, slice_set, slice_index_or, ◌⊎◌, inl, inr}
use Rattle.std.proofs.lemmas.Bool.{cases_eq, cases_lt}
use Rattle.std.proofs.lemmas.Bool.Decides.{nat_tests}
use Rattle.std.proofs.lemmas.List.{length-map, get_or-map}
use Rattle.std.proofs.lemmas.Grind.{elements, common_steps}
use Rattle.hm_base.specs.Program.{Program}
use Rattle.hm_base.specs.declared.ops.Op.{Op}
use Rattle.hm_history.specs.Memory.Words.{with_at}
use Rattle.hm_history.specs.Memory.After.{After}
use Rattle.hm_history.specs.Kernel.Going.{State, Going, going_next, going_top, going_seen, op_at, state_start, state_next}
use Rattle.hm_history.specs.declared.Kind.{Kind}
use Rattle.hm_history.specs.declared.phases.Seen.{Seen}
use Rattle.hm_history.specs.declared.phases.Phase.{Phase}
use Rattle.hm_actors.specs.Actors.{TaskValue, nobody, task_of, going_of, goings, ActorsShown, IsSeen, ActorsFit, task_start, first_tasks, actors_start, task_next, task_top, actors_next}
use Rattle.hm_actors.proofs.TaskKept.{nobody_past}
use Rattle.hm_history.proofs.Updates.{other_at}

-- one task after its entry is where the state has its actor
next_at : (c : Program) (s : After) (a : ℕ) (k : Kind) (seen : Seen) (d : TaskValue) (o : Op) (st : List Phase) → d.going.stack ≡ st → op_at c a d.going.index ≡ Some o → IsSeen c s a d.going k seen →
    (task_top c a d o st k seen).going ≡ going_top c s a d.going o st k
next_at c s a k seen d o [] e p q = refl
next_at c s a k seen d o (top ∷ below) e p q = ap (λ (x : Seen). going_seen c a d.going o top k x) (q o top below p e)

next_going : (c : Program) (s : After) (a : ℕ) (k : Kind) (seen : Seen) (d : TaskValue) → IsSeen c s a d.going k seen → (task_next c a d k seen).going ≡ going_next c s a d.going k
next_going c s a k seen d q = by (op_at c a d.going.index) refl
  where
    by : (r : Option Op) → op_at c a d.going.index ≡ r → (task_next c a d k seen).going ≡ going_next c s a d.going k
    by None e = rw (e, task_next, going_next) refl
    by (Some o) e = rw (e, task_next, going_next) (next_at c s a k seen d o d.going.stack refl e q)

moved_going : (c : Program) (s : State) (a : ℕ) (k : Kind) (seen : Seen) (d : TaskValue) → d.going ≡ s.going a → IsSeen c s.after a (s.going a) k seen → (task_next c a d k seen).going ≡ going_next c s.after a (s.going a) k
moved_going c s a k seen d e q = next_going c s.after a k seen d (subst (λ (g : Going). IsSeen c s.after a g k seen) (sym e) q) ∙ ap (λ (g : Going). going_next c s.after a g k) e

set_here : (x : List TaskValue) (a b : ℕ) (d : TaskValue) → b < length x → b ≡ a → task_of (slice_set x a d) b ≡ d
set_here x a b d l e = grind (arith, elements)

set_there : (x : List TaskValue) (a b : ℕ) (d : TaskValue) → b < length x → (b ≡ a → ⊥) → task_of (slice_set x a d) b ≡ task_of x b
set_there x a b d l e = grind (arith, elements)

len_set : (x : List TaskValue) (a : ℕ) (d : TaskValue) (n : ℕ) → length x ≡ n → length (slice_set x a d) ≡ n
len_set x a d n e = grind (arith, common_steps)

at_here : (f : ℕ → Going) (a b : ℕ) (g : Going) → b ≡ a → with_at f a g b ≡ g
at_here f a b g e = grind (arith, nat_tests)

pub actors_kept : (c : Program) (s : State) (a : ℕ) (k : Kind) (seen : Seen) (n : ℕ) (x : List TaskValue) → IsSeen c s.after a (s.going a) k seen → ActorsShown n s.going x →
    ActorsShown n (state_next c s (record { actor = a; kind = k })).going (actors_next c a k seen x)
actors_kept c s a k seen n x q h = record { len = len_set x a _ n h.len; at = λ b l. by b l (cases_eq b a) }
  where
    new : Going
    new = going_next c s.after a (s.going a) k

    by : (b : ℕ) → b < n → (b ≡ a) ⊎ (b ≡ a → ⊥) → going_of (actors_next c a k seen x) b ≡ with_at s.going a (going_next c s.after a (s.going a) k) b
    by b l (inl e) = ap (λ (d : TaskValue). d.going) (set_here x a b _ (omega (arith, h.len)) e) ∙ moved_going c s a k seen (task_of x a) (h.at a (omega arith)) q ∙ sym (at_here s.going a b _ e)
    by b l (inr e) = ap (λ (d : TaskValue). d.going) (set_there x a b _ (omega (arith, h.len)) e) ∙ h.at b l ∙ sym (other_at s.going a b _ e)

-- the start
first_len : (c : Program) (n : ℕ) → length (first_tasks c n) ≡ n
first_len c zero = refl
first_len c (suc n) = let e : length (first_tasks c n) ≡ n = first_len c n in grind (arith, common_steps)

last_at : (x : List TaskValue) (d : TaskValue) (n b : ℕ) → length x ≡ n → b ≡ n → task_of (x ++ (d ∷ [])) b ≡ d
last_at x d n b e p = grind (arith, elements)

before_at : (x : List TaskValue) (d : TaskValue) (n b : ℕ) → length x ≡ n → b < n → task_of (x ++ (d ∷ [])) b ≡ task_of x b
before_at x d n b e p = grind (arith, elements)

first_at : (c : Program) (n b : ℕ) → b < n → task_of (first_tasks c n) b ≡ task_start c b
first_at c zero b l = absurd (omega arith)
first_at c (suc n) b l = by (cases_eq b n) (first_at c n b)
  where
    by : (b ≡ n) ⊎ (b ≡ n → ⊥) → (b < n → task_of (first_tasks c n) b ≡ task_start c b) → task_of (first_tasks c (suc n)) b ≡ task_start c b
    by (inl e) h = last_at (first_tasks c n) (task_start c n) n b (first_len c n) e ∙ ap (task_start c) (sym e)
    by (inr e) h = before_at (first_tasks c n) (task_start c n) n b (first_len c n) (omega arith) ∙ h (omega arith)

pub actors_starts : (c : Program) → ActorsShown (length c.actors) (state_start c).going (actors_start c)
actors_starts c = record { len = first_len c (length c.actors); at = λ b l. ap (λ (d : TaskValue). d.going) (first_at c (length c.actors) b l) }

-- what is the same but for the room shows the same
pub goings_shown : (n : ℕ) (going : ℕ → Going) (x y : List TaskValue) → goings x ≡ goings y → ActorsShown n going y → ActorsShown n going x
goings_shown n going x y e h = let l : length x ≡ n = sym (length-map x (λ (d : TaskValue). d.going)) ∙ ap length e ∙ length-map y (λ (d : TaskValue). d.going) ∙ h.len in
    record {
      len = l;
      at = λ a b. sym (get_or-map (λ (d : TaskValue). d.going) x a nobody nobody.going (omega arith))
          ∙ ap (λ (z : List Going). slice_index_or z a nobody.going) e ∙ get_or-map (λ (d : TaskValue). d.going) y a nobody nobody.going (omega (arith, h.len)) ∙ h.at a b;
    }

-- what a step asks holds of what is shown
pub actors_fit : (c : Program) (a : ℕ) (k : Kind) (seen : Seen) (n : ℕ) (going : ℕ → Going) (x : List TaskValue) → ActorsShown n going x → ActorsFit c a (going a) k seen → ActorsFit c a (going_of x a) k seen
actors_fit c a k seen n going x h f = by (cases_lt a n)
  where
    by : (a < n) ⊎ (n ≤ a) → ActorsFit c a (going_of x a) k seen
    by (inl l) = subst (λ (g : Going). ActorsFit c a g k seen) (sym (h.at a l)) f
    by (inr l) = subst (λ (d : TaskValue). ActorsFit c a d.going k seen) (sym (nobody_past x a (omega (arith, h.len)))) (λ o e. record { few = omega arith; counted = refl })
