-- A fork between the two halves of a page is at a page.
use Rattle.std.proofs.Common.{◌≡◌, ℕ, ◌+◌, ◌⊎◌, inl, inr, ◌^◌, ◌<◌, Bool, true, nat_lt, Option, Some, None, List, [], ◌∷◌, refl, sym, arith, subst}
use Rattle.std.specs.Prelude.{IsTrue, slice_get, fold}
use Rattle.std.proofs.lemmas.Bool.{cases_eq}
use Rattle.std.proofs.lemmas.Bool.Decides.{nat_tests}
use Rattle.hm_base.specs.Program.{Program}
use Rattle.hm_base.specs.declared.ops.Op.{Op}
use Rattle.hm_history.specs.Memory.Words.{with_at}
use Rattle.hm_history.specs.Memory.After.{After}
use Rattle.hm_history.specs.Kernel.Going.{State, Going, state_start, state_next, op_at, going_from, going_on, going_top, going_next}
use Rattle.hm_history.specs.Kernel.Due.{proc_of_op}
use Rattle.hm_history.specs.declared.Kind.{Kind}
use Rattle.hm_history.specs.declared.Entry.{Entry}
use Rattle.hm_history.specs.declared.phases.Migrating.{Migrating}
use Rattle.hm_history.specs.declared.phases.Body.{Body}
use Rattle.hm_history.specs.declared.phases.Phase.{Phase}
use Rattle.hm_reads.specs.Ranges.{top_in_range}
use Rattle.hm_laws.specs.Past.{Past}
use Rattle.hm_laws.specs.Sound.{Sound}
use Rattle.hm_laws.specs.Facts.{facts, facts_of, HoldsAll}
use Rattle.hm_world.specs.WorldValue.{WorldValue, now}
use Rattle.hm_world.specs.Stands.{Parts, Stands}
use Rattle.hm_world.proofs.Standing.{Lawful, lawful}
use Rattle.hm_history.proofs.Tests.{some_none}

less : (v : ℕ) → v < 2 ^ 36 → nat_lt v (2 ^ 36) ≡ true
less v l = grind (arith, nat_tests)

forks_ranged : (c : Program) (s : After) (t : Past) (a : ℕ) (o : Op) (xs : List Migrating) (q : ℕ) (r : Rattle.hm_base.specs.Pages.Pages) (met : Bool) (told : Option ℕ) (v : ℕ) (below : List Phase) → Sound c s t → HoldsAll s t a (facts o xs (Phase.Guard q r met told (Body.Fork v true) ∷ below)) → nat_lt v (2 ^ 36) ≡ true
forks_ranged c s t a o xs q r met told v (Phase.Answer ∷ []) so h = less v (so.places.ranged (proc_of_op o) v (h.1.1.1.1.0.1 refl).1)
forks_ranged c s t a o xs q r met told v below so h = absurd h.0

pub stack_ranged : (c : Program) (s : After) (t : Past) (a : ℕ) (o : Op) (xs : List Migrating) (st : List Phase) → Sound c s t → HoldsAll s t a (facts o xs st) → IsTrue (top_in_range (slice_get st 0))
stack_ranged c s t a o xs [] so h = refl
stack_ranged c s t a o xs (Phase.Guard q r met told (Body.Fork v true) ∷ below) so h = forks_ranged c s t a o xs q r met told v below so h
stack_ranged c s t a o xs (top ∷ below) so h = refl

-- an actor that is in no operation has no phase
abbrev Rests : Program → ℕ → Going → Type 0
Rests c a g = op_at c a g.index ≡ None → g.stack ≡ []

rests_from : (c : Program) (a i : ℕ) → Rests c a (going_from c a i)
rests_from c a i e = rw e refl

rests_on : (c : Program) (a i : ℕ) (o : Op) (st : List Phase) (xs : List Migrating) → op_at c a i ≡ Some o → Rests c a (going_on c a i st xs)
rests_on c a i o [] xs e = rests_from c a (i + 1)
rests_on c a i o (x ∷ st) xs e = λ n. absurd (some_none (op_at c a i) o e n)

rests_top : (c : Program) (s : After) (a : ℕ) (g : Going) (o : Op) (k : Kind) (st : List Phase) → op_at c a g.index ≡ Some o → g.stack ≡ st → Rests c a (going_top c s a g o st k)
rests_top c s a g o k [] e q = λ n. q
rests_top c s a g o k (top ∷ below) e q = rests_on c a g.index o _ _ e

rests_next : (c : Program) (s : After) (a : ℕ) (g : Going) (k : Kind) → Rests c a g → Rests c a (going_next c s a g k)
rests_next c s a g k h = by (op_at c a g.index) refl
  where
    by : (x : Option Op) → op_at c a g.index ≡ x → Rests c a (elim x as (λ y. Going) [ None ↦ g | Some o ↦ going_top c s a g o g.stack k ])
    by None e = h
    by (Some o) e = rests_top c s a g o k g.stack e refl

rests_after : (c : Program) (s : State) (h : List Entry) (a : ℕ) → Rests c a (s.going a) → Rests c a ((fold (state_next c) s h).going a)
rests_after c s [] a r = r
rests_after c s (e ∷ h) a r = rests_after c (state_next c s e) h a (by (cases_eq a e.actor))
  where
    here : (f : ℕ → Going) (b : ℕ) (g : Going) → a ≡ b → with_at f b g a ≡ g
    here f b g e = grind (arith, nat_tests)

    there : (f : ℕ → Going) (b : ℕ) (g : Going) → (a ≡ b → ⊥) → with_at f b g a ≡ f a
    there f b g e = grind (arith, nat_tests)

    by : (a ≡ e.actor) ⊎ (a ≡ e.actor → ⊥) → Rests c a (with_at s.going e.actor (going_next c s.after e.actor (s.going e.actor) e.kind) a)
    by (inl i) = subst (Rests c a) (sym (here s.going e.actor _ i)) (subst (λ b. Rests c a (going_next c s.after b (s.going b) e.kind)) i (rests_next c s.after a (s.going a) e.kind r))
    by (inr i) = subst (Rests c a) (sym (there s.going e.actor _ i)) r

-- at each top of a stack
top_at : (c : Program) (u : State) (t : Past) (a : ℕ) (x : Option Op) → op_at c a (u.going a).index ≡ x → Sound c u.after t → Rests c a (u.going a) → HoldsAll u.after t a (facts_of x (u.going a).pages (u.going a).stack) → IsTrue (top_in_range (slice_get (u.going a).stack 0))
top_at c u t a None e so r h = let q : (u.going a).stack ≡ [] = r e in rw q refl
top_at c u t a (Some o) e so r h = stack_ranged c u.after t a o (u.going a).pages (u.going a).stack so h

rests_now : (t : WorldValue) (a : ℕ) → Rests t.script a ((now t).going a)
unfolding now
rests_now t a = rests_after t.script (state_start t.script) t.history a (rests_from t.script a 0)

ranged_now : (t : WorldValue) (x : Parts) → Stands t x → (a : ℕ) → IsTrue (top_in_range (slice_get ((now t).going a).stack 0))
ranged_now t x s a = let l : Lawful t.script t.history (now t).after (now t).going = lawful t x s in
    top_at t.script (now t) l.past a _ refl l.sound (rests_now t a) (l.known a)

pub top_ranged : (t u : WorldValue) → t ≡ u → (x : Parts) → Stands t x → (a : ℕ) → IsTrue (top_in_range (slice_get ((now u).going a).stack 0))
top_ranged t u e x s a = subst (λ v. IsTrue (top_in_range (slice_get ((now v).going a).stack 0))) e (ranged_now t x s a)
