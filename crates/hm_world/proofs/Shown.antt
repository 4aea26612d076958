-- What the structures show of the state of a world.
use Rattle.std.proofs.Common.{◌≡◌, ℕ, ◌+◌, ◌<◌, ◌≤◌, ◌⊎◌, inl, inr, List, [], ◌∷◌, length, refl, sym, ap, ◌∙◌, arith, subst}
use Rattle.std.proofs.lemmas.Bool.{cases_lt, cases_eq}
use Rattle.std.proofs.lemmas.Bool.Decides.{nat_tests}
use Rattle.std.specs.Prelude.{fold}
use Rattle.hm_base.specs.Program.{Program}
use Rattle.hm_history.specs.Memory.Words.{with_at}
use Rattle.hm_history.specs.Memory.After.{After}
use Rattle.hm_history.specs.Kernel.Going.{State, Going, state_start, state_next, going_next, going_from}
use Rattle.hm_history.specs.declared.Kind.{Kind}
use Rattle.hm_history.specs.declared.Entry.{Entry}
use Rattle.hm_actors.specs.Actors.{TaskValue, ActorsShown, going_of, nobody}
use Rattle.hm_actors.proofs.TaskKept.{nobody_past}
use Rattle.hm_world.specs.WorldValue.{WorldValue, now}
use Rattle.hm_world.specs.Stands.{Parts, Shows, Stands}
use Rattle.hm_history.proofs.Going.{no_op, lengths}

pub shown : (t u : WorldValue) → t ≡ u → (x : Parts) → Stands t x → Shows u.script (now u) x
shown t u e x s = subst (λ v. Shows v.script (now v) x) e s.shows

pub now_length : (t : WorldValue) → (now t).after.length ≡ length t.history
unfolding now
now_length t = lengths t.script (state_start t.script) t.history ∙ omega arith

stays : (c : Program) (s : After) (a : ℕ) (g : Going) (k : Kind) → length c.actors ≤ a → going_next c s a g k ≡ g
stays c s a g k l = rw (going_next, no_op c a g.index l) refl

at_rest : (c : Program) (s : State) (h : List Entry) (a : ℕ) → length c.actors ≤ a → (fold (state_next c) s h).going a ≡ s.going a
at_rest c s [] a l = refl
at_rest c s (e ∷ h) a l = at_rest c (state_next c s e) h a l ∙ by (cases_eq a e.actor)
  where
    here : (f : ℕ → Going) (b : ℕ) (g : Going) → a ≡ b → with_at f b g a ≡ g
    here f b g e = grind (arith, nat_tests)

    there : (f : ℕ → Going) (b : ℕ) (g : Going) → (a ≡ b → ⊥) → with_at f b g a ≡ f a
    there f b g e = grind (arith, nat_tests)

    by : (a ≡ e.actor) ⊎ (a ≡ e.actor → ⊥) → with_at s.going e.actor (going_next c s.after e.actor (s.going e.actor) e.kind) a ≡ s.going a
    by (inl i) = here s.going e.actor _ i ∙ subst (λ b. going_next c s.after b (s.going b) e.kind ≡ s.going a) i (stays c s.after a (s.going a) e.kind l)
    by (inr i) = there s.going e.actor _ i

pub going_now : (t : WorldValue) (x : List TaskValue) (a : ℕ) → ActorsShown (length t.script.actors) (now t).going x → going_of x a ≡ (now t).going a
unfolding now
going_now t x a h = by (cases_lt a (length t.script.actors))
  where
    first : length t.script.actors ≤ a → going_from t.script a 0 ≡ nobody.going
    first l = rw (going_from, no_op t.script a 0 l) refl

    by : (a < length t.script.actors) ⊎ (length t.script.actors ≤ a) → going_of x a ≡ (now t).going a
    by (inl l) = h.at a l
    by (inr l) = ap (λ (d : TaskValue). d.going) (nobody_past x a (omega (arith, h.len))) ∙ sym (first l) ∙ sym (at_rest t.script (state_start t.script) t.history a l)

pub few : (t u : WorldValue) → t ≡ u → (x : Parts) → Stands t x → (now u).after.length ≤ 2000000
few t u e x s = subst (λ v. (now v).after.length ≤ 2000000) e (omega (arith, now_length t, s.few))
