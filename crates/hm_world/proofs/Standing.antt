-- What the laws of every history say of a world's state.
use Rattle.std.proofs.Common.{◌≡◌, ℕ, ◌<◌, ◌≤◌, Some, None, List, [], ◌∷◌, ◌++◌, length, refl, sym, subst, arith}
use Rattle.std.specs.Prelude.{IsTrue}
use Rattle.hm_base.specs.Program.{Program, IsScript}
use Rattle.hm_base.specs.declared.ops.Op.{Op}
use Rattle.hm_history.specs.Memory.After.{After, after}
use Rattle.hm_history.specs.Kernel.Going.{State, Going, going_on, going_top, going_next, op_at, state_of, state_of-snoc}
use Rattle.hm_history.specs.Kernel.Stacks.{stack_after}
use Rattle.hm_history.specs.Laws.{DueFrom}
use Rattle.hm_history.proofs.RunLemmas.{DueFrom-append}
use Rattle.hm_history.specs.Kernel.Due.{due}
use Rattle.hm_history.specs.declared.Kind.{Kind}
use Rattle.hm_history.specs.declared.Entry.{Entry}
use Rattle.hm_history.specs.declared.Progress.{Progress}
use Rattle.hm_history.specs.declared.phases.Migrating.{Migrating}
use Rattle.hm_history.specs.declared.phases.Seen.{Seen}
use Rattle.hm_history.specs.declared.phases.Phase.{Phase}
use Rattle.hm_phases.specs.Items.{below_takes_count}
use Rattle.hm_laws.specs.Past.{Past}
use Rattle.hm_laws.specs.Sound.{Sound}
use Rattle.hm_laws.specs.Allowed.{Allowed}
use Rattle.hm_laws.specs.Facts.{Knows, facts_of, HoldsAll}
use Rattle.hm_laws.specs.Stands as laws
use Rattle.hm_laws.proofs.Histories.Stands.{history_stands}
use Rattle.hm_actors.specs.Actors.{IsSeen}
use Rattle.hm_world.specs.WorldValue.{WorldValue, now}
use Rattle.hm_world.specs.Stands.{Parts, Stands}
use Rattle.hm_world.specs.Fits.{Fits}
use Rattle.hm_world.proofs.Shown.{now_length}
use Rattle.hm_world.proofs.Depth.{depth, counts}
use Rattle.hm_world.proofs.FitsOf.{frames_fit, tables_fit, spaces_fit, notifiers_fit, mirrors_fit}
use Rattle.hm_history.proofs.Updates.{here_at}

-- the rules, what each actor knows, and what is due
pub record Lawful (c : Program) (h : List Entry) (s : After) (going : ℕ → Going) : Type 0 where
  pub past : Past
  pub sound : Sound c s past
  pub known : (a : ℕ) → Knows c s past a (going a)
  pub allows : (e : Entry) → due c h e.actor ≡ Progress.Did e → Allowed c s past e.actor e.kind
  pub copies : (e : Entry) → due c h e.actor ≡ Progress.Did e → laws.CopiesRightly s e.kind

lawful_after : (c : Program) (h : List Entry) → laws.Stands c h → Lawful c h (after h) (state_of c h).going
lawful_after c h s = record { past = s.past; sound = s.rules; known = s.known; allows = s.allows; copies = s.copies }

pub lawful : (t : WorldValue) (x : Parts) → Stands t x → Lawful t.script t.history (now t).after (now t).going
unfolding now
lawful t x s = let l : laws.Stands t.script t.history = history_stands t.script s.script t.history s.due in
    subst (λ y. Lawful t.script t.history y (state_of t.script t.history).going) (sym l.same_after) (lawful_after t.script t.history l)

-- after an entry that was due the stack is one that there is, so not too high
high : (c : Program) (s : After) (p : Past) (a i : ℕ) (o : Op) (st : List Phase) (xs : List Migrating) → op_at c a i ≡ Some o → Knows c s p a (going_on c a i st xs) → length st ≤ 3
high c s p a i o [] xs e h = omega arith
high c s p a i o (top ∷ below) xs e h = depth s p a o xs (top ∷ below) (subst (λ y. HoldsAll s p a (facts_of y xs (top ∷ below))) e h)

moved_high : (c : Program) (s n : After) (p : Past) (a : ℕ) (g : Going) (k : Kind) (o : Op) (seen : Seen) → op_at c a g.index ≡ Some o → IsSeen c s a g k seen → (st : List Phase) → g.stack ≡ st → Knows c n p a (going_top c s a g o st k) → length (stack_after o g.stack k seen) ≤ 3
moved_high c s n p a g k o seen e is [] es h = subst (λ st. length (stack_after o st k seen) ≤ 3) (sym es) (omega arith)
moved_high c s n p a g k o seen e is (top ∷ below) es h = subst (λ z. length (stack_after o g.stack k z) ≤ 3) (sym (is o top below e es)) (high c n p a g.index o _ _ e h)

depth_after : (c : Program) (h : List Entry) → IsScript c → DueFrom c [] h → (a : ℕ) (k : Kind) → due c h a ≡ Progress.Did (record { actor = a; kind = k }) → (o : Op) → op_at c a ((state_of c h).going a).index ≡ Some o → (seen : Seen) → IsSeen c (state_of c h).after a ((state_of c h).going a) k seen → length (stack_after o ((state_of c h).going a).stack k seen) ≤ 3
depth_after c h sc d a k is_due o e seen is = moved_high c u.after (after l) st.past a g k o seen e is g.stack refl
    (subst (λ y. Knows c (after l) st.past a (elim y as (λ z. Going) [ None ↦ g | Some q ↦ going_top c u.after a g q g.stack k ])) e
    (subst (Knows c (after l) st.past a) (here_at u.going a (going_next c u.after a g k)) (subst (λ w. Knows c (after l) st.past a (w.going a)) (state_of-snoc c h (record { actor = a; kind = k })) (st.known a))))
  where
    u : State
    u = state_of c h

    g : Going
    g = u.going a

    l : List Entry
    l = h ++ record { actor = a; kind = k } ∷ []

    st : laws.Stands c l
    st = history_stands c sc l (DueFrom-append c [] h (record { actor = a; kind = k }) d is_due)

depth_due : (t : WorldValue) (x : Parts) → Stands t x → (a : ℕ) (k : Kind) → due t.script t.history a ≡ Progress.Did (record { actor = a; kind = k }) → (seen : Seen) → IsSeen t.script (now t).after a ((now t).going a) k seen → (o : Op) → op_at t.script a ((now t).going a).index ≡ Some o → length (stack_after o ((now t).going a).stack k seen) ≤ 3
unfolding now
depth_due t x s a k d seen is o e = depth_after t.script t.history s.script s.due a k d o e seen is

counts_known : (s : After) (p : Past) (a : ℕ) (c : Program) (g : Going) (o : Op) → s.length < 2000000 → Knows c s p a g → op_at c a g.index ≡ Some o → IsTrue (below_takes_count g.stack)
counts_known s p a c g o few h e = counts s p a o g.pages g.stack (omega (arith, few)) (subst (λ y. HoldsAll s p a (facts_of y g.pages g.stack)) e h)

-- the structures have what they ask for
pub fits_due : (t : WorldValue) (x : Parts) → Stands t x → (a : ℕ) (k : Kind) → length t.history < 2000000 → due t.script t.history a ≡ Progress.Did (record { actor = a; kind = k }) → Fits t.script (now t) a k
fits_due t x s a k few d = record {
  frames = frames_fit t.script (now t).after l.past a k l.sound ok (l.copies (record { actor = a; kind = k }) d);
  tables = tables_fit t.script (now t).after l.past a k l.sound ok;
  spaces = spaces_fit t.script (now t).after l.past a k ok;
  notifiers = notifiers_fit t.script (now t).after l.past a k (rw (now_length t) few) l.sound ok;
  mirrors = mirrors_fit t.script (now t).after l.past a k ok;
  actors = λ seen is o e. record {
    few = depth_due t x s a k d seen is o e;
    counted = counts_known (now t).after l.past a t.script ((now t).going a) o (rw (now_length t) few) (l.known a) e;
  };
}
  where
    l : Lawful t.script t.history (now t).after (now t).going
    l = lawful t x s

    ok : Allowed t.script (now t).after l.past a k
    ok = l.allows (record { actor = a; kind = k }) d
