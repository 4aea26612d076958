-- Each history of entries that were due keeps the rules, and each actor what it knows.
use Rattle.std.proofs.Common.{◌≡◌, ℕ, ◌+◌, ◌-◌, ◌<◌, ◌≤◌, ◌⊎◌, inl, inr, Bool, true, false, ◌==◌, nat_lt, if◌then◌else◌, Option, Some, None, List, [], ◌∷◌, ◌++◌, refl, sym, ap, ◌∙◌, subst, arith, length, fold}
use Rattle.std.specs.List.{list_all}
use Rattle.hm_base.specs.Program.{Program}
use Rattle.hm_base.specs.declared.ops.Op.{Op}
use Rattle.hm_history.specs.Memory.Words.{with_at}
use Rattle.hm_history.specs.Memory.After.{After, after_entry}
use Rattle.hm_history.specs.declared.Kind.{Kind}
use Rattle.hm_laws.specs.Past.{Past, past_next}
use Rattle.hm_laws.specs.Sound.{Sound}
use Rattle.hm_laws.specs.Allowed.{next, Allowed}
use Rattle.std.proofs.lemmas.Bool.{cases_eq}
use Rattle.hm_laws.specs.Facts.{Fact, nothing_held, facts, facts_of, HoldsAll, Knows}
use Rattle.hm_base.specs.Program.{op_fits}
use Rattle.hm_history.specs.Memory.Words.{pieces, first_len}
use Rattle.hm_history.specs.Kernel.Stacks.{stack_after}
use Rattle.hm_history.specs.Kernel.Going.{seen_at}
use Rattle.hm_history.specs.Kernel.Due.{due_phase}
use Rattle.hm_history.specs.declared.phases.Migrating.{Migrating}
use Rattle.hm_history.specs.declared.phases.Phase.{Phase}
use Rattle.hm_history.specs.declared.phases.Next.{Next}
use Rattle.hm_history.specs.declared.phases.Next.TheVariants.{Do, Wait}
use Rattle.hm_laws.proofs.Due.Good.{Fair, Led, Good, takes_for_itself}
use Rattle.std.proofs.Common.{slice_get, fold, append_assoc, append-nil}
use Rattle.std.proofs.lemmas.Option.{slice_get_within}
use Rattle.hm_history.specs.Memory.After.{after, after_entry, after_nothing}
use Rattle.hm_history.specs.Kernel.Stacks.{first_phase}
use Rattle.hm_history.specs.Kernel.Going.{State, Going, op_at, first_stack, going_from, going_on, going_next, going_top, recorded, state_next, state_of, state_start, state_of-snoc}
use Rattle.hm_history.specs.Kernel.Due.{due, due_in, due_top, progress}
use Rattle.hm_history.specs.Laws.{DueFrom}
use Rattle.hm_history.specs.declared.Entry.{Entry}
use Rattle.hm_history.specs.declared.Progress.{Progress}
use Rattle.hm_base.specs.Program.{IsScript}
use Rattle.hm_base.specs.declared.cause.Cause.{Cause}
use Rattle.hm_laws.specs.Past.{past_start}
use Rattle.hm_laws.specs.Stands.{Standing}
use Rattle.hm_laws.proofs.Kept.Sound.{kept}
use Rattle.hm_laws.proofs.Histories.FirstSound.{first_sound}
use Rattle.hm_laws.proofs.Other.Stable.{stable}
use Rattle.hm_laws.proofs.Other.Fetched.{ForItself}
use Rattle.hm_laws.proofs.Kept.AreaOrder.{order_kept}
use Rattle.hm_laws.proofs.Due.EachGood.{OpOk, due_ok}
use Rattle.hm_history.proofs.Updates.{other_at, here_at}
use Rattle.hm_base.proofs.Shared.{each_passes}

-- the script's operations, one by one
pub record Small (c : Program) : Type 0 where
  pub ops : (a i : ℕ) (o : Op) → op_at c a i ≡ Some o → OpOk c o
  pub few : (a i : ℕ) (o : Op) → op_at c a i ≡ Some o → a < 16

op_passes : (c : Program) (t : Op → Bool) (a i : ℕ) (o : Op) → list_all (list_all t) c.actors ≡ true → op_at c a i ≡ Some o → (t o ≡ true) × (a < length c.actors)
op_passes c t a i o h e = by (slice_get c.actors a) refl e
  where
    by : (x : Option (List Op)) → slice_get c.actors a ≡ x → slice_get (elim x [ None ↦ [] | Some os ↦ os ]) i ≡ Some o → (t o ≡ true) × (a < length c.actors)
    by None ex k = cc
    by (Some os) ex k = (each_passes t os i o (each_passes (list_all t) c.actors a os h ex) k, slice_get_within c.actors a os ex)

pub small : (c : Program) → IsScript c → Small c
small c sc = record {
  ops = λ a i o e. (op_passes c (op_fits (length c.devices)) a i o sc.ops e).0;
  few = λ a i o e. omega (arith, (op_passes c (op_fits (length c.devices)) a i o sc.ops e).1, sc.few_actors);
}

stable_all : (c : Program) (s : After) (t : Past) (a b : ℕ) → Sound c s t → (b ≡ a → ⊥) → (k : Kind) → Allowed c s t a k → ForItself a k → (l : List Fact) → HoldsAll s t b l → HoldsAll (next s a k) (past_next t s.length a k) b l
stable_all c s t a b so ne k ok own [] h = tt
stable_all c s t a b so ne k ok own (x ∷ l) h = (stable c s t a b so ne k ok own x h.0, stable_all c s t a b so ne k ok own l h.1)

-- an actor that is done with an operation knows what the next one's first phase says
some_piece : (a n : ℕ) → nat_lt 0 (length (pieces a n)) ≡ true
some_piece a n = by (first_len a n == n)
  where
    by : (b : Bool) → nat_lt 0 (length {A = ℕ × ℕ} (if b then (a, n) ∷ [] else ((a, first_len a n) ∷ (a + first_len a n, n - first_len a n) ∷ []))) ≡ true
    by true = refl
    by false = refl

none_less : (i : ℕ) → i < 0 → ⊥
none_less i l = omega (arith, l)

least_count : (n : ℕ) → 0 ≤ n
least_count n = omega arith

from_known : (c : Program) (s : After) (t : Past) (a i : ℕ) → Small c → HoldsAll s t a nothing_held → Knows c s t a (going_from c a i)
from_known c s t a i sm h = by (op_at c a i)
  where
    first : (o : Op) → HoldsAll s t a (facts o [] (first_phase o ∷ []))
    first (Op.Map p r w) = (refl, h)
    first (Op.Unmap p r) = (refl, h)
    first (Op.Protect p r w) = (refl, h)
    first (Op.Exit p) = (refl, h)
    first (Op.Fork p d) = (refl, h)
    first (Op.Attach m d p r) = (refl, h)
    first (Op.Detach m) = (refl, h)
    first (Op.Snap m r) = (refl, h)
    first (Op.Exclusive m v) = (refl, h)
    first (Op.Add m at n) = (refl, h)
    first (Op.Evict d) = (refl, (tt, (least_count s.length, h)))
    first (Op.Remove d) = (refl, ((λ i l. absurd (none_less i l)), (least_count s.length, h)))
    first (Op.DeviceLoad m at n) = (some_piece at n, h)
    first (Op.DeviceStore m at bs) = (some_piece at (length bs), h)
    first (Op.Load p at n) = (some_piece at n, h)
    first (Op.Store p at bs) = (some_piece at (length bs), h)
    first (Op.ToDevice m r) = (refl, h)
    first (Op.ToSystem m r) = (refl, h)

    by : (x : Option Op) → HoldsAll s t a (facts_of x [] (first_stack x))
    by None = h
    by (Some o) = first o

on_known : (c : Program) (s : After) (t : Past) (a i : ℕ) (o : Op) (xs : List Migrating) → Small c → op_at c a i ≡ Some o → (st : List Phase) → HoldsAll s t a (facts o xs st) → Knows c s t a (going_on c a i st xs)
on_known c s t a i o xs sm e [] h = from_known c s t a (i + 1) sm h
on_known c s t a i o xs sm e (x ∷ st) h = subst (λ y. HoldsAll s t a (facts_of y xs (x ∷ st))) (sym e) h

-- the turn of an actor at a phase
pub record Turn (c : Program) (s : After) (t : Past) (a : ℕ) (k : Kind) (was g : Going) : Type 0 where
  pub op : Op
  pub top : Phase
  pub below : List Phase
  pub is_op : op_at c a was.index ≡ Some op
  pub is_stack : was.stack ≡ top ∷ below
  pub known : HoldsAll s t a (facts op was.pages (top ∷ below))
  pub is_due : due_phase c s a op was.pages top ≡ Do k
  pub allowed : Allowed c s t a k
  pub fair : Fair c s a op was.pages k top
  pub knows : Knows c (next s a k) (past_next t s.length a k) a g

abbrev kind_of : Progress → Kind
kind_of (Progress.Did e) = e.kind
kind_of p = Kind.Refused Cause.Never

did : (a : ℕ) (l k : Kind) → progress a (Do l) ≡ Progress.Did (record { actor = a; kind = k }) → l ≡ k
did a l k h = ap kind_of h

turn_top : (c : Program) (s : After) (t : Past) (a : ℕ) (g : Going) (k : Kind) → Small c → Sound c s t → (o : Op) → op_at c a g.index ≡ Some o → (st : List Phase) → g.stack ≡ st → HoldsAll s t a (facts o g.pages st) → due_top c s a (Some o) g.pages st ≡ Progress.Did (record { actor = a; kind = k }) →
    Turn c s t a k g (going_top c s a g o st k)
turn_top c s t a g k sm so o e [] es h d = cc
turn_top c s t a g k sm so o e (top ∷ below) es h d = by (due_phase c s a o g.pages top) refl (due_ok c s t a o g.pages (sm.ops a g.index o e) (sm.few a g.index o e) so top below h) d
  where
    by : (n : Next) → due_phase c s a o g.pages top ≡ n → Good c s t a o g.pages top below n → progress a n ≡ Progress.Did (record { actor = a; kind = k }) → Turn c s t a k g (going_top c s a g o (top ∷ below) k)
    by (Wait y) en good p = cc
    by (Do l) en good p = done (subst (λ i. Good c s t a o g.pages top below (Do i)) (did a l k p) good)
      where
        done : Allowed c s t a k × Fair c s a o g.pages k top × Led s t a o g.pages top below k → Turn c s t a k g (going_top c s a g o (top ∷ below) k)
        done y = record {
          op = o;
          top = top;
          below = below;
          is_op = e;
          is_stack = es;
          known = h;
          is_due = en ∙ ap Do (did a l k p);
          allowed = y.0;
          fair = y.1;
          knows = subst (λ z. Knows c (next s a k) (past_next t s.length a k) a (going_on c a g.index (stack_after o z k (seen_at s o g.pages top k)) (recorded top (seen_at s o g.pages top k).page g.pages k))) (sym es) (on_known c (next s a k) (past_next t s.length a k) a g.index o _ sm e _ y.2);
        }

turn_op : (c : Program) (s : After) (t : Past) (a : ℕ) (g : Going) (k : Kind) → Small c → Sound c s t → (x : Option Op) → op_at c a g.index ≡ x → HoldsAll s t a (facts_of x g.pages g.stack) → due_top c s a x g.pages g.stack ≡ Progress.Did (record { actor = a; kind = k }) →
    Turn c s t a k g (elim x as (λ y. Going) [ None ↦ g | Some o ↦ going_top c s a g o g.stack k ])
turn_op c s t a g k sm so None e h d = cc
turn_op c s t a g k sm so (Some o) e h d = turn_top c s t a g k sm so o e g.stack refl h d

pub turn_of : (c : Program) (u : State) (t : Past) (e : Entry) → Small c → Standing c u t → due_in c u e.actor ≡ Progress.Did e → Turn c u.after t e.actor e.kind (u.going e.actor) (going_next c u.after e.actor (u.going e.actor) e.kind)
turn_of c u t e sm st d = turn_op c u.after t e.actor (u.going e.actor) e.kind sm st.sound (op_at c e.actor (u.going e.actor).index) refl (st.known e.actor) d

pub turn : (c : Program) (u : State) (t : Past) (e : Entry) → Small c → Standing c u t → due_in c u e.actor ≡ Progress.Did e → Standing c (state_next c u e) (past_next t u.after.length e.actor e.kind)
turn c u t e sm st d = record {
  sound = kept c u.after t e.actor e.kind st.sound ok.allowed;
  order = order_kept c u.after t e.actor ok.op (u.going e.actor).pages ok.top e.kind ok.allowed ok.fair st.order;
  known = λ b. knows b (cases_eq b e.actor);
}
  where
    ok : Turn c u.after t e.actor e.kind (u.going e.actor) (going_next c u.after e.actor (u.going e.actor) e.kind)
    ok = turn_of c u t e sm st d

    knows : (b : ℕ) → (b ≡ e.actor) ⊎ (b ≡ e.actor → ⊥) → Knows c (after_entry u.after e) (past_next t u.after.length e.actor e.kind) b (with_at u.going e.actor (going_next c u.after e.actor (u.going e.actor) e.kind) b)
    knows b (inl i) = subst (λ j. Knows c (after_entry u.after e) (past_next t u.after.length e.actor e.kind) j (with_at u.going e.actor (going_next c u.after e.actor (u.going e.actor) e.kind) j)) (sym i)
        (subst (λ g. Knows c (after_entry u.after e) (past_next t u.after.length e.actor e.kind) e.actor g) (sym (here_at u.going e.actor (going_next c u.after e.actor (u.going e.actor) e.kind))) ok.knows)
    knows b (inr ne) = subst (λ g. Knows c (after_entry u.after e) (past_next t u.after.length e.actor e.kind) b g) (sym (other_at u.going e.actor b (going_next c u.after e.actor (u.going e.actor) e.kind) ne))
        (stable_all c u.after t e.actor b st.sound ne e.kind ok.allowed (takes_for_itself c u.after e.actor ok.op (u.going e.actor).pages e.kind ok.top ok.fair) (facts_of (op_at c b (u.going b).index) (u.going b).pages (u.going b).stack) (st.known b))

pub at_start : (c : Program) → Small c → Standing c (state_start c) past_start
at_start c sm = record {
  sound = first_sound c;
  order = record { few = λ p. omega arith; in_order = λ p. refl };
  known = λ a. from_known c after_nothing past_start a 0 sm (refl, (refl, ((λ f e. cc), tt)));
}

-- the states after a history are those with which actors go on
after_of : (c : Program) (t : State) (h : List Entry) → (fold (state_next c) t h).after ≡ fold after_entry t.after h
after_of c t [] = refl
after_of c t (e ∷ h) = after_of c (state_next c t e) h

pub after_is : (c : Program) (h : List Entry) → (state_of c h).after ≡ after h
after_is c h = after_of c (state_start c) h

pub standing_on : (c : Program) (h : List Entry) (e : Entry) (t : Past) → Small c → Standing c (state_of c h) t → due c h e.actor ≡ Progress.Did e → Standing c (state_of c (h ++ e ∷ [])) (past_next t (state_of c h).after.length e.actor e.kind)
standing_on c h e t sm st d = subst (λ u. Standing c u (past_next t (state_of c h).after.length e.actor e.kind)) (sym (state_of-snoc c h e)) (turn c (state_of c h) t e sm st d)

pub standing_after : (c : Program) (h es : List Entry) (t : Past) → Small c → Standing c (state_of c h) t → DueFrom c h es → (u : Past) × Standing c (state_of c (h ++ es)) u
standing_after c h [] t sm st d = (t, rw append-nil st)
standing_after c h (e ∷ es) t sm st d = subst (λ l. (u : Past) × Standing c (state_of c l) u) (append_assoc h (e ∷ []) es) (standing_after c (h ++ e ∷ []) es (past_next t (state_of c h).after.length e.actor e.kind) sm (standing_on c h e t sm st d.0) d.1)
