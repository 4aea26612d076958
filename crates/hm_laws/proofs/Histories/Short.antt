-- What giving up rests on, after each history.
use Rattle.std.proofs.Common.{◌≡◌, ℕ, ◌+◌, ◌⊎◌, inl, inr, Bool, true, false, ◌==◌, ◌&&◌, ◌||◌, not, Option, Some, None, List, [], ◌∷◌, ◌++◌, refl, sym, ap, ◌∙◌, subst, arith}
use Rattle.std.proofs.lemmas.Bool.{cases_eq}
use Rattle.std.proofs.lemmas.Bool.Decides.{nat_tests}
use Rattle.hm_base.specs.Program.{Program}
use Rattle.hm_base.specs.declared.PoolId.{PoolId}
use Rattle.hm_base.specs.declared.Frame.{Frame}
use Rattle.hm_base.specs.declared.ops.Op.{Op}
use Rattle.hm_base.specs.Pages.{one_page}
use Rattle.hm_history.specs.Memory.Words.{with_at, place_in, writable}
use Rattle.hm_history.specs.declared.phases.Migrating.{Migrating}
use Rattle.hm_history.specs.Memory.Places.{lowest_free, lowest_direct, lowest_moving, lowest_named}
use Rattle.hm_history.specs.Memory.After.{After, after}
use Rattle.hm_history.specs.Memory.Rules.{is_finishing, was_short}
use Rattle.hm_history.specs.Kernel.Stacks.{first_phase, stack_after, after_finish}
use Rattle.hm_history.specs.Kernel.Going.{State, Going, op_at, going_on, going_top, going_next, first_stack, recorded, seen_at, state_of, state_start, state_of-snoc}
use Rattle.hm_history.specs.Kernel.Due.{due, start_entry, due_emptying, due_finish, due_phase}
use Rattle.hm_history.specs.declared.KeptAt.{KeptAt}
use Rattle.hm_history.specs.declared.KeptWhy.{KeptWhy}
use Rattle.hm_history.specs.declared.Entry.{Entry}
use Rattle.hm_history.specs.declared.Kind.{Kind}
use Rattle.hm_history.specs.declared.Progress.{Progress}
use Rattle.hm_history.specs.declared.phases.Seen.{Seen}
use Rattle.hm_history.specs.declared.phases.Phase.{Phase}
use Rattle.hm_history.specs.declared.phases.Next.{Next}
use Rattle.hm_history.specs.declared.phases.Next.TheVariants.{Do}
use Rattle.hm_laws.specs.Past.{Past}
use Rattle.hm_laws.specs.Facts.{beneath, facts, HoldsAll}
use Rattle.hm_laws.specs.Stands.{Standing}
use Rattle.hm_laws.proofs.Past.Short.{is_given, gives, short_same, short_new}
use Rattle.hm_laws.proofs.Past.GivingUp.{is_alone_phase, moved_gives}
use Rattle.hm_laws.proofs.Histories.Sound.{Small, Turn, turn_of, after_is}
use Rattle.hm_history.proofs.Updates.{other_at, here_at}
use Rattle.hm_history.proofs.Tests.{true_false}

-- pages return before it is given up
abbrev shape : List Phase → Bool
shape (Phase.GiveUp y ∷ below) = true
shape (Phase.Finish f None ∷ below) = true
shape st = false

abbrev pub ShortIs : Program → List Entry → State → Type 0
ShortIs c h u = (a : ℕ) → gives (u.going a).stack ≡ true → (shape (u.going a).stack ≡ true) × (was_short c h a ≡ true)

first_gives : (o : Op) → is_given (first_phase o) ≡ false
first_gives (Op.Load p a n) = refl
first_gives (Op.Store p a bs) = refl
first_gives (Op.DeviceLoad m a n) = refl
first_gives (Op.DeviceStore m a bs) = refl
first_gives (Op.Add m a k) = refl
first_gives (Op.Evict d) = refl
first_gives (Op.Remove d) = refl
first_gives o = refl

from_gives : (x : Option Op) → gives (first_stack x) ≡ false
from_gives None = refl
from_gives (Some o) = ap (λ b. b || false) (first_gives o)

pub short_start : (c : Program) → ShortIs c [] (state_start c)
short_start c a g = absurd (true_false (gives (first_stack (op_at c a 0))) g (from_gives (op_at c a 0)))

do_is : (k l : Kind) → ◌≡◌ {A = Next} (Do k) (Do l) → k ≡ l
do_is k l e = cc

-- a frame that was not committed is given back by places, `done` and `drop`
finishing : (s : After) (f : Frame) → is_finishing (due_finish s f None) ≡ true
finishing s f = by (lowest_moving s.places f) (lowest_named s.places f)
  where
    by : (x y : Option (ℕ × ℕ)) → is_finishing (elim x [ Some z ↦ Kind.Place z.0 z.1 (place_in f (writable (s.places.place z.0 z.1))) | None ↦ elim y [ Some z ↦ Kind.Done f | None ↦ Kind.Drop f ] ]) ≡ true
    by None None = refl
    by None (Some z) = refl
    by (Some x) y = refl

shape_beneath : (s : After) (t : Past) (a : ℕ) (o : Op) (xs : List Migrating) (l : List Frame) (below : List Phase) → HoldsAll s t a (beneath o xs l below) → gives below ≡ true → shape below ≡ true
shape_beneath s t a o xs l (Phase.Decide touch ∷ []) h g = cc
shape_beneath s t a o xs l (Phase.GiveUp None ∷ []) h g = refl
shape_beneath s t a o xs l (Phase.GiveUp (Some touch) ∷ []) h g = refl
shape_beneath s t a o xs l (Phase.Frames v n ∷ []) h g = cc
shape_beneath s t a o xs l (Phase.Moves step v ∷ []) h g = cc
shape_beneath s t a o xs l below h g = absurd h.0

shape_finish : (s : After) (t : Past) (a : ℕ) (o : Op) (xs : List Migrating) (l : List Frame) (f : Frame) (below : List Phase) (k : Kind) → HoldsAll s t a (beneath o xs l below) → gives below ≡ true → shape (after_finish f None below k) ≡ true
shape_finish s t a o xs l f below (Kind.Place p v x) h g = refl
shape_finish s t a o xs l f below k h g = shape_beneath s t a o xs l below h g

second : (b : Bool) → b ≡ true → (d : Bool) → (d || b) ≡ true
second b h d = grind arith

-- the stack after the actor's entry
own_step : (c : Program) (h : List Entry) (s : After) (t : Past) (a : ℕ) (g : Going) (o : Op) (top : Phase) (below : List Phase) (k : Kind) (seen : Seen) → s ≡ after h → HoldsAll s t a (facts o g.pages (top ∷ below)) → due_phase c s a o g.pages top ≡ Do k → (gives (top ∷ below) ≡ true → (shape (top ∷ below) ≡ true) × (was_short c h a ≡ true)) →
    gives (stack_after o (top ∷ below) k seen) ≡ true → (shape (stack_after o (top ∷ below) k seen) ≡ true) × (was_short c (h ++ record { actor = a; kind = k } ∷ []) a ≡ true)
own_step c h s t a g o top below k seen is known due old giv = by top known due old giv (moved_gives s t a o g.pages top below k seen known giv)
  where
    same : (k : Kind) → is_finishing k ≡ true → was_short c h a ≡ true → was_short c (h ++ record { actor = a; kind = k } ∷ []) a ≡ true
    same k f w = short_same c h a (record { actor = a; kind = k }) (and_false (a == a) (is_finishing k) f) w
      where
        and_false : (x y : Bool) → y ≡ true → (x && not y) ≡ false
        and_false x y e = grind arith

    wrong : {X : Type 0} (top : Phase) → shape (top ∷ below) ≡ false → (gives (top ∷ below) ≡ true → (shape (top ∷ below) ≡ true) × (was_short c h a ≡ true)) → gives below ≡ true → X
    wrong top n old gb = absurd (true_false (shape (top ∷ below)) (old (second (gives below) gb (is_given top))).0 n)

    alone : (f : Frame) (at : KeptAt) → k ≡ due_emptying c s f at → (gives (Phase.Emptying f at ∷ below) ≡ true → (shape (Phase.Emptying f at ∷ below) ≡ true) × (was_short c h a ≡ true)) → gives (stack_after o (Phase.Emptying f at ∷ below) k seen) ≡ true → (shape (stack_after o (Phase.Emptying f at ∷ below) k seen) ≡ true) × (was_short c (h ++ record { actor = a; kind = k } ∷ []) a ≡ true)
    alone f at e old giv = cases (lowest_direct s.places f) (lowest_free c s.places PoolId.System) refl e
      where
        cases : (x : Option (ℕ × ℕ)) (y : Option Frame) → lowest_free c s.places PoolId.System ≡ y → k ≡ elim x [ Some z ↦ start_entry s z.0 (one_page z.1) | None ↦ elim y [ Some i ↦ Kind.Take i | None ↦ Kind.Kept at KeptWhy.NoFrame ] ] → (shape (stack_after o (Phase.Emptying f at ∷ below) k seen) ≡ true) × (was_short c (h ++ record { actor = a; kind = k } ∷ []) a ≡ true)
        cases (Some z) y n e = wrong (Phase.Emptying f at) refl old (sym (ap (λ i. gives (stack_after o (Phase.Emptying f at ∷ below) i seen)) e) ∙ giv)
        cases None (Some i) n e = wrong (Phase.Emptying f at) refl old (sym (ap (λ j. gives (stack_after o (Phase.Emptying f at ∷ below) j seen)) e) ∙ giv)
        cases None None n e = (ap (λ i. shape (stack_after o (Phase.Emptying f at ∷ below) i seen)) e, ap (λ i. was_short c (h ++ record { actor = a; kind = i } ∷ []) a) e ∙ short_new c h a at (ap (λ u. lowest_free c u.places PoolId.System) (sym is) ∙ n))

    by : (top : Phase) → HoldsAll s t a (facts o g.pages (top ∷ below)) → due_phase c s a o g.pages top ≡ Do k → (gives (top ∷ below) ≡ true → (shape (top ∷ below) ≡ true) × (was_short c h a ≡ true)) → gives (stack_after o (top ∷ below) k seen) ≡ true → (gives below ≡ true) ⊎ (is_alone_phase top ≡ true) → (shape (stack_after o (top ∷ below) k seen) ≡ true) × (was_short c (h ++ record { actor = a; kind = k } ∷ []) a ≡ true)
    by (Phase.Emptying f at) known due old giv m = alone f at (sym (do_is (due_emptying c s f at) k due)) old giv
    by (Phase.Finish f None) known due old giv (inl gb) = (shape_finish s t a o g.pages (f ∷ []) f below k known.1.1.1.1 gb, same k (ap is_finishing (sym (do_is (due_finish s f None) k due)) ∙ finishing s f) (old (second (gives below) gb false)).1)
    by (Phase.Finish f (Some i)) known due old giv (inl gb) = wrong (Phase.Finish f (Some i)) refl old gb
    by (Phase.GiveUp y) known due old giv (inl gb) = absurd (up below known gb)
      where
        up : (below : List Phase) → HoldsAll s t a (facts o g.pages (Phase.GiveUp y ∷ below)) → gives below ≡ true → ⊥
        up [] known gb = cc
        up (x ∷ below) known gb = absurd known.0
    by top known due old giv (inl gb) = wrong top refl old gb
    by top known due old giv (inr e) = cc

-- where the actor's entry leads
pub going_is : (c : Program) (s : After) (a : ℕ) (g : Going) (k : Kind) (o : Op) (top : Phase) (below : List Phase) → op_at c a g.index ≡ Some o → g.stack ≡ top ∷ below → going_next c s a g k ≡ going_on c a g.index (stack_after o (top ∷ below) k (seen_at s o g.pages top k)) (recorded top (seen_at s o g.pages top k).page g.pages k)
going_is c s a g k o top below e st = ap (λ x. elim x as (λ y. Going) [ None ↦ g | Some o ↦ going_top c s a g o g.stack k ]) e ∙ by g.stack st
  where
    by : (l : List Phase) → l ≡ top ∷ below → going_top c s a g o l k ≡ going_on c a g.index (stack_after o (top ∷ below) k (seen_at s o g.pages top k)) (recorded top (seen_at s o g.pages top k).page g.pages k)
    by l i = ap (λ z. going_top c s a g o z k) i ∙ ap (λ z. going_on c a g.index (stack_after o z k (seen_at s o g.pages top k)) (recorded top (seen_at s o g.pages top k).page g.pages k)) st

on_gives : (c : Program) (a i : ℕ) (st : List Phase) (xs : List Migrating) → gives (going_on c a i st xs).stack ≡ true → (gives st ≡ true) × ((going_on c a i st xs).stack ≡ st)
on_gives c a i [] xs g = absurd (true_false (gives (first_stack (op_at c a (i + 1)))) g (from_gives (op_at c a (i + 1))))
on_gives c a i (x ∷ st) xs g = (g, refl)

pub short_on : (c : Program) (h : List Entry) (e : Entry) (t : Past) → Small c → Standing c (state_of c h) t → ShortIs c h (state_of c h) → due c h e.actor ≡ Progress.Did e → ShortIs c (h ++ e ∷ []) (state_of c (h ++ e ∷ []))
short_on c h e t sm st short d = subst (ShortIs c (h ++ e ∷ [])) (sym (state_of-snoc c h e)) (λ b. each b (cases_eq b e.actor))
  where
    u : State
    u = state_of c h

    tn : Turn c (state_of c h).after t e.actor e.kind ((state_of c h).going e.actor) (going_next c (state_of c h).after e.actor ((state_of c h).going e.actor) e.kind)
    tn = turn_of c (state_of c h) t e sm st d

    own : gives (going_next c (state_of c h).after e.actor ((state_of c h).going e.actor) e.kind).stack ≡ true → (shape (going_next c (state_of c h).after e.actor ((state_of c h).going e.actor) e.kind).stack ≡ true) × (was_short c (h ++ e ∷ []) e.actor ≡ true)
    own g = at (going_is c (state_of c h).after e.actor ((state_of c h).going e.actor) e.kind tn.op tn.top tn.below tn.is_op tn.is_stack) g
      where
        seen : Seen
        seen = seen_at (state_of c h).after tn.op ((state_of c h).going e.actor).pages tn.top e.kind

        at : {x : Going} → x ≡ going_on c e.actor ((state_of c h).going e.actor).index (stack_after tn.op (tn.top ∷ tn.below) e.kind (seen_at (state_of c h).after tn.op ((state_of c h).going e.actor).pages tn.top e.kind)) (recorded tn.top (seen_at (state_of c h).after tn.op ((state_of c h).going e.actor).pages tn.top e.kind).page ((state_of c h).going e.actor).pages e.kind) → gives x.stack ≡ true → (shape x.stack ≡ true) × (was_short c (h ++ e ∷ []) e.actor ≡ true)
        at i g = let z = on_gives c e.actor ((state_of c h).going e.actor).index (stack_after tn.op (tn.top ∷ tn.below) e.kind seen) (recorded tn.top seen.page ((state_of c h).going e.actor).pages e.kind) (sym (ap (λ (y : Going). gives y.stack) i) ∙ g) in
            let r = own_step c h (state_of c h).after t e.actor ((state_of c h).going e.actor) tn.op tn.top tn.below e.kind seen (after_is c h) tn.known tn.is_due (λ k. was (sym tn.is_stack) (short e.actor) k) z.0 in
            (ap (λ (y : Going). shape y.stack) i ∙ ap shape z.1 ∙ r.0, r.1)
          where
            was : {l m : List Phase} → l ≡ m → (gives m ≡ true → (shape m ≡ true) × (was_short c h e.actor ≡ true)) → gives l ≡ true → (shape l ≡ true) × (was_short c h e.actor ≡ true)
            was i f k = let z = f (sym (ap gives i) ∙ k) in (ap shape i ∙ z.0, z.1)

    each : (b : ℕ) → (b ≡ e.actor) ⊎ (b ≡ e.actor → ⊥) → gives (with_at u.going e.actor (going_next c u.after e.actor (u.going e.actor) e.kind) b).stack ≡ true → (shape (with_at u.going e.actor (going_next c u.after e.actor (u.going e.actor) e.kind) b).stack ≡ true) × (was_short c (h ++ e ∷ []) b ≡ true)
    each b (inl i) g = subst (λ j. gives (with_at u.going e.actor (going_next c u.after e.actor (u.going e.actor) e.kind) j).stack ≡ true → (shape (with_at u.going e.actor (going_next c u.after e.actor (u.going e.actor) e.kind) j).stack ≡ true) × (was_short c (h ++ e ∷ []) j ≡ true)) (sym i)
        (subst (λ (y : Going). gives y.stack ≡ true → (shape y.stack ≡ true) × (was_short c (h ++ e ∷ []) e.actor ≡ true)) (sym (here_at u.going e.actor (going_next c u.after e.actor (u.going e.actor) e.kind))) own) g
    each b (inr ne) g = subst (λ (y : Going). gives y.stack ≡ true → (shape y.stack ≡ true) × (was_short c (h ++ e ∷ []) b ≡ true)) (sym (other_at u.going e.actor b (going_next c u.after e.actor (u.going e.actor) e.kind) ne))
        (λ k. let z = short b k in (z.0, short_same c h b e (not_his b ne) z.1)) g
      where
        not_his : (b : ℕ) → (b ≡ e.actor → ⊥) → ((e.actor == b) && not (is_finishing e.kind)) ≡ false
        not_his b ne = at (e.actor == b) refl
          where
            same : (e.actor == b) ≡ true → b ≡ e.actor
            same i = grind (arith, nat_tests)

            at : (x : Bool) → (e.actor == b) ≡ x → (x && not (is_finishing e.kind)) ≡ false
            at true i = absurd (ne (same i))
            at false i = refl
