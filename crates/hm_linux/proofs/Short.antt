-- Where a fault or a removal is being given up, its actor's last entry but for places, `done` and `drop` told that no
-- system frame was free; so it is with variants too, which lead nowhere else.
use Rattle.std.proofs.Common.{◌≡◌, ◌⊎◌, inl, inr, ℕ, ◌+◌, Bool, true, false, ◌==◌, ◌&&◌, not, nat_lt, length, Option}
use Rattle.std.proofs.Common.{Some, None, List, [], ◌∷◌, ◌++◌, refl, sym, ap, ◌∙◌, subst, arith, if◌then◌else◌}
use Rattle.std.proofs.lemmas.Bool.{cases_eq, or_right}
use Rattle.std.proofs.lemmas.Bool.Decides.{nat_tests}
use Rattle.hm_base.specs.Pages.{one_page}
use Rattle.hm_base.specs.Program.{Program}
use Rattle.hm_base.specs.declared.PoolId.{PoolId}
use Rattle.hm_base.specs.declared.Frame.{Frame}
use Rattle.hm_base.specs.declared.ops.Op.{Op}
use Rattle.hm_history.specs.Memory.Words.{with_at, place_in, writable}
use Rattle.hm_history.specs.Memory.Places.{lowest_free, lowest_direct, lowest_moving, lowest_named}
use Rattle.hm_history.specs.Memory.After.{After, after}
use Rattle.hm_history.specs.Memory.Rules.{is_finishing, was_short}
use Rattle.hm_history.specs.Kernel.Operation.{op_pieces}
use Rattle.hm_history.specs.Kernel.Stacks.{stack_after, after_finish, piece_ends}
use Rattle.hm_history.specs.Kernel.Going.{Going, State, op_at, first_stack, going_on, going_next, seen_at, recorded}
use Rattle.hm_history.specs.Kernel.Going.{state_start}
use Rattle.hm_history.specs.Kernel.Due.{due_phase, due_emptying, due_finish, start_entry}
use Rattle.hm_history.specs.declared.KeptAt.{KeptAt}
use Rattle.hm_history.specs.declared.KeptWhy.{KeptWhy}
use Rattle.hm_history.specs.declared.Kind.{Kind}
use Rattle.hm_history.specs.declared.Entry.{Entry}
use Rattle.hm_history.specs.declared.phases.Body.{Body}
use Rattle.hm_history.specs.declared.phases.Migrating.{Migrating}
use Rattle.hm_history.specs.declared.phases.Touch.{Touch}
use Rattle.hm_history.specs.declared.phases.Phase.{Phase}
use Rattle.hm_history.specs.declared.phases.Seen.{Seen}
use Rattle.hm_history.specs.declared.phases.Next.{Next}
use Rattle.hm_history.specs.declared.phases.Next.TheVariants.{Do}
use Rattle.hm_history.proofs.Updates.{other_at, here_at}
use Rattle.hm_history.proofs.Tests.{true_false, no_test}
use Rattle.hm_laws.specs.Past.{Past}
use Rattle.hm_laws.specs.Facts.{beneath, facts, facts_of, HoldsAll, Knows}
use Rattle.hm_laws.proofs.Past.Short.{is_given, gives, short_same, short_new}
use Rattle.hm_laws.proofs.Past.GivingUp.{is_alone_phase, moved_gives}
use Rattle.hm_laws.proofs.Histories.Short.{going_is}
use Rattle.hm_laws.proofs.Histories.Sound.{Turn}
use Rattle.hm_linux.specs.declared.variant.Variant.{Variant}
use Rattle.hm_linux.specs.Noted.{Noted}
use Rattle.hm_linux.specs.Instead.{going_varied}
use Rattle.hm_linux.specs.OwnReadOnly.{led_failed}
use Rattle.hm_linux.specs.WholeSnapshot.{led_anew}
use Rattle.hm_linux.proofs.Differing.{OtherAt, Other}

-- ---- what is known of a stack

-- it is given up next, or pages return before
abbrev returns_first : List Phase → Bool
returns_first (Phase.GiveUp y ∷ below) = true
returns_first (Phase.Finish f None ∷ below) = true
returns_first st = false

-- where an actor is giving up, no frame was free
abbrev pub GivesShort : Program → List Entry → ℕ → List Phase → Type 0
GivesShort c h a st = gives st ≡ true → (returns_first st ≡ true) × (was_short c h a ≡ true)

-- so it is for each actor
abbrev pub AllShort : Program → List Entry → State → Type 0
AllShort c h u = (a : ℕ) → GivesShort c h a (u.going a).stack

-- ---- where an actor begins an operation or a piece

first_short : (c : Program) (h : List Entry) (a : ℕ) (x : Option Op) → GivesShort c h a (first_stack x)
first_short c h a None = λ g. cc
first_short c h a (Some (Op.Load p at n)) = λ g. cc
first_short c h a (Some (Op.Store p at bs)) = λ g. cc
first_short c h a (Some (Op.DeviceLoad m at n)) = λ g. cc
first_short c h a (Some (Op.DeviceStore m at bs)) = λ g. cc
first_short c h a (Some (Op.Add m at n)) = λ g. cc
first_short c h a (Some (Op.Evict d)) = λ g. cc
first_short c h a (Some (Op.Remove d)) = λ g. cc
first_short c h a (Some o) = λ g. cc

pieces_short : (c : Program) (h : List Entry) (a : ℕ) (o : Op) (k : ℕ) → GivesShort c h a (piece_ends o k)
pieces_short c h a o k = by (nat_lt (k + 1) (length (op_pieces o)))
  where
    by : (b : Bool) → GivesShort c h a (if b then Phase.Piece (k + 1) ∷ [] else [])
    by true = λ g. cc
    by false = λ g. cc

pub all_short_start : (c : Program) → AllShort c [] (state_start c)
all_short_start c a = first_short c [] a (op_at c a 0)

going_short : (c : Program) (h : List Entry) (a i : ℕ) (st : List Phase) (xs : List Migrating) → GivesShort c h a st
    → GivesShort c h a (going_on c a i st xs).stack
going_short c h a i [] xs g = first_short c h a (op_at c a (i + 1))
going_short c h a i (x ∷ st) xs g = g

-- ---- an entry of the definitions

-- a frame that was not committed is given back by places, `done` and `drop`
finishes : (s : After) (f : Frame) (k : Kind) → k ≡ due_finish s f None → is_finishing k ≡ true
finishes s f k e = ap is_finishing e ∙ by (lowest_moving s.places f) (lowest_named s.places f)
  where
    by : (x y : Option (ℕ × ℕ)) → is_finishing (elim x [
      | Some z ↦ Kind.Place z.0 z.1 (place_in f (writable (s.places.place z.0 z.1)))
      | None ↦ elim y [ Some z ↦ Kind.Done f | None ↦ Kind.Drop f ]
    ]) ≡ true
    by None None = refl
    by None (Some z) = refl
    by (Some x) y = refl

beneath_returns : (s : After) (t : Past) (a : ℕ) (o : Op) (xs : List Migrating) (fs : List Frame) (below : List Phase)
    → HoldsAll s t a (beneath o xs fs below) → gives below ≡ true → returns_first below ≡ true
beneath_returns s t a o xs fs (Phase.Decide touch ∷ []) h g = cc
beneath_returns s t a o xs fs (Phase.GiveUp None ∷ []) h g = refl
beneath_returns s t a o xs fs (Phase.GiveUp (Some touch) ∷ []) h g = refl
beneath_returns s t a o xs fs (Phase.Frames v n ∷ []) h g = cc
beneath_returns s t a o xs fs (Phase.Moves step v ∷ []) h g = cc
beneath_returns s t a o xs fs below h g = absurd h.0

finish_returns : (s : After) (t : Past) (a : ℕ) (o : Op) (xs : List Migrating) (fs : List Frame) (f : Frame)
    (below : List Phase) (k : Kind) → HoldsAll s t a (beneath o xs fs below) → gives below ≡ true
    → returns_first (after_finish f None below k) ≡ true
finish_returns s t a o xs fs f below (Kind.Place p v x) h g = refl
finish_returns s t a o xs fs f below k h g = beneath_returns s t a o xs fs below h g

entry_is : (k l : Kind) → ◌≡◌ {A = Next} (Do k) (Do l) → l ≡ k
entry_is k l e = cc

own_short : (c : Program) (h : List Entry) (s : After) (t : Past) (a : ℕ) (o : Op) (xs : List Migrating) (top : Phase)
    (below : List Phase) (k : Kind) (seen : Seen) → s ≡ after h → HoldsAll s t a (facts o xs (top ∷ below))
    → due_phase c s a o xs top ≡ Do k → GivesShort c h a (top ∷ below)
    → GivesShort c (h ++ record { actor = a; kind = k } ∷ []) a (stack_after o (top ∷ below) k seen)
own_short c h s t a o xs top below k seen same known due old g =
    by top known due old g (moved_gives s t a o xs top below k seen known g)
  where
    Led : Phase → Kind → Type 0
    Led p i = (returns_first (stack_after o (p ∷ below) i seen) ≡ true)
        × (was_short c (h ++ record { actor = a; kind = i } ∷ []) a ≡ true)

    wrong : {X : Type 0} (p : Phase) → returns_first (p ∷ below) ≡ false → GivesShort c h a (p ∷ below)
        → gives below ≡ true → X
    wrong p n was b = absurd (true_false (returns_first (p ∷ below)) (was (or_right (is_given p) (gives below) b)).0 n)

    passed : (b d : Bool) → d ≡ true → (b && not d) ≡ false
    passed b d e = grind arith

    emptied : (f : Frame) (at : KeptAt) (x : Option (ℕ × ℕ)) (y : Option Frame) (i : Kind)
        → lowest_free c s.places PoolId.System ≡ y → i ≡ elim x [
          | Some z ↦ start_entry s z.0 (one_page z.1)
          | None ↦ elim y [ Some j ↦ Kind.Take j | None ↦ Kind.Kept at KeptWhy.NoFrame ]
        ] → GivesShort c h a (Phase.Emptying f at ∷ below)
        → gives (stack_after o (Phase.Emptying f at ∷ below) i seen) ≡ true → Led (Phase.Emptying f at) i
    emptied f at (Some z) y i n e was b = wrong (Phase.Emptying f at) refl was
        (sym (ap (λ j. gives (stack_after o (Phase.Emptying f at ∷ below) j seen)) e) ∙ b)
    emptied f at None (Some x) i n e was b = wrong (Phase.Emptying f at) refl was
        (sym (ap (λ j. gives (stack_after o (Phase.Emptying f at ∷ below) j seen)) e) ∙ b)
    emptied f at None None i n e was b = subst (Led (Phase.Emptying f at)) (sym e)
        (refl, short_new c h a at (ap (λ u. lowest_free c u.places PoolId.System) (sym same) ∙ n))

    given_up : (y : Option Touch) (st : List Phase) → HoldsAll s t a (facts o xs (Phase.GiveUp y ∷ st))
        → gives st ≡ true → ⊥
    given_up y [] holds b = cc
    given_up y (x ∷ st) holds b = absurd holds.0

    by : (p : Phase) → HoldsAll s t a (facts o xs (p ∷ below)) → due_phase c s a o xs p ≡ Do k
        → GivesShort c h a (p ∷ below) → gives (stack_after o (p ∷ below) k seen) ≡ true
        → (gives below ≡ true) ⊎ (is_alone_phase p ≡ true) → Led p k
    by (Phase.Emptying f at) holds d was b m = emptied f at (lowest_direct s.places f)
        (lowest_free c s.places PoolId.System) k refl (entry_is (due_emptying c s f at) k d) was b
    by (Phase.Finish f None) holds d was b (inl i) = (
      finish_returns s t a o xs (f ∷ []) f below k holds.1.1.1.1 i,
      short_same c h a (record { actor = a; kind = k })
          (passed (a == a) (is_finishing k) (finishes s f k (entry_is (due_finish s f None) k d)))
          (was (or_right false (gives below) i)).1,
    )
    by (Phase.Finish f (Some z)) holds d was b (inl i) = wrong (Phase.Finish f (Some z)) refl was i
    by (Phase.GiveUp y) holds d was b (inl i) = absurd (given_up y below holds i)
    by p holds d was b (inl i) = wrong p refl was i
    by p holds d was b (inr e) = cc

-- where an actor goes by it
pub turn_short : (c : Program) (h : List Entry) (s : After) (t : Past) (a : ℕ) (k : Kind) (was : Going) → s ≡ after h
    → Turn c s t a k was (going_next c s a was k) → GivesShort c h a was.stack
    → GivesShort c (h ++ record { actor = a; kind = k } ∷ []) a (going_next c s a was k).stack
turn_short c h s t a k was same tn old = subst
    (λ (g : Going). GivesShort c (h ++ record { actor = a; kind = k } ∷ []) a g.stack)
    (sym (going_is c s a was k tn.op tn.top tn.below tn.is_op tn.is_stack))
    (going_short c (h ++ record { actor = a; kind = k } ∷ []) a was.index (stack_after tn.op (tn.top ∷ tn.below) k seen)
    (recorded tn.top seen.page was.pages k)
    (own_short c h s t a tn.op was.pages tn.top tn.below k seen same tn.known tn.is_due
    (subst (GivesShort c h a) tn.is_stack old)))
  where
    seen : Seen
    seen = seen_at s tn.op was.pages tn.top k

-- ---- an entry that a variant puts in its place

no_giving : (l : Variant) (n : Noted) (s : After) (t : Past) (a : ℕ) (o : Op) (xs : List Migrating) (top : Phase)
    (below : List Phase) (k : Kind) → OtherAt l n s a o xs top k → HoldsAll s t a (facts o xs (top ∷ below))
    → (gives below ≡ true) ⊎ (is_alone_phase top ≡ true) → ⊥
no_giving l n s t a o xs (Phase.Pages v) [] k p h (inl g) = cc
no_giving l n s t a o xs (Phase.Decide touch) [] k p h (inl g) = cc
no_giving l n s t a o xs (Phase.Noted j since q x) [] k p h (inl g) = cc
no_giving l n s t a o xs (Phase.Moves step v) [] k p h (inl g) = cc
no_giving l n s t a o xs (Phase.Guard q r met told Body.Restore) (Phase.Decide touch ∷ []) k p h (inl g) = cc
no_giving l n s t a o xs (Phase.Guard q r met told (Body.Seize f)) (Phase.Decide touch ∷ []) k p h (inl g) = cc
no_giving l n s t a o xs (Phase.Pages v) (y ∷ below) k p h (inl g) = absurd h.0
no_giving l n s t a o xs (Phase.Decide touch) (y ∷ below) k p h (inl g) = absurd h.0
no_giving l n s t a o xs (Phase.Noted j since q x) (y ∷ below) k p h (inl g) = absurd h.0
no_giving l n s t a o xs (Phase.Moves step v) (y ∷ below) k p h (inl g) = absurd h.0
no_giving l n s t a o xs (Phase.Guard q r met told Body.Restore) below k p h (inl g) = absurd h.0
no_giving l n s t a o xs (Phase.Guard q r met told (Body.Seize f)) below k p h (inl g) = absurd h.0
no_giving l n s t a o xs (Phase.Guard q r met told body) below k p h (inl g) = no_test p.kind
no_giving l n s t a o xs (Phase.Emptying f at) below k p h m = absurd p
no_giving l n s t a o xs top below k p h (inl g) = absurd p
no_giving l n s t a o xs top below k p h (inr e) = cc

pub other_short : (l : Variant) (c : Program) (n : Noted) (h : List Entry) (s : After) (t : Past) (a : ℕ) (k : Kind)
    (was : Going) → Knows c s t a was → Other l n s a (op_at c a was.index) was.pages was.stack k
    → GivesShort c h a (going_next c s a was k).stack
other_short l c n h s t a k was knows p = subst (λ (g : Going). GivesShort c h a g.stack)
    (sym (going_is c s a was k p.op p.top p.below p.is_op p.is_stack))
    (going_short c h a was.index (stack_after p.op (p.top ∷ p.below) k seen) (recorded p.top seen.page was.pages k)
    (λ g. absurd (no_giving l n s t a p.op was.pages p.top p.below k p.other known
    (moved_gives s t a p.op was.pages p.top p.below k seen known g))))
  where
    seen : Seen
    seen = seen_at s p.op was.pages p.top k

    known : HoldsAll s t a (facts p.op was.pages (p.top ∷ p.below))
    known = subst (λ z. HoldsAll s t a (facts p.op was.pages z)) p.is_stack
        (subst (λ x. HoldsAll s t a (facts_of x was.pages was.stack)) p.is_op knows)

-- where a variant leads
failed_short : (c : Program) (h : List Entry) (a i : ℕ) (x : Option Op) (st : List Phase) (k : Kind) (g : Going)
    → GivesShort c h a g.stack → GivesShort c h a (led_failed c a i x st k g).stack
failed_short c h a i (Some o) (Phase.Noted j since q x ∷ below) (Kind.Failed w at n why) g e =
    going_short c h a i (piece_ends o j) [] (pieces_short c h a o j)
failed_short c h a i x st k g e = e

anew_short : (c : Program) (h : List Entry) (a i : ℕ) (st : List Phase) (k : Kind) (g : Going)
    → GivesShort c h a g.stack → GivesShort c h a (led_anew c a i st k g).stack
anew_short c h a i (Phase.Pages v ∷ below) (Kind.Retry m) g e = λ b. cc
anew_short c h a i st k g e = e

pub led_short : (l : Variant) (c : Program) (h : List Entry) (a : ℕ) (was : Going) (k : Kind) (g : Going)
    → GivesShort c h a g.stack → GivesShort c h a (going_varied l c a was k g).stack
led_short l c h a was k g e = by l.own_read_only l.whole_snapshot
  where
    x : Option Op
    x = op_at c a was.index

    by : (b d : Bool) → GivesShort c h a (let z : Going = if b then led_failed c a was.index x was.stack k g else g in
        if d then led_anew c a was.index was.stack k z else z).stack
    by true true = anew_short c h a was.index was.stack k (led_failed c a was.index x was.stack k g)
        (failed_short c h a was.index x was.stack k g e)
    by true false = failed_short c h a was.index x was.stack k g e
    by false true = anew_short c h a was.index was.stack k g e
    by false false = e

-- ---- all actors

pub all_short : (c : Program) (h : List Entry) (e : Entry) (f : ℕ → Going) (g : Going)
    → ((a : ℕ) → GivesShort c h a (f a).stack) → GivesShort c (h ++ e ∷ []) e.actor g.stack
    → (a : ℕ) → GivesShort c (h ++ e ∷ []) a (with_at f e.actor g a).stack
all_short c h e f g short own a = by (cases_eq a e.actor)
  where
    not_own : (b : ℕ) → (b ≡ e.actor → ⊥) → ((e.actor == b) && not (is_finishing e.kind)) ≡ false
    not_own b ne = at (e.actor == b) refl
      where
        same : (e.actor == b) ≡ true → b ≡ e.actor
        same i = grind (arith, nat_tests)

        at : (x : Bool) → (e.actor == b) ≡ x → (x && not (is_finishing e.kind)) ≡ false
        at true i = absurd (ne (same i))
        at false i = refl

    by : (a ≡ e.actor) ⊎ (a ≡ e.actor → ⊥) → GivesShort c (h ++ e ∷ []) a (with_at f e.actor g a).stack
    by (inl i) = subst (λ b. GivesShort c (h ++ e ∷ []) b (with_at f e.actor g b).stack) (sym i)
        (subst (λ (x : Going). GivesShort c (h ++ e ∷ []) e.actor x.stack) (sym (here_at f e.actor g)) own)
    by (inr ne) = subst (λ (x : Going). GivesShort c (h ++ e ∷ []) a x.stack) (sym (other_at f e.actor a g ne))
        (λ b. let z : (returns_first (f a).stack ≡ true) × (was_short c h a ≡ true) = short a b in
        (z.0, short_same c h a e (not_own a ne) z.1))
