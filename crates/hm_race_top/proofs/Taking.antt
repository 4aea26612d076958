-- What a state without positions and sequences asks of the entry that is due there.
use Rattle.std.proofs.Common.{◌≡◌, ℕ, zero, suc, ◌+◌, ◌≤◌, Bool, true, false, if◌then◌else◌, Option, Some, None, List, [], ◌∷◌, length, refl, sym, ap, ◌∙◌, subst, arith}
use Rattle.std.specs.Prelude.{IsTrue, slice_get}
use Rattle.hm_base.specs.Program.{Program}
use Rattle.hm_base.specs.declared.ops.Op.{Op}
use Rattle.hm_history.proofs.Updates.{here_at}
use Rattle.hm_history.specs.Memory.After.{After}
use Rattle.hm_history.specs.Memory.Plain.{Plain}
use Rattle.hm_history.specs.Memory.Sequences.{Sequences, Guarded}
use Rattle.hm_history.specs.Kernel.Due.{due_in, due_top}
use Rattle.hm_history.specs.Kernel.Stacks.{stack_after}
use Rattle.hm_history.specs.Kernel.Going.{State, Going, op_at, going_on, going_top, going_next, state_next}
use Rattle.hm_history.specs.declared.Kind.{Kind}
use Rattle.hm_history.specs.declared.Entry.{Entry}
use Rattle.hm_history.specs.declared.Progress.{Progress}
use Rattle.hm_history.specs.declared.phases.Migrating.{Migrating}
use Rattle.hm_history.specs.declared.phases.Phase.{Phase}
use Rattle.hm_history.specs.declared.phases.Seen.{Seen}
use Rattle.hm_laws.specs.Allowed.{Allowed}
use Rattle.hm_laws.specs.Past.{Past}
use Rattle.hm_laws.specs.Sound.{Sound, SequenceRules, guards, count_guards}
use Rattle.hm_laws.specs.Facts.{Knows, HoldsAll, facts, facts_of}
use Rattle.hm_phases.specs.Items.{takes_count, below_takes_count}
use Rattle.hm_reads.specs.Ranges.{phase_in_range, top_in_range}
use Rattle.hm_actors.specs.Actors.{IsSeen}
use Rattle.hm_spaces.specs.Spaces.{SpacesFit}
use Rattle.hm_world.proofs.Depth.{counts, depth}
use Rattle.hm_world.proofs.FitsOf.{spaces_fit}
use Rattle.hm_world.proofs.Ranged.{stack_ranged}
use Rattle.hm_race_laws.specs.Positions.{forget_phase, forget_stack, forget_going, forget_kind}
use Rattle.hm_race_laws.specs.Numbers.{small_phase, small_stack, small_going, small_kind}
use Rattle.hm_race_laws.specs.Blur.{tidied}
use Rattle.hm_race_states.specs.Afters.{ActorTakes, BytesTake, PartsTake, SeqsTake}

-- ---- the stack of an actor in an operation

-- it is of this kind
abbrev pub HasStack : (List Phase → Type 0) → Program → ℕ → Going → Type 0
HasStack Holds c a g = (o : Op) → op_at c a g.index ≡ Some o → Holds g.stack

-- it has at most three phases, and a fork between the two halves of a page is at a page
pub record IsShort (st : List Phase) : Type 0 where
  pub low : length st ≤ 3
  pub ranged : IsTrue (top_in_range (slice_get st 0))

-- below its top a count of frames has room for one more
abbrev pub IsCounted : List Phase → Type 0
IsCounted st = IsTrue (below_takes_count st)

abbrev pub HasShort : Program → ℕ → Going → Type 0
HasShort c a g = HasStack IsShort c a g

abbrev pub HasCounted : Program → ℕ → Going → Type 0
HasCounted c a g = HasStack IsCounted c a g

-- ---- after a history

pub known_short : (c : Program) (s : After) (t : Past) (a : ℕ) (g : Going) → Sound c s t → Knows c s t a g → HasShort c a g
known_short c s t a g so k o e = record { low = depth s t a o g.pages g.stack h; ranged = stack_ranged c s t a o g.pages g.stack so h }
  where
    h : HoldsAll s t a (facts o g.pages g.stack)
    h = subst (λ y. HoldsAll s t a (facts_of y g.pages g.stack)) e k

pub known_counted : (c : Program) (s : After) (t : Past) (a : ℕ) (g : Going) → s.length ≤ 2000000 → Knows c s t a g → HasCounted c a g
known_counted c s t a g few k o e = counts s t a o g.pages g.stack few (subst (λ y. HoldsAll s t a (facts_of y g.pages g.stack)) e k)

-- ---- without positions and sequences

height : (s : Sequences) (m : ℕ) (xs : List Phase) → length (forget_stack (small_stack s m xs)) ≡ length xs
height s m [] = refl
height s m (x ∷ xs) = omega (arith, height s m xs)

range_of : (s : Sequences) (m : ℕ) (x : Phase) → phase_in_range (forget_phase (small_phase s m x)) ≡ phase_in_range x
range_of s m (Phase.Detaching q) = refl
range_of s m (Phase.Begun k at q) = refl
range_of s m (Phase.Decide touch) = refl
range_of s m (Phase.Noted k at q x) = refl
range_of s m (Phase.Taken touch g x) = refl
range_of s m (Phase.Armed touch g x) = refl
range_of s m (Phase.GiveUp touch) = refl
range_of s m _ = refl

range : (s : Sequences) (m : ℕ) (xs : List Phase) → top_in_range (slice_get (forget_stack (small_stack s m xs)) 0) ≡ top_in_range (slice_get xs 0)
range s m [] = refl
range s m (x ∷ xs) = range_of s m x

count_of : (s : Sequences) (m : ℕ) (x : Phase) → takes_count (forget_phase (small_phase s m x)) ≡ takes_count x
count_of s m (Phase.Detaching q) = refl
count_of s m (Phase.Begun k at q) = refl
count_of s m (Phase.Decide touch) = refl
count_of s m (Phase.Noted k at q x) = refl
count_of s m (Phase.Taken touch g x) = refl
count_of s m (Phase.Armed touch g x) = refl
count_of s m (Phase.GiveUp touch) = refl
count_of s m _ = refl

count : (s : Sequences) (m : ℕ) (xs : List Phase) → below_takes_count (forget_stack (small_stack s m xs)) ≡ below_takes_count xs
count s m [] = refl
count s m (x ∷ []) = refl
count s m (x ∷ y ∷ xs) = count_of s m y

short_from : (s : Sequences) (m : ℕ) (xs : List Phase) → IsShort xs → IsShort (forget_stack (small_stack s m xs))
short_from s m xs h = record { low = omega (arith, h.low, height s m xs); ranged = range s m xs ∙ h.ranged }

short_to : (s : Sequences) (m : ℕ) (xs : List Phase) → IsShort (forget_stack (small_stack s m xs)) → IsShort xs
short_to s m xs h = record { low = omega (arith, h.low, height s m xs); ranged = sym (range s m xs) ∙ h.ranged }

blurred_short : (c : Program) (s q : Sequences) (a : ℕ) (g f : Going) → forget_going (small_going c s a g) ≡ forget_going (small_going c q a f) → HasShort c a g → HasShort c a f
blurred_short c s q a g f e short o at = short_to q _ f.stack (subst IsShort (ap (λ (z : Going). z.stack) e) (short_from s _ g.stack (short o (ap (λ (z : Going). op_at c a z.index) e ∙ at))))

-- states that are the same without these have short stacks alike
pub tidied_short : (c : Program) (u v : State) (a : ℕ) → tidied c u ≡ tidied c v → HasShort c a (u.going a) → HasShort c a (v.going a)
tidied_short c u v a e short = blurred_short c u.after.sequences v.after.sequences a (u.going a) (v.going a) (ap (λ (z : State). z.going a) e) short

pub blurred_counted : (c : Program) (s : Sequences) (a : ℕ) (g : Going) → HasCounted c a g → HasCounted c a (forget_going (small_going c s a g))
blurred_counted c s a g h o at = count s _ g.stack ∙ h o at

-- ---- an entry of the actor

on_short : (c : Program) (a i : ℕ) (o : Op) (st : List Phase) (xs : List Migrating) → op_at c a i ≡ Some o → HasShort c a (going_on c a i st xs) → IsShort st
on_short c a i o [] xs e h = record { low = omega arith; ranged = refl }
on_short c a i o (x ∷ st) xs e h = h o e

top_short : (c : Program) (s : After) (a : ℕ) (g : Going) (o : Op) (k : Kind) (seen : Seen) (st : List Phase) → g.stack ≡ st → op_at c a g.index ≡ Some o → IsSeen c s a g k seen → HasShort c a (going_top c s a g o st k) → IsShort (stack_after o g.stack k seen)
top_short c s a g o k seen [] es e is h = subst (λ st. IsShort (stack_after o st k seen)) (sym es) (record { low = omega arith; ranged = refl })
top_short c s a g o k seen (top ∷ below) es e is h = subst (λ z. IsShort (stack_after o g.stack k z)) (sym (is o top below e es)) (on_short c a g.index o _ _ e h)

next_short : (c : Program) (s : After) (a : ℕ) (g : Going) (k : Kind) (seen : Seen) (o : Op) → HasShort c a (going_next c s a g k) → IsSeen c s a g k seen → op_at c a g.index ≡ Some o → IsShort (stack_after o g.stack k seen)
next_short c s a g k seen o h is e = top_short c s a g o k seen g.stack refl e is (subst (λ y. HasShort c a (elim y as (λ z. Going) [ None ↦ g | Some q ↦ going_top c s a g q g.stack k ])) e h)

-- the actor takes an entry if its stack is counted before it, and short after it
pub actor_takes : (c : Program) (u : State) (e : Entry) → HasCounted c e.actor (u.going e.actor) → HasShort c e.actor ((state_next c u e).going e.actor) → ActorTakes c u e
actor_takes c u e before h seen is o at = record { fits = record { few = short.low; counted = before o at }; ranged = short.ranged }
  where
    short : IsShort (stack_after o (u.going e.actor).stack e.kind seen)
    short = next_short c u.after e.actor (u.going e.actor) e.kind seen o (subst (HasShort c e.actor) (here_at u.going e.actor (going_next c u.after e.actor (u.going e.actor) e.kind)) h) is at

-- an actor to whom an entry is due is in a phase
pub due_phase : (c : Program) (u : State) (a : ℕ) (d : Entry) → due_in c u a ≡ Progress.Did d → (u.going a).stack ≡ [] → ⊥
due_phase c u a d did none = by (op_at c a (u.going a).index) (subst (λ st. due_top c u.after a (op_at c a (u.going a).index) (u.going a).pages st ≡ Progress.Did d) none did)
  where
    by : (o : Option Op) → due_top c u.after a o (u.going a).pages [] ≡ Progress.Did d → ⊥
    by None e = cc
    by (Some o) e = cc

-- ---- the other parts

few_guards : (guard : ℕ → Option Guarded) (p n : ℕ) → count_guards guard p n ≤ n
few_guards guard p zero = omega arith
few_guards guard p (suc n) = by (guards (guard n) p) (few_guards guard p n)
  where
    by : (b : Bool) → count_guards guard p n ≤ n → count_guards guard p n + (if b then 1 else 0) ≤ suc n
    by true few = omega (arith, few)
    by false few = omega (arith, few)

spaces_take : (p : Plain) (k : Kind) → SpacesFit p k → SpacesFit (record p { been = λ q. false }) (forget_kind (small_kind k))
spaces_take p (Kind.Mapped q r w) fits = fits
spaces_take p (Kind.Unmapped q r) fits = fits
spaces_take p (Kind.Protected q r w) fits = fits
spaces_take p (Kind.Attached m d q r n) fits = tt
spaces_take p (Kind.Detaching m n) fits = tt
spaces_take p (Kind.Start q r n) fits = tt
spaces_take p (Kind.Told m r n) fits = tt
spaces_take p (Kind.End q r n) fits = tt
spaces_take p (Kind.Begin m n) fits = tt
spaces_take p (Kind.Set m v f w from) fits = tt
spaces_take p _ fits = tt

bytes_take : (c : Program) (s : After) (t : Past) (a : ℕ) (k : Kind) → Allowed c s t a k → BytesTake (forget_kind (small_kind k))
bytes_take c s t a (Kind.Stored x at bs) ok = ok.3
bytes_take c s t a (Kind.Attached m d q r n) ok = tt
bytes_take c s t a (Kind.Detaching m n) ok = tt
bytes_take c s t a (Kind.Start q r n) ok = tt
bytes_take c s t a (Kind.Told m r n) ok = tt
bytes_take c s t a (Kind.End q r n) ok = tt
bytes_take c s t a (Kind.Begin m n) ok = tt
bytes_take c s t a (Kind.Set m v f w from) ok = tt
bytes_take c s t a _ ok = tt

seqs_take : (s q : Sequences) (k : Kind) → SequenceRules s → q.active ≡ s.active → SeqsTake q (forget_kind (small_kind k))
seqs_take s q (Kind.Start p r n) rules same = omega (arith, ap (λ (f : ℕ → ℕ). f p) same, rules.counted p, few_guards s.guard p 16)
seqs_take s q (Kind.Attached m d p r n) rules same = tt
seqs_take s q (Kind.Detaching m n) rules same = tt
seqs_take s q (Kind.Told m r n) rules same = tt
seqs_take s q (Kind.End p r n) rules same = tt
seqs_take s q (Kind.Begin m n) rules same = tt
seqs_take s q (Kind.Set m v f w from) rules same = tt
seqs_take s q _ rules same = tt

-- they take an entry that is allowed
pub parts_take : (c : Program) (s : After) (t : Past) (a : ℕ) (k : Kind) (u : State) → u.after.plain ≡ record s.plain { been = λ q. false } → u.after.sequences.active ≡ s.sequences.active → Sound c s t → Allowed c s t a k → PartsTake u (forget_kind (small_kind k))
parts_take c s t a k u plain active so ok = record {
  areas = subst (λ p. SpacesFit p (forget_kind (small_kind k))) (sym plain) (spaces_take s.plain k (spaces_fit c s t a k ok));
  bytes = bytes_take c s t a k ok;
  seqs = seqs_take s.sequences u.after.sequences k so.sequences active;
}
