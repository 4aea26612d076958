-- The states after entries that are equal but for sequences, from such states, are such states.
use Rattle.std.proofs.Common.{◌≡◌, ℕ, ◌+◌, ◌⊎◌, inl, inr, Bool, true, false, Option, Some, None, List, [], ◌∷◌, refl, sym, ap, ◌∙◌, subst}
use Rattle.std.specs.Prelude.{⊤}
use mathlib.Core.Path.{fun_ext}
use Rattle.std.proofs.lemmas.Bool.{cases_eq}
use Rattle.hm_base.specs.Program.{Program}
use Rattle.hm_base.specs.declared.ops.Op.{Op}
use Rattle.hm_history.specs.Memory.Words.{with_at}
use Rattle.hm_history.specs.Memory.Places.{Places}
use Rattle.hm_history.specs.Memory.Sequences.{Sequences, sequences_next}
use Rattle.hm_history.specs.Memory.Locks.{Locks, orphan}
use Rattle.hm_history.specs.Memory.After.{After, after_entry}
use Rattle.hm_history.specs.Kernel.Operation.{op_mirror}
use Rattle.hm_history.specs.Kernel.Stacks.{first_phase, after_top}
use Rattle.hm_history.specs.Kernel.Going.{State, Going, op_at, first_stack, seen_at, seen_place, seen_overlap, recorded, recorded_at, recorded_body, going_on, going_top, going_next, state_next, touch_page, touch_proc, coming, coming_page}
use Rattle.hm_history.specs.declared.Kind.{Kind}
use Rattle.hm_history.specs.declared.Entry.{Entry}
use Rattle.hm_history.specs.declared.phases.Migrating.{Migrating}
use Rattle.hm_history.specs.declared.phases.MoveStep.{MoveStep}
use Rattle.hm_history.specs.declared.phases.Seen.{Seen}
use Rattle.hm_history.specs.declared.phases.Touch.{Touch}
use Rattle.hm_history.specs.declared.phases.Body.{Body}
use Rattle.hm_history.specs.declared.phases.Phase.{Phase}
use Rattle.hm_laws.specs.Sound.{SequenceRules}
use Rattle.hm_race_laws.specs.Numbers.{small_sequences, small_after, small_touch, small_phase, small_stack, mirror_of, small_going, small_state, small_kind, small_entry}
use Rattle.hm_race_laws.proofs.SmallWords.{some_overlap_same}
use Rattle.hm_race_laws.proofs.SmallSequences.{next_small}
use Rattle.hm_race_laws.proofs.SmallDues.{Ruled, touched_page, coming_same}
use Rattle.hm_race_laws.proofs.SmallStacks.{Like, BeginsAt, moved_like}
use Rattle.hm_race_laws.proofs.SmallNoted.{NotedStack, Newcomer, phase_kept, stack_kept}
use Rattle.hm_history.proofs.Updates.{other_at, here_at}

-- the states of all structures
pub after_small : (s : After) (a : ℕ) (k : Kind) → SequenceRules s.sequences → small_after (after_entry s (record { actor = a; kind = k })) ≡ small_after (after_entry (small_after s) (record { actor = a; kind = small_kind k }))
after_small s a (Kind.Attached m d p r q) so = ap (λ z. record (small_after (after_entry s (record { actor = a; kind = Kind.Attached m d p r q }))) { sequences = z }) (next_small s.sequences a (Kind.Attached m d p r q) so)
after_small s a (Kind.Detaching m q) so = ap (λ z. record (small_after (after_entry s (record { actor = a; kind = Kind.Detaching m q }))) { sequences = z }) (next_small s.sequences a (Kind.Detaching m q) so)
after_small s a (Kind.Start p r q) so = ap (λ z. record (small_after (after_entry s (record { actor = a; kind = Kind.Start p r q }))) { sequences = z }) (next_small s.sequences a (Kind.Start p r q) so)
after_small s a (Kind.Told m r q) so = ap (λ z. record (small_after (after_entry s (record { actor = a; kind = Kind.Told m r q }))) { sequences = z }) (next_small s.sequences a (Kind.Told m r q) so)
after_small s a (Kind.End p r q) so = ap (λ z. record (small_after (after_entry s (record { actor = a; kind = Kind.End p r q }))) { sequences = z }) (next_small s.sequences a (Kind.End p r q) so)
after_small s a (Kind.Begin m q) so = ap (λ z. record (small_after (after_entry s (record { actor = a; kind = Kind.Begin m q }))) { sequences = z }) (next_small s.sequences a (Kind.Begin m q) so)
after_small s a k so = ap (λ z. record (small_after (after_entry s (record { actor = a; kind = k }))) { sequences = z }) (next_small s.sequences a k so)

-- what is seen
overlap_small : (s : After) (k : Kind) → seen_overlap s k ≡ seen_overlap (small_after s) (small_kind k)
overlap_small s (Kind.Start p r q) = sym (some_overlap_same s.sequences p r)
overlap_small s _ = refl

orphan_small : (s : Locks) (t : Places) (k : Kind) → orphan s t k ≡ orphan s t (small_kind k)
orphan_small s t (Kind.Place p v x) = refl
orphan_small s t _ = refl

place_decide : (s : After) (o : Op) (touch other : Touch) (k : Kind) → touch_page o touch ≡ touch_page o other → seen_place s o (Phase.Decide touch) k ≡ seen_place (small_after s) o (Phase.Decide other) (small_kind k)
place_decide s o touch other (Kind.Start p r q) h = refl
place_decide s o touch other (Kind.Place p v x) h = refl
place_decide s o touch other _ h = ap (s.places.place (touch_proc s o)) h

abbrev is_decide : Phase → Bool
is_decide (Phase.Decide touch) = true
is_decide x = false

place_else : (s : After) (o : Op) (x y : Phase) (k : Kind) → is_decide x ≡ false → is_decide y ≡ false → seen_place s o x k ≡ seen_place (small_after s) o y (small_kind k)
place_else s o x y (Kind.Start p r q) h j = refl
place_else s o x y (Kind.Place p v z) h j = refl
place_else s o x y k h j = no_place s x k h ∙ sym (no_place (small_after s) y (small_kind k) j)
  where
    no_place : (t : After) (z : Phase) (e : Kind) → is_decide z ≡ false → seen_place t o z e ≡ seen_place t o Phase.Begin e
    no_place t (Phase.Decide touch) e d = cc
    no_place t z e d = refl

place_small : (s : After) (o : Op) (top : Phase) (k : Kind) → seen_place s o top k ≡ seen_place (small_after s) o (small_phase s.sequences (op_mirror o) top) (small_kind k)
place_small s o (Phase.Decide touch) k = place_decide s o touch (small_touch s.sequences (op_mirror o) touch) k (touched_page s.sequences (op_mirror o) o touch)
place_small s o x k = place_else s o x (small_phase s.sequences (op_mirror o) x) k refl refl

seen_small : (s : After) (o : Op) (xs : List Migrating) (top : Phase) (k : Kind) → Ruled s → seen_at s o xs top k ≡ seen_at (small_after s) o xs (small_phase s.sequences (op_mirror o) top) (small_kind k)
seen_small s o xs top k so = ap (λ z. record { at = s.length; overlapped = z; place = seen_place s o top k; orphan = orphan s.locks s.places k; page = coming_page (coming s o xs top) }) (overlap_small s k)
    ∙ (ap (λ z. record { at = s.length; overlapped = seen_overlap (small_after s) (small_kind k); place = z; orphan = orphan s.locks s.places k; page = coming_page (coming s o xs top) }) (place_small s o top k)
    ∙ (ap (λ z. record { at = s.length; overlapped = seen_overlap (small_after s) (small_kind k); place = seen_place (small_after s) o (small_phase s.sequences (op_mirror o) top) (small_kind k); orphan = z; page = coming_page (coming s o xs top) }) (orphan_small s.locks s.places k)
    ∙ ap (λ (z : Option (MoveStep × Migrating)). record { at = s.length; overlapped = seen_overlap (small_after s) (small_kind k); place = seen_place (small_after s) o (small_phase s.sequences (op_mirror o) top) (small_kind k); orphan = orphan s.locks s.places (small_kind k); page = coming_page z }) (coming_same s o xs top so)))

-- the records of a migration
records_body : (body : Body) (xs : List Migrating) (k : Kind) → recorded_body body xs k ≡ recorded_body body xs (small_kind k)
records_body (Body.Select n) xs (Kind.Fresh p v) = refl
records_body (Body.Select n) xs (Kind.Place p v x) = refl
records_body (Body.Select n) xs _ = refl
records_body (Body.Fresh g) xs (Kind.Place p v x) = refl
records_body (Body.Fresh g) xs _ = refl
records_body _ xs k = refl

records_at : (x : Option Migrating) (xs : List Migrating) (k : Kind) → recorded_at x xs k ≡ recorded_at x xs (small_kind k)
records_at None xs k = refl
records_at (Some x) xs (Kind.Take g) = refl
records_at (Some x) xs (Kind.Committed f g) = refl
records_at (Some x) xs _ = refl

records_small : (s : Sequences) (m : ℕ) (top : Phase) (x : Option Migrating) (xs : List Migrating) (k : Kind) → recorded top x xs k ≡ recorded (small_phase s m top) x xs (small_kind k)
records_small s m (Phase.Guard p r met told body) x xs k = records_body body xs k
records_small s m (Phase.Moves step v) x xs k = records_at x xs k
records_small s m _ x xs k = refl

-- an actor after its entry
first_small : (s1 s2 : Sequences) (m : ℕ) (x : Option Op) → small_stack s1 m (first_stack x) ≡ small_stack s2 m (first_stack x)
first_small s1 s2 m None = refl
first_small s1 s2 m (Some o) = by o
  where
    by : (z : Op) → small_stack s1 m (first_phase z ∷ []) ≡ small_stack s2 m (first_phase z ∷ [])
    by (Op.Load p a n) = refl
    by (Op.Store p a bs) = refl
    by (Op.DeviceLoad n a k) = refl
    by (Op.DeviceStore n a bs) = refl
    by (Op.Add n a k) = refl
    by (Op.Evict d) = refl
    by (Op.Remove d) = refl
    by _ = refl

on_small : (c : Program) (s1 s2 : Sequences) (a i : ℕ) (l n : List Phase) (xs ys : List Migrating) → Like s1 s1 s2 (mirror_of (op_at c a i)) l n → xs ≡ ys → small_going c s1 a (going_on c a i l xs) ≡ small_going c s2 a (going_on c a i n ys)
on_small c s1 s2 a i [] [] xs ys h k = ap (λ z. record { index = i + 1; stack = z; pages = [] }) (first_small s1 s2 (mirror_of (op_at c a (i + 1))) (op_at c a (i + 1)))
on_small c s1 s2 a i [] (y ∷ n) xs ys h k = cc
on_small c s1 s2 a i (x ∷ l) [] xs ys h k = cc
on_small c s1 s2 a i (x ∷ l) (y ∷ n) xs ys h k = ap (λ z. record { index = i; stack = z; pages = xs }) h ∙ ap (λ z. record { index = i; stack = small_stack s2 (mirror_of (op_at c a i)) (y ∷ n); pages = z }) k

-- what is asked of an actor's own stack: noted sequences are below the processes', and a look-up begins with the interval's
abbrev pub BeginsRightly : After → Op → List Phase → Kind → Type 0
BeginsRightly s o [] k = ⊤
BeginsRightly s o (top ∷ l) k = BeginsAt s.sequences s.sequences (small_sequences s.sequences) (op_mirror o) top k

begins_next : (s : After) (a : ℕ) (m : ℕ) (top : Phase) (k : Kind) → BeginsAt s.sequences s.sequences (small_sequences s.sequences) m top k → BeginsAt s.sequences (sequences_next s.sequences a k) (sequences_next (small_sequences s.sequences) a (small_kind k)) m top k
begins_next s a m (Phase.Piece n) (Kind.Begin j q) b = b
begins_next s a m (Phase.Piece n) k b = tt
begins_next s a m (Phase.Fetched n) (Kind.Begin j q) b = b
begins_next s a m (Phase.Fetched n) k b = tt
begins_next s a m (Phase.Begun n at z) (Kind.Begin j q) b = b
begins_next s a m (Phase.Begun n at z) k b = tt
begins_next s a m _ k b = tt

top_small : (c : Program) (s : After) (a i : ℕ) (o : Op) (xs : List Migrating) (l : List Phase) (k : Kind) → Ruled s → op_at c a i ≡ Some o → Newcomer s.sequences k → NotedStack s.sequences (op_mirror o) l → BeginsRightly s o l k →
    small_going c (sequences_next s.sequences a k) a (going_top c s a (record { index = i; stack = l; pages = xs }) o l k) ≡ small_going c (sequences_next (small_sequences s.sequences) a (small_kind k)) a (going_top c (small_after s) a (record { index = i; stack = small_stack s.sequences (op_mirror o) l; pages = xs }) o (small_stack s.sequences (op_mirror o) l) (small_kind k))
top_small c s a i o xs [] k so e new ok b = refl
top_small c s a i o xs (top ∷ l) k so e new ok b = on_small c s1 s2 a i _ _ _ _ (subst (λ x. Like (sequences_next s.sequences a k) (sequences_next s.sequences a k) (sequences_next (small_sequences s.sequences) a (small_kind k)) (mirror_of x) (after_top o top l k (seen_at s o xs top k)) (after_top o (small_phase s.sequences m top) (small_stack s.sequences m l) (small_kind k) (seen_at (small_after s) o xs (small_phase s.sequences m top) (small_kind k)))) (sym e) stacks) records
  where
    m : ℕ
    m = op_mirror o

    s1 : Sequences
    s1 = sequences_next s.sequences a k

    s2 : Sequences
    s2 = sequences_next (small_sequences s.sequences) a (small_kind k)

    stacks : Like s1 s1 s2 m (after_top o top l k (seen_at s o xs top k)) (after_top o (small_phase s.sequences m top) (small_stack s.sequences m l) (small_kind k) (seen_at (small_after s) o xs (small_phase s.sequences m top) (small_kind k)))
    stacks = moved_like s.sequences s1 s2 m o top l k (seen_at s o xs top k) (phase_kept s.sequences a k m top so.sequences new ok.0) (stack_kept s.sequences a k m l so.sequences new ok.1) (begins_next s a m top k b) ∙ ap (λ z. small_stack s2 m (after_top o (small_phase s.sequences m top) (small_stack s.sequences m l) (small_kind k) z)) (seen_small s o xs top k so)

    records : recorded top (seen_at s o xs top k).page xs k ≡ recorded (small_phase s.sequences m top) (seen_at (small_after s) o xs (small_phase s.sequences m top) (small_kind k)).page xs (small_kind k)
    records = records_small s.sequences m top _ xs k ∙ ap (λ (z : Seen). recorded (small_phase s.sequences m top) z.page xs (small_kind k)) (seen_small s o xs top k so)

-- what is asked of each actor's stack
abbrev pub NotedBy : Program → State → ℕ → Type 0
NotedBy c u b = NotedStack u.after.sequences (mirror_of (op_at c b (u.going b).index)) (u.going b).stack

abbrev pub OpensAt : After → Option Op → List Phase → Kind → Type 0
OpensAt s None l k = ⊤
OpensAt s (Some o) l k = BeginsRightly s o l k

same_stack : (c : Program) (u : State) (a : ℕ) (k : Kind) (b : ℕ) → Ruled u.after → Newcomer u.after.sequences k → NotedBy c u b →
    small_going c (sequences_next u.after.sequences a k) b (u.going b) ≡ small_going c (sequences_next (small_sequences u.after.sequences) a (small_kind k)) b (small_going c u.after.sequences b (u.going b))
same_stack c u a k b so new ok = ap (λ z. record { index = (u.going b).index; stack = z; pages = (u.going b).pages }) (stack_kept u.after.sequences a k (mirror_of (op_at c b (u.going b).index)) (u.going b).stack so.sequences new ok)

own_stack : (c : Program) (u : State) (a : ℕ) (k : Kind) → Ruled u.after → Newcomer u.after.sequences k → NotedBy c u a → OpensAt u.after (op_at c a (u.going a).index) (u.going a).stack k →
    small_going c (sequences_next u.after.sequences a k) a (going_next c u.after a (u.going a) k) ≡ small_going c (sequences_next (small_sequences u.after.sequences) a (small_kind k)) a (going_next c (small_after u.after) a (small_going c u.after.sequences a (u.going a)) (small_kind k))
own_stack c u a k so new ok b = by (op_at c a (u.going a).index) refl ok b
  where
    by : (x : Option Op) → op_at c a (u.going a).index ≡ x → NotedStack u.after.sequences (mirror_of x) (u.going a).stack → OpensAt u.after x (u.going a).stack k →
        small_going c (sequences_next u.after.sequences a k) a (elim x as (λ y. Going) [ None ↦ u.going a | Some o ↦ going_top c u.after a (u.going a) o (u.going a).stack k ]) ≡ small_going c (sequences_next (small_sequences u.after.sequences) a (small_kind k)) a (elim x as (λ y. Going) [ None ↦ small_going c u.after.sequences a (u.going a) | Some o ↦ going_top c (small_after u.after) a (small_going c u.after.sequences a (u.going a)) o (small_stack u.after.sequences (mirror_of (op_at c a (u.going a).index)) (u.going a).stack) (small_kind k) ])
    by None e n z = same_stack c u a k a so new ok
    by (Some o) e n z = top_small c u.after a (u.going a).index o (u.going a).pages (u.going a).stack k so e new n z ∙ ap (λ y. small_going c (sequences_next (small_sequences u.after.sequences) a (small_kind k)) a (going_top c (small_after u.after) a (record { index = (u.going a).index; stack = small_stack u.after.sequences (mirror_of y) (u.going a).stack; pages = (u.going a).pages }) o (small_stack u.after.sequences (mirror_of y) (u.going a).stack) (small_kind k))) (sym e)

pub next_same : (c : Program) (u : State) (e : Entry) → Ruled u.after → Newcomer u.after.sequences e.kind → ((b : ℕ) → NotedBy c u b) → OpensAt u.after (op_at c e.actor (u.going e.actor).index) (u.going e.actor).stack e.kind →
    small_state c (state_next c u e) ≡ small_state c (state_next c (small_state c u) (small_entry e))
next_same c u e so new ok b = ap (λ (z : After). record { after = z; going = (small_state c (state_next c u e)).going }) (after_small u.after e.actor e.kind so.sequences)
    ∙ ap (λ (z : ℕ → Going). record { after = (small_state c (state_next c (small_state c u) (small_entry e))).after; going = z }) (fun_ext (λ j. at j (cases_eq j e.actor)))
  where
    s1 : Sequences
    s1 = sequences_next u.after.sequences e.actor e.kind

    s2 : Sequences
    s2 = sequences_next (small_sequences u.after.sequences) e.actor (small_kind e.kind)

    at : (j : ℕ) → (j ≡ e.actor) ⊎ (j ≡ e.actor → ⊥) → small_going c s1 j (with_at u.going e.actor (going_next c u.after e.actor (u.going e.actor) e.kind) j) ≡ small_going c s2 j (with_at (λ i. small_going c u.after.sequences i (u.going i)) e.actor (going_next c (small_after u.after) e.actor (small_going c u.after.sequences e.actor (u.going e.actor)) (small_kind e.kind)) j)
    at j (inl h) = subst (λ i. small_going c s1 i (with_at u.going e.actor (going_next c u.after e.actor (u.going e.actor) e.kind) i) ≡ small_going c s2 i (with_at (λ i. small_going c u.after.sequences i (u.going i)) e.actor (going_next c (small_after u.after) e.actor (small_going c u.after.sequences e.actor (u.going e.actor)) (small_kind e.kind)) i)) (sym h)
        (ap (small_going c s1 e.actor) (here_at u.going e.actor _) ∙ (own_stack c u e.actor e.kind so new (ok e.actor) b ∙ ap (small_going c s2 e.actor) (sym (here_at (λ i. small_going c u.after.sequences i (u.going i)) e.actor _))))
    at j (inr ne) = ap (small_going c s1 j) (other_at u.going e.actor j _ ne) ∙ (same_stack c u e.actor e.kind j so new (ok j) ∙ ap (small_going c s2 j) (sym (other_at (λ i. small_going c u.after.sequences i (u.going i)) e.actor j _ ne)))
