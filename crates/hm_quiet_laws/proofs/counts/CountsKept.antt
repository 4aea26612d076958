-- The counts are kept by each entry that is due.
use Rattle.std.proofs.Common.{◌≡◌, ℕ, zero, suc, ◌+◌, ◌<◌, ◌≤◌, ◌⊎◌, inl, inr, Bool, true, false, ◌||◌, ◌==◌, if◌then◌else◌, is_some, Option, Some, None, List, [], ◌∷◌, refl, sym, ap, ◌∙◌, subst, arith, take}
use Rattle.std.specs.Prelude.{sum_by, slice_get}
use Rattle.std.specs.List.{list_any}
use Rattle.std.proofs.Math.Numerals.{add-one}
use Rattle.std.proofs.lemmas.List.Sums.{sum_by-cons}
use Rattle.std.proofs.lemmas.Bool.Decides.{nat_tests}
use Rattle.std.proofs.lemmas.Bool.{cases_eq}
use Rattle.hm_base.specs.Program.{Program, IsScript}
use Rattle.hm_base.specs.declared.ops.Op.{Op}
use Rattle.hm_history.specs.Memory.Words.{with_at}
use Rattle.hm_history.specs.Memory.Plain.{Plain, plain_next}
use Rattle.hm_history.specs.Memory.Sequences.{Sequences, Interval, sequences_next, with_seq, with_stage, applied, is_last_end, interval_proc}
use Rattle.hm_history.specs.Kernel.Quiet.{mapped_pages}
use Rattle.hm_history.specs.Memory.After.{After}
use Rattle.hm_history.specs.Kernel.Stacks.{stack_after}
use Rattle.hm_history.specs.Kernel.Going.{State, Going, ops_of, op_at, going_on, going_next, state_start, state_next, seen_at, recorded}
use Rattle.hm_history.specs.Kernel.Due.{due_in, due_phase}
use Rattle.hm_history.specs.declared.Kind.{Kind}
use Rattle.hm_history.specs.declared.Entry.{Entry}
use Rattle.hm_history.specs.declared.Progress.{Progress}
use Rattle.hm_history.specs.declared.phases.Migrating.{Migrating}
use Rattle.hm_history.specs.declared.phases.Phase.{Phase}
use Rattle.hm_history.specs.declared.phases.Next.TheVariants.{Do}
use Rattle.hm_history.proofs.Updates.{here_at, other_at, with_case}
use Rattle.hm_laws.specs.Past.{Past}
use Rattle.hm_laws.specs.Stands.{Standing}
use Rattle.hm_laws.proofs.Histories.Sound.{Small, Turn, turn_of, small}
use Rattle.hm_quiet_laws.proofs.measure.Left.{pages_from}
use Rattle.hm_quiet_laws.proofs.measure.Counts.{is_attach_of, is_fork_to, some_op, sum_upto, mapped_by, mapped_so_far, Counted}
use Rattle.hm_laws.proofs.Due.FromOp.{FromOp, Given, from_op}
use Rattle.hm_quiet_laws.proofs.counts.MappedPages.{pages_without, pages_with, pages_added}
use Rattle.hm_quiet_laws.proofs.counts.FewOfEach.{few_of}
use Rattle.hm_quiet_laws.proofs.alone.Ends.{Counting, going_at}

-- an operation of the script is one of its operations
any_at : {X : Type 0} (t : X → Bool) (xs : List X) (i : ℕ) (x : X) → slice_get xs i ≡ Some x → t x ≡ true → list_any t xs ≡ true
any_at t [] i x e h = cc
any_at t (y ∷ xs) zero x e h = grind arith
any_at t (y ∷ xs) (suc i) x e h = more (t y) (any_at t xs i x e h)
  where
    more : (b : Bool) → list_any t xs ≡ true → (b || list_any t xs) ≡ true
    more b k = grind arith

op_passes : (c : Program) (t : Op → Bool) (a i : ℕ) (o : Op) → op_at c a i ≡ Some o → t o ≡ true → some_op t c ≡ true
op_passes c t a i o e h = by (slice_get c.actors a) refl e
  where
    by : (x : Option (List Op)) → slice_get c.actors a ≡ x → slice_get (elim x [ None ↦ [] | Some os ↦ os ]) i ≡ Some o → some_op t c ≡ true
    by None ex k = cc
    by (Some os) ex k = any_at (λ os. list_any t os) c.actors a os ex (any_at t os i o k h)

-- intervals come with their mirrors
abbrev Comes : Kind → ℕ → Type 0
Comes (Kind.Attached j d p r q) m = j ≡ m
Comes k m = ⊥

seq_some : (q : ℕ) (x : Option Interval) → is_some (with_seq q x) ≡ true → is_some x ≡ true
seq_some q None h = h
seq_some q (Some y) h = refl

standing_some : (t : _) (x : Option Interval) → is_some (with_stage t x) ≡ true → is_some x ≡ true
standing_some t None h = h
standing_some t (Some y) h = refl

settled_some : (p : ℕ) (b : Bool) (x : Option Interval) → is_some (if b then applied p x else x) ≡ true → is_some x ≡ true
settled_some p false x h = h
settled_some p true None h = h
settled_some p true (Some y) h = refl

changed : (f : ℕ → Option Interval) (j m : ℕ) (z : Option Interval) → (is_some z ≡ true → is_some (f j) ≡ true) → is_some (with_at f j z m) ≡ true → is_some (f m) ≡ true
changed f j m z h = with_case (λ i x. is_some x ≡ true → is_some (f i) ≡ true) f j z m (λ e. h) (λ ne k. k)

came : (s : Sequences) (a : ℕ) (k : Kind) (m : ℕ) → is_some ((sequences_next s a k).interval m) ≡ true → (is_some (s.interval m) ≡ true) ⊎ Comes k m
came s a (Kind.Told j r q) m h = inl (changed s.interval j m (with_seq (s.seq (interval_proc s j)) (s.interval j)) (seq_some (s.seq (interval_proc s j)) (s.interval j)) h)
came s a (Kind.End p r q) m h = inl (settled_some p (is_last_end s p) (s.interval m) h)
came s a (Kind.Detaching j q) m h = inl (changed s.interval j m _ (standing_some _ (s.interval j)) h)
came s a (Kind.Detached j) m h = inl (changed s.interval j m _ (standing_some _ (s.interval j)) h)
came s a (Kind.Attached j d p r q) m h = by (cases_eq m j)
  where
    by : (m ≡ j) ⊎ (m ≡ j → ⊥) → (is_some (s.interval m) ≡ true) ⊎ (j ≡ m)
    by (inl e) = inr (sym e)
    by (inr ne) = inl (subst (λ x. is_some x ≡ true) (other_at s.interval j m _ ne) h)
came s a k m h = inl h

-- names of children
abbrev Names : Kind → ℕ → Type 0
Names (Kind.Named p d) q = d ≡ q
Names k q = ⊥

named_now : (s : Plain) (k : Kind) (q : ℕ) → (plain_next s k).named q ≡ true → (s.named q ≡ true) ⊎ Names k q
named_now s (Kind.Named p d) q h = by (cases_eq q d)
  where
    by : (q ≡ d) ⊎ (q ≡ d → ⊥) → (s.named q ≡ true) ⊎ (d ≡ q)
    by (inl e) = inr (sym e)
    by (inr ne) = inl (sym (other_at s.named d q true ne) ∙ h)
named_now s k q h = inl h

-- areas
abbrev gained : Kind → ℕ
gained (Kind.Mapped p r w) = r.count
gained k = 0

pages_now : (s : Plain) (k : Kind) (n : ℕ) → ((p : ℕ) → pages_from 0 (s.areas p) ≤ n) → (p : ℕ) → pages_from 0 ((plain_next s k).areas p) ≤ n + gained k
pages_now s (Kind.Mapped q r w) n h p = with_case (λ i xs. pages_from 0 xs ≤ n + r.count) s.areas q _ p (omega (arith, pages_added r w (s.areas q), h q)) (λ ne. omega (arith, h p))
pages_now s (Kind.Unmapped q r) n h p = with_case (λ i xs. pages_from 0 xs ≤ n + 0) s.areas q _ p (omega (arith, pages_without r (s.areas q), h q)) (λ ne. omega (arith, h p))
pages_now s (Kind.Protected q r w) n h p = with_case (λ i xs. pages_from 0 xs ≤ n + 0) s.areas q _ p (omega (arith, pages_with r w (s.areas q), h q)) (λ ne. omega (arith, h p))
pages_now s (Kind.Forked q d) n h p = with_case (λ i xs. pages_from 0 xs ≤ n + 0) s.areas d _ p (omega (arith, h q)) (λ ne. omega (arith, h p))
pages_now s (Kind.Exited q) n h p = with_case (λ i xs. pages_from 0 xs ≤ n + 0) s.areas q _ p (omega arith) (λ ne. omega (arith, h p))
pages_now s k n h p = omega (arith, h p)

-- how far the actor is
sum_grows : (f g : ℕ → ℕ) (n a k : ℕ) → a < n → ((b : ℕ) → (b ≡ a → ⊥) → f b ≤ g b) → f a + k ≤ g a → sum_upto f n + k ≤ sum_upto g n
sum_grows f g zero a k l h e = absurd (omega arith)
sum_grows f g (suc n) a k l h e = by (cases_eq a n) (λ m. sum_grows f g n a k m h e)
  where
    all : (m : ℕ) → ((b : ℕ) → b < m → f b ≤ g b) → sum_upto f m ≤ sum_upto g m
    all zero i = omega arith
    all (suc m) i = omega (arith, all m (λ b j. i b (omega (arith, j))), i m (omega arith))

    less : (b : ℕ) → b < n → n ≡ b → ⊥
    less b j i = omega (arith, j, i)

    by : (a ≡ n) ⊎ (a ≡ n → ⊥) → (a < n → sum_upto f n + k ≤ sum_upto g n) → (sum_upto f n + f n) + k ≤ sum_upto g n + g n
    by (inl i) ih = omega (arith, all n (λ b j. h b (λ q. less b j (sym (q ∙ i)))), subst (λ j. f j + k ≤ g j) i e)
    by (inr ne) ih = omega (arith, ih (omega arith), h n (λ q. ne (sym q)))

take_more : (f : Op → ℕ) (os : List Op) (i : ℕ) (o : Op) → slice_get os i ≡ Some o → sum_by f (take i os) + f o ≤ sum_by f (take (suc i) os)
take_more f [] i o e = cc
take_more f (x ∷ os) zero o e = omega (arith, sum_by-cons f x [], ap f (same e))
  where
    same : Some x ≡ Some o → x ≡ o
    same e = cc
take_more f (x ∷ os) (suc i) o e = omega (arith, sum_by-cons f x (take i os), sum_by-cons f x (take (suc i) os), take_more f os i o e)

ended_more : (c : Program) (a i : ℕ) (o : Op) → op_at c a i ≡ Some o → mapped_by c a i + mapped_pages o ≤ mapped_by c a (i + 1)
ended_more c a i o e = subst (λ j. mapped_by c a i + mapped_pages o ≤ mapped_by c a j) (sym (add-one i)) (take_more mapped_pages (ops_of c a) i o e)

on_more : (c : Program) (a i : ℕ) (o : Op) (st : List Phase) (xs : List Migrating) (k : ℕ) → op_at c a i ≡ Some o → (k ≡ 0) ⊎ ((st ≡ []) × (k ≡ mapped_pages o)) → mapped_by c a i + k ≤ mapped_by c a (going_on c a i st xs).index
on_more c a i o [] xs k e (inl z) = omega (arith, ended_more c a i o e, z)
on_more c a i o [] xs k e (inr z) = omega (arith, ended_more c a i o e, z.1)
on_more c a i o (x ∷ st) xs k e (inl z) = omega (arith, z)
on_more c a i o (x ∷ st) xs k e (inr z) = cc

from_map : (o : Op) (top : Phase) (below : List Phase) (k : Kind) (seen : _) → FromOp o top k → (gained k ≡ 0) ⊎ ((stack_after o (top ∷ below) k seen ≡ []) × (gained k ≡ mapped_pages o))
from_map o top below (Kind.Mapped p r w) seen h = inr (ap (λ x. stack_after o (x ∷ below) (Kind.Mapped p r w) seen) h.1, ap mapped_pages (sym h.0))
from_map o top below k seen h = inl refl

-- what an entry is from, where it is due
given_of : (c : Program) (s : After) (a : ℕ) (o : Op) (xs : List Migrating) (top : Phase) (k : Kind) → due_phase c s a o xs top ≡ Do k → FromOp o top k
given_of c s a o xs top k e = subst (Given o top) e (from_op c s a o xs top)

attached_of : (c : Program) (a i : ℕ) (o : Op) (top : Phase) (k : Kind) (m : ℕ) → op_at c a i ≡ Some o → FromOp o top k → Comes k m → some_op (is_attach_of m) c ≡ true
attached_of c a i o top (Kind.Attached j d p r q) m e h cm = op_passes c (is_attach_of m) a i o e (ap (is_attach_of m) h.0 ∙ same cm)
  where
    same : j ≡ m → (j == m) ≡ true
    same k = grind (arith, nat_tests)
attached_of c a i o top k m e h cm = absurd cm

child_of : (c : Program) (a i : ℕ) (o : Op) (top : Phase) (k : Kind) (q : ℕ) → op_at c a i ≡ Some o → FromOp o top k → Names k q → some_op (is_fork_to q) c ≡ true
child_of c a i o top (Kind.Named p d) q e h cm = op_passes c (is_fork_to q) a i o e (ap (is_fork_to q) h.0 ∙ same cm)
  where
    same : d ≡ q → (d == q) ≡ true
    same k = grind (arith, nat_tests)
child_of c a i o top k q e h cm = absurd cm

pub counted_next : (c : Program) → Small c → (u : State) (t : Past) (e : Entry) → Standing c u t → due_in c u e.actor ≡ Progress.Did e → Counted c u → Counted c (state_next c u e)
counted_next c sm u t e sd d cd = record {
  mirrors = λ m h. mirror m (came u.after.sequences a e.kind m h);
  names = λ q h. name q (named_now u.after.plain e.kind q h);
  pages = λ p. omega (arith, pages_now u.after.plain e.kind (mapped_so_far c u) cd.pages p, so_far);
}
  where
    a : ℕ
    a = e.actor

    w : Turn c u.after t a e.kind (u.going a) (going_next c u.after a (u.going a) e.kind)
    w = turn_of c u t e sm sd d

    from : FromOp w.op w.top e.kind
    from = given_of c u.after a w.op (u.going a).pages w.top e.kind w.is_due

    mirror : (m : ℕ) → (is_some (u.after.sequences.interval m) ≡ true) ⊎ Comes e.kind m → some_op (is_attach_of m) c ≡ true
    mirror m (inl h) = cd.mirrors m h
    mirror m (inr h) = attached_of c a (u.going a).index w.op w.top e.kind m w.is_op from h

    name : (q : ℕ) → (u.after.plain.named q ≡ true) ⊎ Names e.kind q → some_op (is_fork_to q) c ≡ true
    name q (inl h) = cd.names q h
    name q (inr h) = child_of c a (u.going a).index w.op w.top e.kind q w.is_op from h

    st : List Phase
    st = stack_after w.op (w.top ∷ w.below) e.kind (seen_at u.after w.op (u.going a).pages w.top e.kind)

    ys : List Migrating
    ys = recorded w.top (seen_at u.after w.op (u.going a).pages w.top e.kind).page (u.going a).pages e.kind

    goes : (state_next c u e).going a ≡ going_on c a (u.going a).index st ys
    goes = here_at u.going a (going_next c u.after a (u.going a) e.kind) ∙ going_at c u a (u.going a).index w.op (u.going a).pages w.top w.below e.kind (record { index = refl; is_op = w.is_op; pages = refl; stack = w.is_stack })

    so_far : mapped_so_far c u + gained e.kind ≤ mapped_so_far c (state_next c u e)
    so_far = sum_grows (λ b. mapped_by c b (u.going b).index) (λ b. mapped_by c b ((state_next c u e).going b).index) 16 a (gained e.kind) (sm.few a (u.going a).index w.op w.is_op)
        (λ b ne. subst (λ (g : Going). mapped_by c b (u.going b).index ≤ mapped_by c b g.index) (sym (other_at u.going a b (going_next c u.after a (u.going a) e.kind) ne)) (omega arith))
        (subst (λ (g : Going). mapped_by c a (u.going a).index + gained e.kind ≤ mapped_by c a g.index) (sym goes)
        (on_more c a (u.going a).index w.op st ys (gained e.kind) w.is_op (from_map w.op w.top w.below e.kind (seen_at u.after w.op (u.going a).pages w.top e.kind) from)))

pub counting : (c : Program) → IsScript c → Counting c
counting c sc = record {
  kept = λ u t e sd d cd. counted_next c (small c sc) u t e sd d cd;
  few = λ u t sd cd. few_of c u t sc sd cd;
}

pub counted_start : (c : Program) → Counted c (state_start c)
counted_start c = record { mirrors = λ m h. cc; names = λ q h. cc; pages = λ p. omega arith }
