-- What an entry of another actor leaves as it is.
use Rattle.std.proofs.Common.{◌≡◌, ℕ, ◌<◌, ◌⊎◌, inl, inr, Bool, true, false, ◌&&◌, nat_lt, if◌then◌else◌, not, Option, Some, None, List, [], ◌∷◌, refl, sym, ap, ◌∙◌, arith, length}
use Rattle.std.proofs.lemmas.Bool.Decides.{nat_tests}
use Rattle.hm_base.specs.Areas.{rights_at}
use Rattle.hm_base.specs.Program.{Program}
use Rattle.hm_base.specs.declared.Place.{Place}
use Rattle.hm_history.specs.Memory.Words.{with_at, writable, is_empty_place, page_of}
use Rattle.hm_history.specs.Memory.Plain.{rights_of, with_bytes, written_for, proc_of, mirror_proc}
use Rattle.hm_history.specs.Memory.Places.{with_place}
use Rattle.hm_history.specs.Memory.Locks.{releases}
use Rattle.hm_history.specs.Memory.After.{After}
use Rattle.hm_history.specs.declared.locks.MapLock.{MapLock}
use Rattle.hm_history.specs.declared.Kind.{Kind}
use Rattle.hm_laws.specs.Stood.{lock_on}
use Rattle.hm_laws.specs.Past.{Past, past_next}
use Rattle.hm_laws.specs.Sound.{Sound}
use Rattle.hm_laws.specs.Allowed.{next, shows, HasChild, MayPlace, Reader, Writer, Parent, Mover, InPage, Allowed}
use Rattle.std.proofs.lemmas.Bool.{cases_eq, and_parts, not-true}
use Rattle.hm_laws.proofs.Kept.Areas.{placed_cases}
use Rattle.hm_laws.proofs.Kept.Contents.{same_page, written_to, added_to, writer_is, adder_is}
use Rattle.hm_history.proofs.Updates.{other_at, here_at}
use Rattle.hm_history.proofs.Tests.{some_none, true_false}

-- the locks of processes and guards
pick : (m : ℕ → Option MapLock) (a b : ℕ) → (b ≡ a → ⊥) → (r : Bool) → (if r then with_at m a None else m) b ≡ m b
pick m a b ne true = other_at m a b None ne
pick m a b ne false = refl

pub map_other : (s : After) (a b : ℕ) → (b ≡ a → ⊥) → (k : Kind) → (next s a k).locks.map b ≡ s.locks.map b
map_other s a b ne (Kind.Rlock p) = other_at s.locks.map a b _ ne
map_other s a b ne (Kind.Wlock p) = other_at s.locks.map a b _ ne
map_other s a b ne k = pick s.locks.map a b ne (releases k)

pub guard_other : (s : After) (a b : ℕ) → (b ≡ a → ⊥) → (k : Kind) → (next s a k).sequences.guard b ≡ s.sequences.guard b
guard_other s a b ne (Kind.Start p r q) = other_at s.sequences.guard a b _ ne
guard_other s a b ne (Kind.Told m r q) = other_at s.sequences.guard a b _ ne
guard_other s a b ne (Kind.End p r q) = other_at s.sequences.guard a b _ ne
guard_other s a b ne k = refl

-- a process that an actor has locked: it stays there, with its areas
pub not_writer : (c : Program) (s : After) (t : Past) (a b p : ℕ) (w : Bool) → Sound c s t → (b ≡ a → ⊥) → s.locks.map b ≡ lock_on p w → (q : ℕ) → s.locks.map a ≡ lock_on q true → p ≡ q → ⊥
not_writer c s t a b p w so ne h q k e = ne (sym (so.locks.one_writer q a b w k (h ∙ ap (λ i. lock_on i w) e)))

pub not_locker : (c : Program) (s : After) (t : Past) (a b p : ℕ) (w : Bool) → Sound c s t → (b ≡ a → ⊥) → s.locks.map b ≡ lock_on p true → (q : ℕ) → s.locks.map a ≡ lock_on q w → p ≡ q → ⊥
not_locker c s t a b p w so ne h q k e = ne (so.locks.one_writer p b a w h (k ∙ ap (λ i. lock_on i w) (sym e)))

pub not_born : (c : Program) (s : After) (t : Past) (p d : ℕ) → Sound c s t → s.plain.there p ≡ true → s.plain.been d ≡ false → p ≡ d → ⊥
not_born c s t p d so h n e = true_false (s.plain.been d) (ap s.plain.been (sym e) ∙ so.processes.there_been p h) n

pub there_other : (c : Program) (s : After) (t : Past) (a b p : ℕ) (w : Bool) → Sound c s t → (b ≡ a → ⊥) → s.locks.map b ≡ lock_on p w → s.plain.there p ≡ true → (k : Kind) → Allowed c s t a k → (next s a k).plain.there p ≡ true
there_other c s t a b p w so ne h e (Kind.Exited q) ok = other_at s.plain.there q p false (not_writer c s t a b p w so ne h q ok.0.0) ∙ e
there_other c s t a b p w so ne h e (Kind.Forked q d) ok = by (cases_eq p d)
  where
    by : (p ≡ d) ⊎ (p ≡ d → ⊥) → with_at s.plain.there d true p ≡ true
    by (inl k) = ap (with_at s.plain.there d true) k ∙ here_at s.plain.there d true
    by (inr k) = other_at s.plain.there d p true k ∙ e
there_other c s t a b p w so ne h e k ok = e

pub areas_other : (c : Program) (s : After) (t : Past) (a b p : ℕ) (w : Bool) → Sound c s t → (b ≡ a → ⊥) → s.locks.map b ≡ lock_on p w → s.plain.there p ≡ true → (k : Kind) → Allowed c s t a k → (next s a k).plain.areas p ≡ s.plain.areas p
areas_other c s t a b p w so ne h e (Kind.Mapped q r x) ok = other_at s.plain.areas q p _ (not_writer c s t a b p w so ne h q ok.0.0)
areas_other c s t a b p w so ne h e (Kind.Unmapped q r) ok = other_at s.plain.areas q p _ (not_writer c s t a b p w so ne h q ok.0.0)
areas_other c s t a b p w so ne h e (Kind.Protected q r x) ok = other_at s.plain.areas q p _ (not_writer c s t a b p w so ne h q ok.0.0)
areas_other c s t a b p w so ne h e (Kind.Exited q) ok = other_at s.plain.areas q p _ (not_writer c s t a b p w so ne h q ok.0.0)
areas_other c s t a b p w so ne h e (Kind.Forked q d) ok = other_at s.plain.areas d p _ (not_born c s t p d so e ok.2.1)
areas_other c s t a b p w so ne h e k ok = refl

pub rights_other : (c : Program) (s : After) (t : Past) (a b p : ℕ) (w : Bool) → Sound c s t → (b ≡ a → ⊥) → s.locks.map b ≡ lock_on p w → s.plain.there p ≡ true → (k : Kind) → Allowed c s t a k → (v : ℕ) → rights_of (next s a k).plain p v ≡ rights_of s.plain p v
rights_other c s t a b p w so ne h e k ok v = ap (λ i. rights_at i v) (areas_other c s t a b p w so ne h e k ok)

-- a page that is not writable keeps its bytes
written_other : (s : After) (p at : ℕ) (bs : List ℕ) → InPage at (length bs) → writable (s.places.place p (page_of at)) ≡ true → (q x : ℕ) → writable (s.places.place q (page_of x)) ≡ false →
    with_at s.plain.bytes p (with_bytes (s.plain.bytes p) at bs) q x ≡ s.plain.bytes q x
written_other s p at bs i w q x n = grind (arith, nat_tests, same_page at (length bs) x i)

pub bytes_other : (c : Program) (s : After) (t : Past) (a b p : ℕ) (w : Bool) → Sound c s t → (b ≡ a → ⊥) → s.locks.map b ≡ lock_on p w → s.plain.there p ≡ true → (k : Kind) → Allowed c s t a k →
    (x : ℕ) → writable (s.places.place p (page_of x)) ≡ false → (next s a k).plain.bytes p x ≡ s.plain.bytes p x
bytes_other c s t a b p w so ne h e (Kind.Mapped q r y) ok x n = ap (λ (f : ℕ → ℕ). f x) (other_at s.plain.bytes q p _ (not_writer c s t a b p w so ne h q ok.0.0))
bytes_other c s t a b p w so ne h e (Kind.Forked q d) ok x n = ap (λ (f : ℕ → ℕ). f x) (other_at s.plain.bytes d p _ (not_born c s t p d so e ok.2.1))
bytes_other c s t a b p w so ne h e (Kind.Stored y at bs) ok x n = ap (λ i. written_for s.plain.bytes i at bs p x) (writer_is a c s at bs y ok.2) ∙ written_other s (proc_of s.plain y) at bs ok.3 (written_to (Kind.Stored y at bs) a c s (proc_of s.plain y) at bs y refl ok.2) p x n
bytes_other c s t a b p w so ne h e (Kind.Added m at was now) ok x n = let mine = adder_is s a m at ok.1 in ap (λ i. written_for s.plain.bytes i at (now ∷ []) p x) mine.0 ∙ written_other s (mirror_proc s.plain m) at (now ∷ []) (omega arith) (added_to s a m at mine.1) p x n
bytes_other c s t a b p w so ne h e k ok x n = refl

-- who places a page of a process that another has for itself, or of the child of another, is a mover
pub record Moves (s : After) (p v : ℕ) (x : Place) : Type 0 where
  pub was : is_empty_place (s.places.place p v) ≡ false
  pub stays : is_empty_place x ≡ false
  pub same : (o : ℕ) → o < 4096 → shows s x o ≡ shows s (s.places.place p v) o
  pub right : writable x ≡ writable (s.places.place p v)

pub mover_of : (c : Program) (s : After) (t : Past) (a b p v : ℕ) (x : Place) → Sound c s t → (b ≡ a → ⊥) → s.locks.map b ≡ lock_on p true → s.plain.there p ≡ true → MayPlace s t a p v x → Moves s p v x
mover_of c s t a b p v x so ne h e (Reader m n i r) = absurd (not_locker c s t a b p false so ne h p m.0 refl)
mover_of c s t a b p v x so ne h e (Writer m) = absurd (not_locker c s t a b p true so ne h p m.0 refl)
mover_of c s t a b p v x so ne h e (Parent m n) = absurd (not_born c s t p p so e m.1 refl)
mover_of c s t a b p v x so ne h e (Mover m n i r) = record { was = m; stays = n; same = i; right = r }

pub mover_of_child : (c : Program) (s : After) (t : Past) (a b d v : ℕ) (x : Place) → Sound c s t → (b ≡ a → ⊥) → HasChild s t b d → MayPlace s t a d v x → Moves s d v x
mover_of_child c s t a b d v x so ne h (Reader m n i r) = absurd (not_born c s t d d so m.1 h.1 refl)
mover_of_child c s t a b d v x so ne h (Writer m) = absurd (not_born c s t d d so m.1 h.1 refl)
mover_of_child c s t a b d v x so ne h (Parent m n) = absurd (ne (clash b a (sym h.0 ∙ m.0)))
  where
    clash : (b a : ℕ) → Some b ≡ Some a → b ≡ a
    clash b a k = cc
mover_of_child c s t a b d v x so ne h (Mover m n i r) = record { was = m; stays = n; same = i; right = r }

-- so its pages keep their emptiness and their write right
pub record SamePage (old new : Place) : Type 0 where
  pub empty : is_empty_place new ≡ is_empty_place old
  pub right : writable new ≡ writable old

placed_same : (s : After) (p v : ℕ) (x : Place) → (q u : ℕ) → (q ≡ p → Moves s p v x) → SamePage (s.places.place q u) (with_place s.places.place p v x q u)
placed_same s p v x q u f = by (placed_cases s.places.place p v x q u)
  where
    by : ((q ≡ p) × (u ≡ v) × (with_place s.places.place p v x q u ≡ x)) ⊎ (with_place s.places.place p v x q u ≡ s.places.place q u) → SamePage (s.places.place q u) (with_place s.places.place p v x q u)
    by (inl e) = let m : Moves s p v x = f e.0 in let o : s.places.place q u ≡ s.places.place p v = ap (λ i. s.places.place i u) e.0 ∙ ap (s.places.place p) e.1 in
        record { empty = ap is_empty_place e.2 ∙ m.stays ∙ sym m.was ∙ sym (ap is_empty_place o); right = ap writable e.2 ∙ m.right ∙ sym (ap writable o) }
    by (inr e) = record { empty = ap is_empty_place e; right = ap writable e }

pub page_other : (c : Program) (s : After) (t : Past) (a b p : ℕ) → Sound c s t → (b ≡ a → ⊥) → s.locks.map b ≡ lock_on p true → s.plain.there p ≡ true → (k : Kind) → Allowed c s t a k → (u : ℕ) → SamePage (s.places.place p u) ((next s a k).places.place p u)
page_other c s t a b p so ne h e (Kind.Place q v x) ok u = placed_same s q v x p u (λ i. mover_of c s t a b q v x so ne (h ∙ ap (λ j. lock_on j true) i) (sym (ap s.plain.there i) ∙ e) ok.who)
page_other c s t a b p so ne h e k ok u = record { empty = refl; right = refl }

pub child_other : (c : Program) (s : After) (t : Past) (a b d : ℕ) → Sound c s t → (b ≡ a → ⊥) → HasChild s t b d → (k : Kind) → Allowed c s t a k → (u : ℕ) → SamePage (s.places.place d u) ((next s a k).places.place d u)
child_other c s t a b d so ne h (Kind.Place q v x) ok u = placed_same s q v x d u (λ i. mover_of_child c s t a b q v x so ne (ap t.namer (sym i) ∙ h.0, ap s.plain.been (sym i) ∙ h.1) ok.who)
child_other c s t a b d so ne h k ok u = record { empty = refl; right = refl }

-- the child stays a child to come
pub has_child_other : (c : Program) (s : After) (t : Past) (a b d : ℕ) → Sound c s t → (b ≡ a → ⊥) → HasChild s t b d → (k : Kind) → Allowed c s t a k → HasChild (next s a k) (past_next t s.length a k) b d
has_child_other c s t a b d so ne h (Kind.Named p q) ok = (other_at t.namer q d (Some a) (λ e. unnamed (ap t.namer (sym e) ∙ h.0)) ∙ h.0, h.1)
  where
    fresh : s.plain.named q ≡ false
    fresh = not-true (s.plain.named q) (and_parts (nat_lt 0 q) (not (s.plain.named q)) (and_parts (s.plain.there p) (nat_lt 0 q && not (s.plain.named q)) ok).1).1

    unnamed : t.namer q ≡ Some b → ⊥
    unnamed e = some_none (t.namer q) b e (so.processes.namer_named q fresh)
has_child_other c s t a b d so ne h (Kind.Forked p q) ok = (h.0, other_at s.plain.been q d true (λ e. ne (clash b a (sym h.0 ∙ ap t.namer e ∙ ok.2.0))) ∙ h.1)
  where
    clash : (b a : ℕ) → Some b ≡ Some a → b ≡ a
    clash b a k = cc
has_child_other c s t a b d so ne h k ok = h
