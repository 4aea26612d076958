-- What an entry leaves of the pages that an actor knows in a process that it has locked for reading: a page under way,
-- or in a device's memory, leaves its frame only by who has that locked, and is emptied only under the write lock.
use Rattle.std.proofs.Common.{◌≡◌, ℕ, ◌⊎◌, inl, inr, Bool, true, false, Option, Some, None, refl, sym, ap, ◌∙◌, subst}
use Rattle.std.proofs.lemmas.Option.{same_Some}
use Rattle.hm_base.specs.Program.{Program}
use Rattle.hm_base.specs.declared.Frame.{Frame}
use Rattle.hm_base.specs.declared.Place.{Place}
use Rattle.hm_history.specs.Memory.Words.{sys_frame, dev_frame, names_directly, moving_frame, is_empty_place}
use Rattle.hm_history.specs.Memory.Plain.{mirror_dev, proc_of}
use Rattle.hm_history.specs.Memory.Places.{with_place}
use Rattle.hm_history.specs.Memory.After.{After}
use Rattle.hm_history.specs.Kernel.Operation.{op_mirror, is_to_device}
use Rattle.hm_history.specs.Kernel.Due.{has_no_frame, pool_of}
use Rattle.hm_history.specs.declared.locks.MapLock.{MapLock}
use Rattle.hm_history.specs.declared.Kind.{Kind}
use Rattle.hm_history.specs.declared.Who.{Who}
use Rattle.hm_base.specs.declared.PoolId.{PoolId}
use Rattle.hm_base.specs.declared.ops.Op.{Op}
use Rattle.hm_laws.specs.Stood.{lock_on}
use Rattle.hm_laws.specs.Past.{Past, past_next}
use Rattle.hm_laws.specs.Sound.{Sound}
use Rattle.hm_laws.specs.Allowed.{next, ReadsThere, Owned, Allowed}
use Rattle.hm_laws.specs.Spares.{Spares}
use Rattle.hm_laws.specs.Facts.{HasProc, of_system, Frozen_at, Own_at, Framed, Lands_on, Holds}
use Rattle.hm_laws.proofs.Kept.Areas.{placed_cases}
use Rattle.hm_laws.proofs.Kept.Frames.{moving_names, direct_names}
use Rattle.hm_laws.proofs.Other.Frames.{not_mine, lock_keeps}
use Rattle.hm_laws.proofs.Other.Mirrors.{who_keeps, keeps_device, device_is}
use Rattle.hm_history.proofs.Tests.{some_none, true_false}

-- who empties a page is alone in its process
not_emptied : (c : Program) (s : After) (t : Past) (a b p q : ℕ) → Sound c s t → s.locks.map b ≡ lock_on p false → p ≡ q → s.locks.map a ≡ lock_on q true → ⊥
not_emptied c s t a b p q so h e k = true_false true refl (ap writes_in (sym k ∙ ap s.locks.map (so.locks.one_writer q a b false k (h ∙ ap (λ i. lock_on i false) e)) ∙ h))
  where
    writes_in : Option MapLock → Bool
    writes_in None = false
    writes_in (Some l) = l.writes

-- a page under way stays so
pub moving_stays : (c : Program) (s : After) (t : Past) (a b p v : ℕ) (f : Frame) → Sound c s t → s.locks.map b ≡ lock_on p false → (k : Kind) → Allowed c s t a k → Spares s a b k f → s.locks.frame f ≡ Some b → moving_frame (s.places.place p v) ≡ Some f → moving_frame ((next s a k).places.place p v) ≡ Some f
moving_stays c s t a b p v f so h (Kind.Place q u x) ok sp l m = by (placed_cases s.places.place q u x p v)
  where
    by : ((p ≡ q) × (v ≡ u) × (with_place s.places.place q u x p v ≡ x)) ⊎ (with_place s.places.place q u x p v ≡ s.places.place p v) → moving_frame (with_place s.places.place q u x p v) ≡ Some f
    by (inr e) = ap moving_frame e ∙ m
    by (inl e) = ap moving_frame e.2 ∙ at (ok.hand_over.finishes f was)
      where
        was : moving_frame (s.places.place q u) ≡ Some f
        was = ap moving_frame (sym (ap (λ i. s.places.place i v) e.0 ∙ ap (s.places.place q) e.1)) ∙ m

        at : (moving_frame x ≡ Some f) ⊎ ((s.locks.frame f ≡ Some a) ⊎ (is_empty_place x ≡ true)) → moving_frame x ≡ Some f
        at (inl i) = i
        at (inr (inl i)) = absurd (not_mine s a b (Kind.Place q u x) f sp (λ j. j.0 (moving_names (s.places.place q u) f was).0) l i)
        at (inr (inr i)) = absurd (not_emptied c s t a b p q so h e.0 (ok.process.empties i))
moving_stays c s t a b p v f so h k ok sp l m = m

-- a page in a device's memory
device_place : (x : Place) (g : Frame) → names_directly x ≡ Some g → of_system g ≡ false → (d : ℕ) × (n : ℕ) × (w : Bool) × (x ≡ Place.Own d n w) × (dev_frame d n ≡ g)
device_place Place.Empty g n d = cc
device_place Place.Zero g n d = cc
device_place (Place.Sys i w) g n d = absurd (true_false (of_system g) (ap of_system (sym (same_Some (sys_frame i) g n))) d)
device_place (Place.Own e i w) g n d = (e, i, w, refl, same_Some (dev_frame e i) g n)
device_place (Place.Moving f w) g n d = cc
device_place (Place.Exclusive i b) g n d = absurd (true_false (of_system g) (ap of_system (sym (same_Some (sys_frame i) g n))) d)

owned_direct : (d n : ℕ) (x : Place) → Owned d n x → names_directly x ≡ Some (dev_frame d n)
owned_direct d n Place.Empty h = absurd h
owned_direct d n Place.Zero h = absurd h
owned_direct d n (Place.Sys i w) h = absurd h
owned_direct d n (Place.Own e i w) h = ap Some (sym (ap (λ j. dev_frame j n) h.0 ∙ ap (dev_frame e) h.1))
owned_direct d n (Place.Moving f w) h = absurd h
owned_direct d n (Place.Exclusive i b) h = absurd h

pub own_stays : (c : Program) (s : After) (t : Past) (a b p v : ℕ) (g : Frame) → Sound c s t → s.locks.map b ≡ lock_on p false → (k : Kind) → Allowed c s t a k → Spares s a b k g → s.locks.frame g ≡ Some b → of_system g ≡ false → names_directly (s.places.place p v) ≡ Some g → names_directly ((next s a k).places.place p v) ≡ Some g
own_stays c s t a b p v g so h (Kind.Place q u x) ok sp l d m = by (placed_cases s.places.place q u x p v)
  where
    by : ((p ≡ q) × (v ≡ u) × (with_place s.places.place q u x p v ≡ x)) ⊎ (with_place s.places.place q u x p v ≡ s.places.place p v) → names_directly (with_place s.places.place q u x p v) ≡ Some g
    by (inr e) = ap names_directly e ∙ m
    by (inl e) = ap names_directly e.2 ∙ at (device_place (s.places.place q u) g was d)
      where
        was : names_directly (s.places.place q u) ≡ Some g
        was = ap names_directly (sym (ap (λ i. s.places.place i v) e.0 ∙ ap (s.places.place q) e.1)) ∙ m

        at : (i : ℕ) × (n : ℕ) × (w : Bool) × (s.places.place q u ≡ Place.Own i n w) × (dev_frame i n ≡ g) → names_directly x ≡ Some g
        at z = from (ok.hand_over.owned z.0 z.1 z.2 z.3)
          where
            from : (Owned z.0 z.1 x) ⊎ ((s.locks.frame (dev_frame z.0 z.1) ≡ None) ⊎ ((s.locks.frame (dev_frame z.0 z.1) ≡ Some a) ⊎ (is_empty_place x ≡ true))) → names_directly x ≡ Some g
            from (inl i) = owned_direct z.0 z.1 x i ∙ ap Some z.4
            from (inr (inl i)) = absurd (some_none (s.locks.frame g) b l (ap s.locks.frame (sym z.4) ∙ i))
            from (inr (inr (inl i))) = absurd (not_mine s a b (Kind.Place q u x) g sp (λ j. j.0 (direct_names (s.places.place q u) g was).0) l (ap s.locks.frame (sym z.4) ∙ i))
            from (inr (inr (inr i))) = absurd (not_emptied c s t a b p q so h e.0 (ok.process.empties i))
own_stays c s t a b p v g so h k ok sp l d m = m

-- a page that was touched
pub touched_stays : (c : Program) (s : After) (t : Past) (a b p v : ℕ) → Sound c s t → s.locks.map b ≡ lock_on p false → (k : Kind) → Allowed c s t a k → has_no_frame (s.places.place p v) ≡ false → has_no_frame ((next s a k).places.place p v) ≡ false
touched_stays c s t a b p v so h (Kind.Place q u x) ok m = by (placed_cases s.places.place q u x p v)
  where
    by : ((p ≡ q) × (v ≡ u) × (with_place s.places.place q u x p v ≡ x)) ⊎ (with_place s.places.place q u x p v ≡ s.places.place p v) → has_no_frame (with_place s.places.place q u x p v) ≡ false
    by (inr e) = ap has_no_frame e ∙ m
    by (inl e) = ap has_no_frame e.2 ∙ at (has_no_frame x) refl
      where
        was : has_no_frame (s.places.place q u) ≡ false
        was = ap has_no_frame (sym (ap (λ i. s.places.place i v) e.0 ∙ ap (s.places.place q) e.1)) ∙ m

        clash : (has_no_frame (s.places.place q u) ≡ true) ⊎ (is_empty_place x ≡ true) → ⊥
        clash (inl i) = true_false (has_no_frame (s.places.place q u)) i was
        clash (inr i) = not_emptied c s t a b p q so h e.0 (ok.process.empties i)

        at : (y : Bool) → has_no_frame x ≡ y → y ≡ false
        at true i = absurd (clash (ok.hand_over.touched i))
        at false i = refl
touched_stays c s t a b p v so h k ok m = m

-- so with what the actor knows of them, if the entry leaves it the process
abbrev pub KeepsReading : After → ℕ → ℕ → Kind → Type 0
KeepsReading s a b k = (p : ℕ) → ReadsThere s b p → ReadsThere (next s a k) b p

pub frozen_at_on : (c : Program) (s : After) (t : Past) (a b : ℕ) → Sound c s t → (k : Kind) → Allowed c s t a k → KeepsReading s a b k → (x : Who) (v : ℕ) (f : Frame) → Spares s a b k f → Holds s t b (Frozen_at x v f) → Holds (next s a k) (past_next t s.length a k) b (Frozen_at x v f)
frozen_at_on c s t a b so k ok keeps x v f sp h = let w : HasProc (next s a k).plain x × (proc_of (next s a k).plain x ≡ proc_of s.plain x) = who_keeps c s t a k ok x h.0 in (
  w.0,
  subst (ReadsThere (next s a k) b) (sym w.1) (keeps (proc_of s.plain x) h.1),
  lock_keeps c s t a b so k ok f sp h.2,
  ap (λ p. moving_frame ((next s a k).places.place p v)) w.1 ∙ moving_stays c s t a b (proc_of s.plain x) v f so h.1.0 k ok sp h.2 h.3,
)

pub own_at_on : (c : Program) (s : After) (t : Past) (a b : ℕ) → Sound c s t → (k : Kind) → Allowed c s t a k → KeepsReading s a b k → (x : Who) (v : ℕ) (g : Frame) → Spares s a b k g → Holds s t b (Own_at x v g) → Holds (next s a k) (past_next t s.length a k) b (Own_at x v g)
own_at_on c s t a b so k ok keeps x v g sp h = let w : HasProc (next s a k).plain x × (proc_of (next s a k).plain x ≡ proc_of s.plain x) = who_keeps c s t a k ok x h.0 in (
  w.0,
  subst (ReadsThere (next s a k) b) (sym w.1) (keeps (proc_of s.plain x) h.1),
  lock_keeps c s t a b so k ok g sp h.2,
  h.3,
  ap (λ p. names_directly ((next s a k).places.place p v)) w.1 ∙ own_stays c s t a b (proc_of s.plain x) v g so h.1.0 k ok sp h.2 h.3 h.4,
)

pub touched_on : (c : Program) (s : After) (t : Past) (a b : ℕ) → Sound c s t → (k : Kind) → Allowed c s t a k → KeepsReading s a b k → (x : Who) (v : ℕ) → Holds s t b (Framed x v) → Holds (next s a k) (past_next t s.length a k) b (Framed x v)
touched_on c s t a b so k ok keeps x v h = let w : HasProc (next s a k).plain x × (proc_of (next s a k).plain x ≡ proc_of s.plain x) = who_keeps c s t a k ok x h.0 in (
  w.0,
  subst (ReadsThere (next s a k) b) (sym w.1) (keeps (proc_of s.plain x) h.1),
  ap (λ p. has_no_frame ((next s a k).places.place p v)) w.1 ∙ touched_stays c s t a b (proc_of s.plain x) v so h.1.0 k ok h.2,
)

-- the pool of a migration's frames is its mirror's device, which that keeps
same_pool_of : (r s : After) (o : Op) → mirror_dev s.plain (op_mirror o) ≡ mirror_dev r.plain (op_mirror o) → pool_of s o ≡ pool_of r o
same_pool_of r s o e = by (is_to_device o)
  where
    by : (b : Bool) → ◌≡◌ {A = PoolId} (elim b [ true ↦ PoolId.Device (mirror_dev s.plain (op_mirror o)) | false ↦ PoolId.System ]) (elim b [ true ↦ PoolId.Device (mirror_dev r.plain (op_mirror o)) | false ↦ PoolId.System ])
    by true = ap PoolId.Device e
    by false = refl

pub lands_on : (c : Program) (s : After) (t : Past) (a b : ℕ) (k : Kind) → Allowed c s t a k → (o : Op) (g : Frame) → Holds s t b (Lands_on o g) → Holds (next s a k) (past_next t s.length a k) b (Lands_on o g)
lands_on c s t a b k ok o g h = ((who_keeps c s t a k ok (Who.Mirror (op_mirror o)) h.0).0, h.1 ∙ sym (same_pool_of s (next s a k) o (device_is (next s a k) (op_mirror o) ∙ keeps_device c s t a k ok (op_mirror o) h.0 ∙ sym (device_is s (op_mirror o)))))
