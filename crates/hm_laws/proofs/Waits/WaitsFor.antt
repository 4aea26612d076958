-- What each wait waits for: an actor with an invalidation under way or a locked frame, or with an mmap lock.
use Rattle.std.proofs.Common.{◌≡◌, ℕ, zero, suc, ◌+◌, ◌<◌, ◌≤◌, ◌⊎◌, inl, inr, Bool, true, false, ◌==◌, ◌&&◌, not, is_some, if◌then◌else◌, Option, Some, None, refl, ap, subst, arith}
use Rattle.std.specs.Prelude.{⊤}
use Rattle.std.proofs.lemmas.Bool.Decides.{nat_tests}
use Rattle.std.proofs.lemmas.Bool.{and_parts, eqb-true}
use Rattle.hm_base.specs.Program.{Program}
use Rattle.hm_base.specs.declared.Frame.{Frame}
use Rattle.hm_base.specs.declared.Place.{Place}
use Rattle.hm_history.specs.Memory.Words.{moving_frame}
use Rattle.hm_history.specs.Memory.Plain.{Attachment, Attached, Detaching, Gone, MirrorState, is_detaching_state, mirror_passes}
use Rattle.hm_history.specs.Memory.Sequences.{Interval, Guarded, Stage, InTree, InsertDeferred, RemoveDeferred, Removed, Out, is_odd, in_tree, in_tree_state, interval_passes}
use Rattle.hm_history.specs.Memory.Locks.{lock_passes, writer, lowest_other, other_locker}
use Rattle.hm_history.specs.Memory.After.{After}
use Rattle.hm_history.specs.declared.locks.MapLock.{MapLock}
use Rattle.hm_history.specs.declared.Why.{Why}
use Rattle.hm_history.specs.declared.phases.Next.{Next}
use Rattle.hm_history.specs.declared.phases.Next.TheVariants.{Do, Wait}
use Rattle.hm_history.specs.Kernel.Due.{rlock, wlock, is_invalidating, process_seq, invalidating, due_detaching}
use Rattle.hm_laws.specs.Past.{Past}
use Rattle.hm_laws.specs.Sound.{Paired, Sound, stands_so, is_leaving, guards, count_guards}
use Rattle.hm_laws.specs.Facts.{Leaving, Holds}
use Rattle.hm_laws.proofs.State.Search.{least_some}
use Rattle.hm_laws.proofs.Due.Good.{either, either_option}

-- an actor has an invalidation under way, or a frame locked
abbrev pub IsBusy : After → ℕ → Type 0
IsBusy s b = (s.sequences.guard b ≡ None → ⊥) ⊎ ((f : Frame) × (s.locks.frame f ≡ Some b))

abbrev pub HasMapLock : After → ℕ → Type 0
HasMapLock s b = s.locks.map b ≡ None → ⊥

-- what is due is an entry; if it is a wait, somebody is busy; if it is a wait, somebody is busy or has an mmap lock
abbrev pub NoWait : Next → Type 0
NoWait (Do k) = ⊤
NoWait (Wait y) = ⊥

abbrev pub ForBusy : After → Next → Type 0
ForBusy s (Do k) = ⊤
ForBusy s (Wait y) = (b : ℕ) × IsBusy s b

abbrev pub ForHolder : After → Next → Type 0
ForHolder s (Do k) = ⊤
ForHolder s (Wait y) = (b : ℕ) × (IsBusy s b ⊎ HasMapLock s b)

pub no_wait_busy : (s : After) (n : Next) → NoWait n → ForBusy s n
no_wait_busy s (Do k) h = tt
no_wait_busy s (Wait y) h = absurd h

pub busy_holder : (s : After) (n : Next) → ForBusy s n → ForHolder s n
busy_holder s (Do k) h = tt
busy_holder s (Wait y) h = (h.0, inl h.1)

-- an odd sequence: somebody invalidates
counted_guard : (guard : ℕ → Option Guarded) (p n : ℕ) → 0 < count_guards guard p n → (b : ℕ) × (guard b ≡ None → ⊥)
counted_guard guard p zero h = absurd (omega (arith, h))
counted_guard guard p (suc n) h = by (counted_guard guard p n) (guard n) refl h
  where
    some : (x : Option Guarded) (g : Guarded) → x ≡ Some g → x ≡ None → ⊥
    some x g e k = cc

    by : (0 < count_guards guard p n → (b : ℕ) × (guard b ≡ None → ⊥)) → (x : Option Guarded) → guard n ≡ x → 0 < count_guards guard p n + (if guards x p then 1 else 0) → (b : ℕ) × (guard b ≡ None → ⊥)
    by below None e h = below (omega (arith, h))
    by below (Some g) e h = (n, some (guard n) g e)

pub odd_busy : (c : Program) (s : After) (t : Past) (p : ℕ) → Sound c s t → is_odd (s.sequences.seq p) ≡ true → (b : ℕ) × IsBusy s b
odd_busy c s t p so h = let g : (b : ℕ) × (s.sequences.guard b ≡ None → ⊥) = counted_guard s.sequences.guard p 16 (subst (λ n. 0 < n) (so.sequences.counted p) (so.sequences.odd_active p h)) in (g.0, inl g.1)

-- an interval that has its process's sequence: that is odd
seq_is_odd : (c : Program) (s : After) (t : Past) (m : ℕ) → Sound c s t → is_invalidating s m ≡ true → is_odd (process_seq s m) ≡ true
seq_is_odd c s t m so h = by (s.sequences.interval m) refl h
  where
    none : 2 ≤ process_seq s m → (0 == process_seq s m) ≡ true → ⊥
    none l e = grind (arith, nat_tests)

    by : (x : Option Interval) → s.sequences.interval m ≡ x → (elim x as (λ y. ℕ) [ None ↦ 0 | Some y ↦ y.seq ] == process_seq s m) ≡ true → is_odd (process_seq s m) ≡ true
    by None e h = absurd (none (so.sequences.positive _) h)
    by (Some y) e h = subst (λ n. is_odd n ≡ true) (eqb-true y.seq (process_seq s m) h) (so.sequences.odd_seq m y e)

pub invalidating_for : (c : Program) (s : After) (t : Past) (m : ℕ) → Sound c s t → is_invalidating s m ≡ true → ForBusy s (invalidating s m)
invalidating_for c s t m so h = odd_busy c s t _ so (seq_is_odd c s t m so h)

-- a mirror that leaves, with its interval still in the tree
leaves : (y : Interval) → stands_so Detaching y.stage ≡ true → in_tree_state y.stage ≡ true → is_leaving y.stage ≡ true
leaves y h k = by y.stage h k
  where
    by : (z : Stage) → stands_so Detaching z ≡ true → in_tree_state z ≡ true → is_leaving z ≡ true
    by RemoveDeferred h k = refl
    by Removed h k = cc
    by InTree h k = cc
    by InsertDeferred h k = cc
    by Out h k = cc

pub detaching_for : (c : Program) (s : After) (t : Past) (a m q : ℕ) → Sound c s t → Holds s t a (Leaving m) → ForBusy s (due_detaching s m q)
detaching_for c s t a m q so h = either (ForBusy s) (in_tree s.sequences m) _ _ (λ e. by (s.plain.mirrors m) h.1 (s.sequences.interval m) refl (so.mirrors.paired m) e) (λ e. tt)
  where
    stage : (x : MirrorState) (y : Interval) → is_detaching_state x ≡ true → stands_so x.stage y.stage ≡ true → stands_so Detaching y.stage ≡ true
    stage x y d k = at x.stage d k
      where
        at : (z : Attachment) → is_detaching_state (record x { stage = z }) ≡ true → stands_so z y.stage ≡ true → stands_so Detaching y.stage ≡ true
        at Detaching d k = k
        at Attached d k = cc
        at Gone d k = cc

    by : (x : Option MirrorState) → mirror_passes is_detaching_state x ≡ true → (y : Option Interval) → s.sequences.interval m ≡ y → Paired x y (s.places.device m) → interval_passes (λ z. in_tree_state z.stage) y ≡ true → (b : ℕ) × IsBusy s b
    by (Some x) d (Some y) e p i = odd_busy c s t y.proc so (so.sequences.leaving m y e (leaves y (stage x y d p.stage) i))
    by (Some x) d None e p i = cc
    by None d y e p i = cc

-- a page under way, and a frame of somebody else: that frame is locked
pub moving_for : (c : Program) (s : After) (t : Past) (p v : ℕ) (f : Frame) (w : Bool) → Sound c s t → s.places.place p v ≡ Place.Moving f w → ForBusy s (Wait (Why.Moving p v))
moving_for c s t p v f w so e = by (s.locks.frame f) refl (so.frames.moving_locked p v f (ap moving_frame e))
  where
    by : (x : Option ℕ) → s.locks.frame f ≡ x → is_some x ≡ true → (b : ℕ) × IsBusy s b
    by None e h = cc
    by (Some b) e h = (b, inr (f, e))

pub locker_busy : (s : After) (f : Frame) (a b : ℕ) → other_locker s.locks f a ≡ Some b → IsBusy s b
locker_busy s f a b h = by (s.locks.frame f) refl h
  where
    by : (x : Option ℕ) → s.locks.frame f ≡ x → (elim x as (λ y. Option ℕ) [ None ↦ None | Some d ↦ if a == d then None else Some d ]) ≡ Some b → IsBusy s b
    by None e h = cc
    by (Some d) e h = at (a == d) h
      where
        at : (z : Bool) → (if z then None else Some d) ≡ Some b → IsBusy s b
        at true h = cc
        at false h = inr (f, grind arith)

-- mmap locks
lock_is : (test : MapLock → Bool) (x : Option MapLock) → lock_passes test x ≡ true → x ≡ None → ⊥
lock_is test x h e = grind arith

pub rlock_for : (s : After) (p : ℕ) → ForHolder s (rlock s p)
rlock_for s p = either_option (ForHolder s) (writer s.locks p) _ _ (λ e. tt) (λ b e. (b, inr (lock_is _ (s.locks.map b) (least_some (λ d. lock_passes (λ x. (x.proc == p) && x.writes) (s.locks.map d)) 0 16 b e))))

pub wlock_for : (s : After) (p a : ℕ) → ForHolder s (wlock s p a)
wlock_for s p a = either_option (ForHolder s) (lowest_other s.locks p a) _ _ (λ e. tt) (λ b e. (b, inr (lock_is _ (s.locks.map b) (and_parts _ _ (least_some (λ d. not (d == a) && lock_passes (λ x. x.proc == p) (s.locks.map d)) 0 16 b e)).1)))
