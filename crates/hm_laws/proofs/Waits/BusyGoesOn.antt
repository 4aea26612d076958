-- Who is busy never waits, and who has an mmap lock waits only for somebody who is busy.
use Rattle.std.proofs.Common.{◌≡◌, ℕ, inl, inr, Bool, true, false, ◌==◌, ◌&&◌, ◌||◌, not, is_none, Some, None, List, [], ◌∷◌, refl, sym}
use Rattle.std.specs.List.{list_any}
use Rattle.hm_base.specs.Pages.{Pages, one_page}
use Rattle.hm_base.specs.declared.cause.Cause.{Cause}
use Rattle.hm_base.specs.Program.{Program}
use Rattle.hm_base.specs.declared.PoolId.{PoolId}
use Rattle.hm_base.specs.declared.Frame.{Frame}
use Rattle.hm_base.specs.declared.Place.{Place}
use Rattle.hm_base.specs.declared.ops.Op.{Op}
use Rattle.hm_history.specs.Memory.Words.{page_of, sys_frame, dev_frame, names, same_place}
use Rattle.hm_history.specs.Memory.After.{After}
use Rattle.hm_history.specs.declared.Kind.{Kind}
use Rattle.hm_history.specs.declared.phases.Migrating.{Migrating}
use Rattle.hm_history.specs.declared.phases.Touch.{Touch}
use Rattle.hm_history.specs.declared.phases.Phase.{Phase}
use Rattle.hm_history.specs.Kernel.Operation.{op_piece, op_mirror, op_writes}
use Rattle.hm_history.specs.Memory.Plain.{rights_of, is_read_only, is_attached, in_window, mirror_proc, mirror_dev}
use Rattle.hm_history.specs.Memory.Places.{lowest_free, lowest_named, held_from}
use Rattle.hm_history.specs.Memory.Locks.{other_locker}
use Rattle.hm_history.specs.Kernel.Going.{touch_page, touch_proc}
use Rattle.hm_history.specs.Kernel.Due.{is_invalidating, is_usable, has_exclusive, fails, repeats, is_used_once, suits, suits_walk, take_or, fault_at, fault, due_cpu, begin_look_up, due_mirror, due_add, due_fetched, due_piece, due_sole, due_decide, frame_at, due_frames_of, due_frames, under_wlock, in_window_rlock, due_begin, due_phase}
use Rattle.hm_laws.specs.Past.{Past}
use Rattle.hm_laws.specs.Sound.{Sound}
use Rattle.hm_laws.specs.Facts.{Fact, No_map_lock, No_guard, Locks_only, Never, Leaving, Holds, HoldsAll, facts, nothing_held}
use Rattle.hm_laws.proofs.Due.Good.{either, either_option}
use Rattle.hm_laws.proofs.Waits.WaitsFor.{IsBusy, HasMapLock, NoWait, ForBusy, ForHolder, no_wait_busy, busy_holder, invalidating_for, detaching_for, moving_for, locker_busy, rlock_for, wlock_for}
use Rattle.hm_history.proofs.Tests.{no_test}

-- faults: no mmap lock is waited for
take_for : (c : Program) (s : After) (k : Kind) → ForBusy s (take_or c s k)
take_for c s k = either_option (ForBusy s) (lowest_free c s.places PoolId.System) _ _ (λ i. tt) (λ g i. tt)

fault_at_for : (c : Program) (s : After) (t : Past) (a : ℕ) (o : Op) (k p v : ℕ) (x : Place) → Sound c s t → s.places.place p v ≡ x → ForBusy s (fault_at c s a o k p v x)
fault_at_for c s t a o k p v (Place.Moving f w) so e = moving_for c s t p v f w so e
fault_at_for c s t a o k p v (Place.Own d n w) so e = either_option (ForBusy s) (other_locker s.locks (dev_frame d n) a) _ _ (λ i. tt) (λ b i. (b, locker_busy s (dev_frame d n) a b i))
fault_at_for c s t a o k p v (Place.Exclusive n b) so e = tt
fault_at_for c s t a o k p v Place.Empty so e = either (ForBusy s) (op_writes o) _ _ (λ i. take_for c s (fails o k Cause.NoFrame)) (λ i. tt)
fault_at_for c s t a o k p v Place.Zero so e = take_for c s (fails o k Cause.NoFrame)
fault_at_for c s t a o k p v (Place.Sys n w) so e = either (ForBusy s) (is_used_once s (sys_frame n)) _ _ (λ i. tt) (λ i. take_for c s (fails o k Cause.NoFrame))

fault_for : (c : Program) (s : After) (t : Past) (a : ℕ) (o : Op) (k : ℕ) (suited : Place → Bool) (p v : ℕ) → Sound c s t → ForBusy s (fault c s a o k suited p v)
fault_for c s t a o k suited p v so =
    either (ForBusy s) (is_none (rights_of s.plain p v)) _ _ (λ i. tt)
    (λ i. either (ForBusy s) (op_writes o && is_read_only (rights_of s.plain p v)) _ _ (λ j. tt)
    (λ j. either (ForBusy s) (suited (s.places.place p v)) _ _ (λ l. tt) (λ l. fault_at_for c s t a o k p v (s.places.place p v) so refl)))

sole_for : (c : Program) (s : After) (t : Past) (a : ℕ) (o : Op) (m p v : ℕ) (x : Place) → Sound c s t → ForBusy s (due_sole c s a o m p v x)
sole_for c s t a o m p v (Place.Exclusive n b) so = either (ForBusy s) (a == b) _ _ (λ i. either (ForBusy s) (is_invalidating s m) _ _ (λ j. invalidating_for c s t m so j) (λ j. tt)) (λ i. fault_for c s t a o 0 (suits true) p v so)
sole_for c s t a o m p v (Place.Sys n true) so = tt
sole_for c s t a o m p v x so = fault_for c s t a o 0 (suits true) p v so

decide_for : (c : Program) (s : After) (t : Past) (a : ℕ) (o : Op) (touch : Touch) (p v : ℕ) → Sound c s t → ForBusy s (due_decide c s a o touch p v)
decide_for c s t a o (Touch.Cpu k) p v so = fault_for c s t a o k (suits (op_writes o)) p v so
decide_for c s t a o (Touch.Walk k i q) p v so = either (ForBusy s) (repeats s (op_mirror o) q) _ _ (λ e. tt) (λ e. fault_for c s t a o k (suits_walk (mirror_dev s.plain (op_mirror o)) (op_writes o)) p v so)
decide_for c s t a o Touch.Sole p v so = either (ForBusy s) (is_attached s.plain (op_mirror o)) _ _ (λ e. sole_for c s t a o (op_mirror o) p v (s.places.place p v) so) (λ e. tt)

-- evictions and removals
frame_for : (s : After) (a : ℕ) (remove : Bool) (f : Frame) → ForBusy s (frame_at s a remove f)
frame_for s a remove f = either_option (ForBusy s) (other_locker s.locks f a) _ _ (λ e. either_option (ForBusy s) (lowest_named s.places f) _ _ (λ i. tt) (λ x i. tt)) (λ b e. either (ForBusy s) remove _ _ (λ i. (b, locker_busy s f a b e)) (λ i. tt))

frames_of_for : (c : Program) (s : After) (a d : ℕ) (remove : Bool) (v n : ℕ) → ForBusy s (due_frames_of c s a d remove v n)
frames_of_for c s a d remove v n = either (ForBusy s) (remove && not (s.places.withdrawn d)) _ _ (λ e. tt) (λ e. either_option (ForBusy s) (held_from c s.places d v) _ _ (λ i. tt) (λ k i. frame_for s a remove (dev_frame d k)))

frames_for : (c : Program) (s : After) (a : ℕ) (o : Op) (v n : ℕ) → ForBusy s (due_frames c s a o v n)
frames_for c s a (Op.Evict d) v n = frames_of_for c s a d false v n
frames_for c s a (Op.Remove d) v n = frames_of_for c s a d true v n
frames_for c s a o v n = tt

-- the first turns, and accesses that begin
under_wlock_for : (s : After) (a p : ℕ) → ForHolder s (under_wlock s a p)
under_wlock_for s a p = either (ForHolder s) (s.plain.there p) _ _ (λ e. wlock_for s p a) (λ e. tt)

in_window_for : (s : After) (m : ℕ) (r : Pages) → ForHolder s (in_window_rlock s m r)
in_window_for s m r = either (ForHolder s) (in_window s.plain m r) _ _ (λ e. rlock_for s (mirror_proc s.plain m)) (λ e. tt)

begin_for : (s : After) (a : ℕ) (o : Op) → ForHolder s (due_begin s a o)
begin_for s a (Op.Map p r w) = under_wlock_for s a p
begin_for s a (Op.Unmap p r) = under_wlock_for s a p
begin_for s a (Op.Protect p r w) = under_wlock_for s a p
begin_for s a (Op.Exit p) = under_wlock_for s a p
begin_for s a (Op.Fork p d) = under_wlock_for s a p
begin_for s a (Op.Snap m r) = in_window_for s m r
begin_for s a (Op.ToDevice m r) = in_window_for s m r
begin_for s a (Op.ToSystem m r) = in_window_for s m r
begin_for s a (Op.Exclusive m v) = in_window_for s m (one_page v)
begin_for s a o = tt

cpu_for : (s : After) (o : Op) (k p : ℕ) → ForHolder s (due_cpu s o k p)
cpu_for s o k p = either (ForHolder s) (s.plain.there p) _ _ (λ e. either (ForHolder s) (suits (op_writes o) (s.places.place p (page_of (op_piece o k).0))) _ _ (λ i. tt) (λ i. rlock_for s p)) (λ e. tt)

begins_for : (c : Program) (s : After) (t : Past) (m : ℕ) → Sound c s t → ForBusy s (begin_look_up s m)
begins_for c s t m so = either (ForBusy s) (is_invalidating s m) _ _ (λ e. invalidating_for c s t m so e) (λ e. tt)

mirror_for : (c : Program) (s : After) (t : Past) (o : Op) (k m : ℕ) → Sound c s t → ForHolder s (due_mirror s o k m)
mirror_for c s t o k m so = let v : ℕ = page_of (op_piece o k).0 in
    either (ForHolder s) (in_window s.plain m (one_page v)) _ _ (λ e. either (ForHolder s) (is_usable (op_writes o) (s.places.table m v)) _ _ (λ i. tt) (λ i. busy_holder s (begin_look_up s m) (begins_for c s t m so))) (λ e. tt)

add_for : (s : After) (a : ℕ) (o : Op) (m at : ℕ) → ForHolder s (due_add s a o m at)
add_for s a o m at = either (ForHolder s) (in_window s.plain m (one_page (page_of at))) _ _ (λ e. either (ForHolder s) (has_exclusive s a m (page_of at)) _ _ (λ i. tt) (λ i. rlock_for s (mirror_proc s.plain m))) (λ e. tt)

piece_for : (c : Program) (s : After) (t : Past) (a : ℕ) (o : Op) (k : ℕ) → Sound c s t → ForHolder s (due_piece s a o k)
piece_for c s t a (Op.Add m at n) k so = add_for s a (Op.Add m at n) m at
piece_for c s t a (Op.DeviceLoad m at n) k so = mirror_for c s t (Op.DeviceLoad m at n) k m so
piece_for c s t a (Op.DeviceStore m at bs) k so = mirror_for c s t (Op.DeviceStore m at bs) k m so
piece_for c s t a (Op.Load p at n) k so = cpu_for s (Op.Load p at n) k p
piece_for c s t a (Op.Store p at bs) k so = cpu_for s (Op.Store p at bs) k p
piece_for c s t a o k so = tt

fetched_for : (s : After) (a : ℕ) (o : Op) (old : ℕ) → ForHolder s (due_fetched s a o old)
fetched_for s a (Op.Add m at n) old = either (ForHolder s) (has_exclusive s a m (page_of at)) _ _ (λ e. tt) (λ e. add_for s a (Op.Add m at n) m at)
fetched_for s a o old = tt

-- the phases that may wait, and those that may wait for an mmap lock
abbrev pub may_wait : Phase → Bool
may_wait Phase.Begin = true
may_wait (Phase.Detaching q) = true
may_wait (Phase.Piece k) = true
may_wait (Phase.Fetched old) = true
may_wait (Phase.Begun k at q) = true
may_wait (Phase.Decide touch) = true
may_wait (Phase.Frames v n) = true
may_wait top = false

abbrev may_lock : Phase → Bool
may_lock Phase.Begin = true
may_lock (Phase.Piece k) = true
may_lock (Phase.Fetched old) = true
may_lock (Phase.Begun k at q) = true
may_lock top = false

pub goes_at_once : (c : Program) (s : After) (a : ℕ) (o : Op) (xs : List Migrating) (top : Phase) → may_wait top ≡ false → NoWait (due_phase c s a o xs top)
goes_at_once c s a o xs Phase.Begin h = no_test (sym h)
goes_at_once c s a o xs (Phase.Detaching q) h = no_test (sym h)
goes_at_once c s a o xs (Phase.Piece k) h = no_test (sym h)
goes_at_once c s a o xs (Phase.Fetched old) h = no_test (sym h)
goes_at_once c s a o xs (Phase.Begun k at q) h = no_test (sym h)
goes_at_once c s a o xs (Phase.Decide touch) h = no_test (sym h)
goes_at_once c s a o xs (Phase.Frames v n) h = no_test (sym h)
goes_at_once c s a o xs (Phase.Noted k at q x) h = either NoWait (repeats s (op_mirror o) q) _ _ (λ e. tt) (λ e. tt)
goes_at_once c s a o xs (Phase.Taken touch g x) h = either NoWait (same_place (s.places.place (touch_proc s o) (touch_page o touch)) x) _ _ (λ e. either_option NoWait (names x) _ _ (λ i. tt) (λ f i. tt)) (λ e. tt)
goes_at_once c s a o xs top h = tt

-- what the facts of a stack say of locks and guards, wherever they stand in the list
abbrev pub is_no_guard : Fact → Bool
is_no_guard No_guard = true
is_no_guard Never = true
is_no_guard x = false

abbrev pub is_no_frame : Fact → Bool
is_no_frame (Locks_only []) = true
is_no_frame Never = true
is_no_frame x = false

abbrev is_no_map_lock : Fact → Bool
is_no_map_lock No_map_lock = true
is_no_map_lock Never = true
is_no_map_lock x = false

pub one_says : (s : After) (t : Past) (a : ℕ) (test : Fact → Bool) (P : Type 0) → ((x : Fact) → test x ≡ true → Holds s t a x → P) → (l : List Fact) → list_any test l ≡ true → HoldsAll s t a l → P
one_says s t a test P each [] e h = cc
one_says s t a test P each (x ∷ l) e h = by (one_says s t a test P each l) (test x) refl e
  where
    by : (list_any test l ≡ true → HoldsAll s t a l → P) → (b : Bool) → test x ≡ b → (b || list_any test l) ≡ true → P
    by rest true i k = each x i h.0
    by rest false i k = rest k h.1

guard_says : (s : After) (t : Past) (a : ℕ) (x : Fact) → is_no_guard x ≡ true → Holds s t a x → s.sequences.guard a ≡ None
guard_says s t a No_guard e h = h
guard_says s t a Never e h = absurd h
guard_says s t a x e h = no_test e

frame_says : (s : After) (t : Past) (a : ℕ) (x : Fact) → is_no_frame x ≡ true → Holds s t a x → (f : Frame) → s.locks.frame f ≡ Some a → ⊥
frame_says s t a (Locks_only []) e h f l = no_test (h f l)
frame_says s t a Never e h f l = absurd h
frame_says s t a x e h f l = no_test e

map_lock_says : (s : After) (t : Past) (a : ℕ) (x : Fact) → is_no_map_lock x ≡ true → Holds s t a x → s.locks.map a ≡ None
map_lock_says s t a No_map_lock e h = h
map_lock_says s t a Never e h = absurd h
map_lock_says s t a x e h = no_test e

abbrev pub SaysFree : List Fact → Type 0
SaysFree l = (list_any is_no_guard l ≡ true) × (list_any is_no_frame l ≡ true)

pub not_busy : (s : After) (t : Past) (a : ℕ) (l : List Fact) → SaysFree l → HoldsAll s t a l → IsBusy s a → ⊥
not_busy s t a l e h (inl g) = g (one_says s t a is_no_guard _ (guard_says s t a) l e.0 h)
not_busy s t a l e h (inr f) = one_says s t a is_no_frame _ (frame_says s t a) l e.1 h f.0 f.1

no_map_lock : (s : After) (t : Past) (a : ℕ) (l : List Fact) → list_any is_no_map_lock l ≡ true → HoldsAll s t a l → HasMapLock s a → ⊥
no_map_lock s t a l e h m = m (one_says s t a is_no_map_lock _ (map_lock_says s t a) l e h)

-- who may wait is not busy, and who may wait for an mmap lock has none
pub waits_free : (o : Op) (xs : List Migrating) (top : Phase) (below : List Phase) → may_wait top ≡ true → SaysFree (facts o xs (top ∷ below))
waits_free o xs Phase.Begin [] h = (refl, refl)
waits_free o xs Phase.Begin (y ∷ ys) h = (refl, refl)
waits_free o xs (Phase.Detaching q) [] h = (refl, refl)
waits_free o xs (Phase.Detaching q) (y ∷ ys) h = (refl, refl)
waits_free o xs (Phase.Piece k) [] h = (refl, refl)
waits_free o xs (Phase.Piece k) (y ∷ ys) h = (refl, refl)
waits_free o xs (Phase.Fetched old) [] h = (refl, refl)
waits_free o xs (Phase.Fetched old) (y ∷ ys) h = (refl, refl)
waits_free o xs (Phase.Begun k at q) [] h = (refl, refl)
waits_free o xs (Phase.Begun k at q) (y ∷ ys) h = (refl, refl)
waits_free o xs (Phase.Decide touch) [] h = (refl, refl)
waits_free o xs (Phase.Decide touch) (y ∷ ys) h = (refl, refl)
waits_free o xs (Phase.Frames v n) [] h = (refl, refl)
waits_free o xs (Phase.Frames v n) (y ∷ ys) h = (refl, refl)
waits_free o xs top below h = no_test h

locks_free : (o : Op) (xs : List Migrating) (top : Phase) (below : List Phase) → may_lock top ≡ true → list_any is_no_map_lock (facts o xs (top ∷ below)) ≡ true
locks_free o xs Phase.Begin [] h = refl
locks_free o xs Phase.Begin (y ∷ ys) h = refl
locks_free o xs (Phase.Piece k) [] h = refl
locks_free o xs (Phase.Piece k) (y ∷ ys) h = refl
locks_free o xs (Phase.Fetched old) [] h = refl
locks_free o xs (Phase.Fetched old) (y ∷ ys) h = refl
locks_free o xs (Phase.Begun k at q) [] h = refl
locks_free o xs (Phase.Begun k at q) (y ∷ ys) h = refl
locks_free o xs top below h = no_test h

detach_says : (c : Program) (s : After) (t : Past) (a : ℕ) (o : Op) (xs : List Migrating) (q : ℕ) (below : List Phase) → HoldsAll s t a (facts o xs (Phase.Detaching q ∷ below)) → Holds s t a (Leaving (op_mirror o))
detach_says c s t a o xs q [] h = h.1.0
detach_says c s t a o xs q (y ∷ ys) h = absurd h.0

-- what is due at a phase that waits for no mmap lock, and at any phase
waits_for_busy : (c : Program) (s : After) (t : Past) (a : ℕ) (o : Op) (xs : List Migrating) (top : Phase) (below : List Phase) → Sound c s t → HoldsAll s t a (facts o xs (top ∷ below)) → may_lock top ≡ false → ForBusy s (due_phase c s a o xs top)
waits_for_busy c s t a o xs (Phase.Detaching q) below so h e = detaching_for c s t a (op_mirror o) q so (detach_says c s t a o xs q below h)
waits_for_busy c s t a o xs (Phase.Decide touch) below so h e = decide_for c s t a o touch (touch_proc s o) (touch_page o touch) so
waits_for_busy c s t a o xs (Phase.Frames v n) below so h e = frames_for c s a o v n
waits_for_busy c s t a o xs top below so h e = no_wait_busy s (due_phase c s a o xs top) (goes_at_once c s a o xs top e)

pub waits_for_holder : (c : Program) (s : After) (t : Past) (a : ℕ) (o : Op) (xs : List Migrating) (top : Phase) (below : List Phase) → Sound c s t → HoldsAll s t a (facts o xs (top ∷ below)) → ForHolder s (due_phase c s a o xs top)
waits_for_holder c s t a o xs Phase.Begin below so h = begin_for s a o
waits_for_holder c s t a o xs (Phase.Piece k) below so h = piece_for c s t a o k so
waits_for_holder c s t a o xs (Phase.Fetched old) below so h = fetched_for s a o old
waits_for_holder c s t a o xs (Phase.Begun k at q) below so h = rlock_for s (mirror_proc s.plain (op_mirror o))
waits_for_holder c s t a o xs top below so h = busy_holder s (due_phase c s a o xs top) (waits_for_busy c s t a o xs top below so h refl)

-- who is busy goes on at once, and who has an mmap lock waits at most for one of those
pub busy_goes : (c : Program) (s : After) (t : Past) (a : ℕ) (o : Op) (xs : List Migrating) (top : Phase) (below : List Phase) → HoldsAll s t a (facts o xs (top ∷ below)) → IsBusy s a → NoWait (due_phase c s a o xs top)
busy_goes c s t a o xs top below h e = by (may_wait top) refl
  where
    by : (b : Bool) → may_wait top ≡ b → NoWait (due_phase c s a o xs top)
    by true i = absurd (not_busy s t a (facts o xs (top ∷ below)) (waits_free o xs top below i) h e)
    by false i = goes_at_once c s a o xs top i

pub locker_goes : (c : Program) (s : After) (t : Past) (a : ℕ) (o : Op) (xs : List Migrating) (top : Phase) (below : List Phase) → Sound c s t → HoldsAll s t a (facts o xs (top ∷ below)) → HasMapLock s a → ForBusy s (due_phase c s a o xs top)
locker_goes c s t a o xs top below so h e = by (may_lock top) refl
  where
    by : (b : Bool) → may_lock top ≡ b → ForBusy s (due_phase c s a o xs top)
    by true i = absurd (no_map_lock s t a (facts o xs (top ∷ below)) (locks_free o xs top below i) h e)
    by false i = waits_for_busy c s t a o xs top below so h i

-- between operations an actor is neither
pub idle_busy : (s : After) (t : Past) (a : ℕ) → HoldsAll s t a nothing_held → IsBusy s a → ⊥
idle_busy s t a h e = not_busy s t a nothing_held (refl, refl) h e

pub idle_lock : (s : After) (t : Past) (a : ℕ) → HoldsAll s t a nothing_held → HasMapLock s a → ⊥
idle_lock s t a h e = e h.0
