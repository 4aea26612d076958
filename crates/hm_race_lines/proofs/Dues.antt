-- What is due to an actor in an operation is no answer, or one that the operation may end with.
use Rattle.std.proofs.Common.{◌≡◌, ℕ, ◌+◌, ◌%◌, ◌≤◌, ◌⊎◌, inl, inr, IsTrue, Bool, true, false, not, ◌==◌, ◌||◌, ◌&&◌, if◌then◌else◌, is_none, is_some, nat_lt, Option, Some, None, List, [], ◌∷◌, length, refl, sym, ap, ◌∙◌, subst, arith}
use Rattle.std.specs.Prelude.{⊤}
use Rattle.std.proofs.lemmas.Bool.{and_from, and_parts, or_left, or_right}
use Rattle.std.proofs.lemmas.Bool.Decides.{nat_tests}
use Rattle.hm_base.specs.Pages.{Pages, one_page}
use Rattle.hm_base.specs.declared.PoolId.{PoolId}
use Rattle.hm_base.specs.Program.{Program, op_fits}
use Rattle.hm_base.specs.declared.Frame.{Frame}
use Rattle.hm_base.specs.declared.Place.{Place}
use Rattle.hm_base.specs.declared.cause.Cause.{Cause}
use Rattle.hm_base.specs.declared.ops.Op.{Op}
use Rattle.hm_base.specs.declared.ops.Rights.{Rights}
use Rattle.hm_history.proofs.Pages.{bytes_length}
use Rattle.hm_history.proofs.Tests.{no_test}
use Rattle.hm_history.specs.Memory.After.{After}
use Rattle.hm_history.specs.Memory.Locks.{lowest_other, other_locker, writer}
use Rattle.hm_history.specs.Memory.Places.{held_from, lowest_direct, lowest_free, lowest_moving, lowest_named}
use Rattle.hm_history.specs.Memory.Plain.{area_refusal, in_window, is_attached, is_read_only, meets, mirror_dev, mirror_proc, plain_bytes, rights_of}
use Rattle.hm_history.specs.Memory.Sequences.{in_tree, insert_deferred, is_odd}
use Rattle.hm_history.specs.Memory.Words.{dev_frame, names, page_of, same_place, sys_frame, writable}
use Rattle.hm_history.specs.declared.KeptAt.{KeptAt}
use Rattle.hm_history.specs.declared.Kind.{Kind}
use Rattle.hm_history.specs.declared.Who.{Who}
use Rattle.hm_history.specs.declared.phases.Body.{Body}
use Rattle.hm_history.specs.declared.phases.Migrating.{Migrating}
use Rattle.hm_history.specs.declared.phases.MoveStep.{MoveStep}
use Rattle.hm_history.specs.declared.phases.Next.{Next}
use Rattle.hm_history.specs.declared.phases.Next.TheVariants.{Do, Wait}
use Rattle.hm_history.specs.declared.phases.Phase.{Phase}
use Rattle.hm_history.specs.declared.phases.Touch.{Touch}
use Rattle.hm_history.specs.Kernel.Due.{answer_of_piece, body_or_end, bring_home, child_of, commit_page, due_add, due_answer, due_areas, due_attach, due_begin, due_body, due_cpu, due_decide, due_detach, due_detaching, due_emptying, due_fetched, due_finish, due_frames, due_give_up, due_guard, due_locked, due_mirror, due_moves, due_noted, due_pages, due_phase, due_piece, due_ready, due_sole, due_step, due_taken, failed, fails, fault, fault_at, fault_sys, fetch_page, finish_frames, finish_page, fork_page, frame_at, frames_end, has_exclusive, has_no_frame, if_so, in_window_rlock, is_invalidating, is_usable, is_used_once, kept_or_frozen, locked_frame, others_of, pool_of, proc_of_op, process_seq, repeats, restore_at, rlock, select_page, select_to_device, select_to_system, settle, skips, suits, suits_walk, take_or, to_tell, under_wlock, within, wlock}
use Rattle.hm_history.specs.Kernel.Going.{coming, touch_page, touch_proc}
use Rattle.hm_history.specs.Kernel.Operation.{bytes_of, is_evicting, is_migration, is_remove, is_to_device, op_mirror, op_piece, op_who, op_writes}
use Rattle.hm_history.specs.Kernel.Stacks.{piece_of}
use Rattle.hm_laws.proofs.Due.Good.{either, either_option}
use Rattle.hm_laws.specs.Facts.{Holds, HoldsAll, Touching, begins, facts, has_piece, is_add, is_detach, is_snap, readying, takes_lock, under}
use Rattle.hm_laws.specs.Past.{Past}
use Rattle.hm_race_laws.specs.Outcomes.{answer_of}
use Rattle.hm_race_lines.specs.Answers.{answer_text}
use Rattle.hm_race_lines.specs.Endings.{ends_access, ends_piece, is_added, is_done, is_failed, may_end}
use Rattle.hm_race_lines.proofs.Answered as by
use Rattle.hm_race_lines.proofs.Answered.{EndsBy, of_access}
use Rattle.hm_race_lines.proofs.Pieces.{IsPiece, bytes_of_length, is_piece}

-- so of what is due
abbrev pub Ends : Op → Next → Type 0
Ends o (Do k) = EndsBy o (answer_of k)
Ends o (Wait why) = ⊤

-- ---- locks

locks_read : (o : Op) (s : After) (p : ℕ) → Ends o (rlock s p)
locks_read o s p = either_option (Ends o) (writer s.locks p) _ _ (λ e. tt) (λ b e. tt)

locks_write : (o : Op) (s : After) (p a : ℕ) → Ends o (wlock s p a)
locks_write o s p a = either_option (Ends o) (lowest_other s.locks p a) _ _ (λ e. tt) (λ b e. tt)

-- ---- answers of accesses

-- the operation fails so, for each cause of an access
abbrev FailsSo : Op → ℕ → Type 0
FailsSo o k = (why : Cause) → of_access why ≡ true → EndsBy o (answer_of (fails o k why))

-- a piece of this number may end so
piece_ends : (o : Op) (at n k : ℕ) (text : List ℕ) → IsPiece at n (op_piece o k) k → (is_failed (op_who o) (op_piece o k) text || is_done (op_writes o) (op_who o) (op_piece o k) text) ≡ true → ends_access o text ≡ true
piece_ends o at n k text is h = by is.number (and_from (nat_lt 0 (op_piece o k).1) _ is.some h)
  where
    by : (k ≡ 0) ⊎ (k ≡ 1) → ends_piece o text k ≡ true → ends_access o text ≡ true
    by (inl e) t = or_left (ends_piece o text 0) (ends_piece o text 1) (subst (λ j. ends_piece o text j ≡ true) e t)
    by (inr e) t = or_right (ends_piece o text 0) (ends_piece o text 1) (subst (λ j. ends_piece o text j ≡ true) e t)

reads : (o : Op) (at n k : ℕ) (bs : List ℕ) → IsPiece at n (op_piece o k) k → op_writes o ≡ false → length bs ≡ (op_piece o k).1 → ends_access o (answer_text (Kind.Loaded (op_who o) (op_piece o k).0 bs)) ≡ true
reads o at n k bs is e len = piece_ends o at n k t is (or_right (is_failed (op_who o) (op_piece o k) t) (is_done (op_writes o) (op_who o) (op_piece o k) t)
    (subst (λ w. is_done w (op_who o) (op_piece o k) t ≡ true) (sym e) (by.loaded (op_who o) (op_piece o k) bs len)))
  where
    t : List ℕ
    t = answer_text (Kind.Loaded (op_who o) (op_piece o k).0 bs)

writes : (o : Op) (at n k : ℕ) (bs : List ℕ) → IsPiece at n (op_piece o k) k → op_writes o ≡ true → length bs ≡ (op_piece o k).1 → ends_access o (answer_text (Kind.Stored (op_who o) (op_piece o k).0 bs)) ≡ true
writes o at n k bs is e len = piece_ends o at n k t is (or_right (is_failed (op_who o) (op_piece o k) t) (is_done (op_writes o) (op_who o) (op_piece o k) t)
    (subst (λ w. is_done w (op_who o) (op_piece o k) t ≡ true) (sym e) (by.stored (op_who o) (op_piece o k) bs len)))
  where
    t : List ℕ
    t = answer_text (Kind.Stored (op_who o) (op_piece o k).0 bs)

-- an access of n bytes from an address, and the pieces that it has
record Access (o : Op) (at n : ℕ) : Type 0 where
  pieces : (k : ℕ) → has_piece o k ≡ true → IsPiece at n (op_piece o k) k
  fails : (k : ℕ) (why : Cause) → fails o k why ≡ failed o k why
  ends : (text : List ℕ) → ends_access o text ≡ true → may_end o text ≡ true
  answers : (s : After) (k : ℕ) → has_piece o k ≡ true → Ends o (Do (answer_of_piece s o k))

fails_so : (o : Op) (at n k : ℕ) → Access o at n → has_piece o k ≡ true → FailsSo o k
fails_so o at n k is there why h = subst (λ f. EndsBy o (answer_of f)) (sym (is.fails k why)) (is.ends t (piece_ends o at n k t (is.pieces k there) (or_left (is_failed (op_who o) (op_piece o k) t) (is_done (op_writes o) (op_who o) (op_piece o k) t) (by.failed (op_who o) (op_piece o k) why h))))
  where
    t : List ℕ
    t = answer_text (Kind.Failed (op_who o) (op_piece o k).0 (op_piece o k).1 why)

fits_load : (d p at n : ℕ) → op_fits d (Op.Load p at n) ≡ true → 1 ≤ n
fits_load d p at n h = grind (arith, nat_tests)

fits_store : (d p at : ℕ) (bs : List ℕ) → op_fits d (Op.Store p at bs) ≡ true → 1 ≤ length bs
fits_store d p at bs h = grind (arith, nat_tests)

fits_device_load : (d m at n : ℕ) → op_fits d (Op.DeviceLoad m at n) ≡ true → 1 ≤ n
fits_device_load d m at n h = grind (arith, nat_tests)

fits_device_store : (d m at : ℕ) (bs : List ℕ) → op_fits d (Op.DeviceStore m at bs) ≡ true → 1 ≤ length bs
fits_device_store d m at bs h = grind (arith, nat_tests)

load : (d p at n : ℕ) → op_fits d (Op.Load p at n) ≡ true → Access (Op.Load p at n) at n
load d p at n fits = record {
  pieces = λ k. is_piece at n k (fits_load d p at n fits);
  fails = λ k why. refl;
  ends = λ text h. h;
  answers = λ s k h. reads (Op.Load p at n) at n k (plain_bytes s.plain (Who.Cpu p) (op_piece (Op.Load p at n) k).0 (op_piece (Op.Load p at n) k).1) (is_piece at n k (fits_load d p at n fits) h) refl (bytes_length (s.plain.bytes p) (op_piece (Op.Load p at n) k).0 (op_piece (Op.Load p at n) k).1);
}

device_load : (d m at n : ℕ) → op_fits d (Op.DeviceLoad m at n) ≡ true → Access (Op.DeviceLoad m at n) at n
device_load d m at n fits = record {
  pieces = λ k. is_piece at n k (fits_device_load d m at n fits);
  fails = λ k why. refl;
  ends = λ text h. h;
  answers = λ s k h. reads (Op.DeviceLoad m at n) at n k (plain_bytes s.plain (Who.Mirror m) (op_piece (Op.DeviceLoad m at n) k).0 (op_piece (Op.DeviceLoad m at n) k).1) (is_piece at n k (fits_device_load d m at n fits) h) refl (bytes_length (s.plain.bytes (mirror_proc s.plain m)) (op_piece (Op.DeviceLoad m at n) k).0 (op_piece (Op.DeviceLoad m at n) k).1);
}

store : (d p at : ℕ) (bs : List ℕ) → op_fits d (Op.Store p at bs) ≡ true → Access (Op.Store p at bs) at (length bs)
store d p at bs fits = record {
  pieces = λ k. is_piece at (length bs) k (fits_store d p at bs fits);
  fails = λ k why. refl;
  ends = λ text h. h;
  answers = λ s k h. writes (Op.Store p at bs) at (length bs) k (bytes_of at bs (op_piece (Op.Store p at bs) k)) (is_piece at (length bs) k (fits_store d p at bs fits) h) refl (bytes_of_length at bs (op_piece (Op.Store p at bs) k) k (is_piece at (length bs) k (fits_store d p at bs fits) h));
}

device_store : (d m at : ℕ) (bs : List ℕ) → op_fits d (Op.DeviceStore m at bs) ≡ true → Access (Op.DeviceStore m at bs) at (length bs)
device_store d m at bs fits = record {
  pieces = λ k. is_piece at (length bs) k (fits_device_store d m at bs fits);
  fails = λ k why. refl;
  ends = λ text h. h;
  answers = λ s k h. writes (Op.DeviceStore m at bs) at (length bs) k (bytes_of at bs (op_piece (Op.DeviceStore m at bs) k)) (is_piece at (length bs) k (fits_device_store d m at bs fits) h) refl (bytes_of_length at bs (op_piece (Op.DeviceStore m at bs) k) k (is_piece at (length bs) k (fits_device_store d m at bs fits) h));
}

-- an addition fails as an access of a byte does
add_fails : (m at n : ℕ) (why : Cause) → of_access why ≡ true → EndsBy (Op.Add m at n) (answer_of (failed (Op.Add m at n) 0 why))
add_fails m at n why h = let t = answer_text (Kind.Failed (Who.Mirror m) at 1 why) in or_left (is_failed (Who.Mirror m) (at, 1) t) (is_added m t) (by.failed (Who.Mirror m) (at, 1) why h)

-- a fault's operation fails so
touch_fails : (d : ℕ) (s : After) (t : Past) (a : ℕ) (o : Op) (touch : Touch) → op_fits d o ≡ true → Holds s t a (Touching o touch) → FailsSo o (piece_of touch)
touch_fails d s t a (Op.Load p at n) (Touch.Cpu k) fits h = fails_so (Op.Load p at n) at n k (load d p at n fits) h
touch_fails d s t a (Op.Store p at bs) (Touch.Cpu k) fits h = fails_so (Op.Store p at bs) at (length bs) k (store d p at bs fits) h
touch_fails d s t a o (Touch.Cpu k) fits h = no_test h
touch_fails d s t a (Op.DeviceLoad m at n) (Touch.Walk k i q) fits h = fails_so (Op.DeviceLoad m at n) at n k (device_load d m at n fits) h.0
touch_fails d s t a (Op.DeviceStore m at bs) (Touch.Walk k i q) fits h = fails_so (Op.DeviceStore m at bs) at (length bs) k (device_store d m at bs fits) h.0
touch_fails d s t a o (Touch.Walk k i q) fits h = no_test h.0
touch_fails d s t a (Op.Exclusive m v) Touch.Sole fits h = λ why e. by.refused_so (Kind.Excluded m v) why
touch_fails d s t a (Op.Add m at n) Touch.Sole fits h = add_fails m at n
touch_fails d s t a o Touch.Sole fits h = no_test h.0

-- ---- pieces

cpu : (s : After) (o : Op) (k p : ℕ) → FailsSo o k → ((why : Cause) → fails o k why ≡ failed o k why) → Ends o (Do (answer_of_piece s o k)) → Ends o (due_cpu s o k p)
cpu s o k p f same answer = either (Ends o) (s.plain.there p) _ _
    (λ e. either (Ends o) (suits (op_writes o) (s.places.place p (page_of (op_piece o k).0))) _ _ (λ u. answer) (λ u. locks_read o s p))
    (λ e. subst (λ z. EndsBy o (answer_of z)) (same Cause.Unmapped) (f Cause.Unmapped refl))

mirror : (s : After) (o : Op) (k m : ℕ) → FailsSo o k → ((why : Cause) → fails o k why ≡ failed o k why) → Ends o (Do (answer_of_piece s o k)) → Ends o (due_mirror s o k m)
mirror s o k m f same answer = either (Ends o) (in_window s.plain m (one_page (page_of (op_piece o k).0))) _ _
    (λ e. either (Ends o) (is_usable (op_writes o) (s.places.table m (page_of (op_piece o k).0))) _ _ (λ u. answer) (λ u. either (Ends o) (is_invalidating s m) _ _ (λ i. tt) (λ i. tt)))
    (λ e. subst (λ z. EndsBy o (answer_of z)) (same Cause.Outside) (f Cause.Outside refl))

addition : (s : After) (a m at n : ℕ) → Ends (Op.Add m at n) (due_add s a (Op.Add m at n) m at)
addition s a m at n = let o = Op.Add m at n in either (Ends o) (in_window s.plain m (one_page (page_of at))) _ _
    (λ e. either (Ends o) (has_exclusive s a m (page_of at)) _ _ (λ u. tt) (λ u. locks_read o s (mirror_proc s.plain m)))
    (λ e. add_fails m at n Cause.Outside refl)

access_piece : (c : Program) (s : After) (o : Op) (at n k p : ℕ) → Access o at n → has_piece o k ≡ true → Ends o (due_cpu s o k p)
access_piece c s o at n k p is there = cpu s o k p (fails_so o at n k is there) (is.fails k) (is.answers s k there)

mirror_piece : (c : Program) (s : After) (o : Op) (at n k m : ℕ) → Access o at n → has_piece o k ≡ true → Ends o (due_mirror s o k m)
mirror_piece c s o at n k m is there = mirror s o k m (fails_so o at n k is there) (is.fails k) (is.answers s k there)

no_piece : {X : Type 0} (k : ℕ) → nat_lt k 0 ≡ true → X
no_piece k h = absurd (grind (arith, nat_tests))

piece : (d : ℕ) (c : Program) (s : After) (a : ℕ) (o : Op) (k : ℕ) → op_fits d o ≡ true → has_piece o k ≡ true → Ends o (due_piece s a o k)
piece d c s a (Op.Load p at n) k fits h = access_piece c s (Op.Load p at n) at n k p (load d p at n fits) h
piece d c s a (Op.Store p at bs) k fits h = access_piece c s (Op.Store p at bs) at (length bs) k p (store d p at bs fits) h
piece d c s a (Op.DeviceLoad m at n) k fits h = mirror_piece c s (Op.DeviceLoad m at n) at n k m (device_load d m at n fits) h
piece d c s a (Op.DeviceStore m at bs) k fits h = mirror_piece c s (Op.DeviceStore m at bs) at (length bs) k m (device_store d m at bs fits) h
piece d c s a (Op.Add m at n) k fits h = addition s a m at n
piece d c s a o k fits h = no_piece k h

fetched : (s : After) (a : ℕ) (o : Op) (old : ℕ) → is_add o ≡ true → Ends o (due_fetched s a o old)
fetched s a (Op.Add m at n) old h = let o = Op.Add m at n in either (Ends o) (has_exclusive s a m (page_of at)) _ _
    (λ e. let t = answer_text (Kind.Added m at old ((old + n) % 256)) in or_right (is_failed (Who.Mirror m) (at, 1) t) (is_added m t) (by.added m at old ((old + n) % 256))) (λ e. addition s a m at n)
fetched s a o old h = no_test h

-- ---- faults

takes : (c : Program) (s : After) (o : Op) (k : Kind) → EndsBy o (answer_of k) → Ends o (take_or c s k)
takes c s o k h = either_option (Ends o) (lowest_free c s.places PoolId.System) _ _ (λ e. h) (λ g e. tt)

faults_at : (c : Program) (s : After) (a : ℕ) (o : Op) (k p v : ℕ) (x : Place) → FailsSo o k → Ends o (fault_at c s a o k p v x)
faults_at c s a o k p v (Place.Moving f w) h = tt
faults_at c s a o k p v (Place.Own d n w) h = either_option (Ends o) (other_locker s.locks (dev_frame d n) a) _ _ (λ e. tt) (λ b e. tt)
faults_at c s a o k p v (Place.Exclusive n b) h = tt
faults_at c s a o k p v Place.Empty h = either (Ends o) (op_writes o) _ _ (λ e. takes c s o (fails o k Cause.NoFrame) (h Cause.NoFrame refl)) (λ e. tt)
faults_at c s a o k p v Place.Zero h = takes c s o (fails o k Cause.NoFrame) (h Cause.NoFrame refl)
faults_at c s a o k p v (Place.Sys n w) h = either (Ends o) (is_used_once s (sys_frame n)) _ _ (λ e. tt) (λ e. takes c s o (fails o k Cause.NoFrame) (h Cause.NoFrame refl))

faults : (c : Program) (s : After) (a : ℕ) (o : Op) (k : ℕ) (suited : Place → Bool) (p v : ℕ) → FailsSo o k → Ends o (fault c s a o k suited p v)
faults c s a o k suited p v h = either (Ends o) (is_none (rights_of s.plain p v)) _ _ (λ e. h Cause.Unmapped refl)
    (λ e. either (Ends o) (op_writes o && is_read_only (rights_of s.plain p v)) _ _ (λ u. h Cause.Forbidden refl)
    (λ u. either (Ends o) (suited (s.places.place p v)) _ _ (λ i. tt) (λ i. faults_at c s a o k p v (s.places.place p v) h)))

sole : (c : Program) (s : After) (a : ℕ) (o : Op) (m p v : ℕ) (x : Place) → FailsSo o 0 → Ends o (due_sole c s a o m p v x)
sole c s a o m p v (Place.Exclusive n b) h = either (Ends o) (a == b) _ _ (λ e. either (Ends o) (is_invalidating s m) _ _ (λ i. tt) (λ i. tt)) (λ e. faults c s a o 0 (suits true) p v h)
sole c s a o m p v (Place.Sys n true) h = tt
sole c s a o m p v (Place.Sys n false) h = faults c s a o 0 (suits true) p v h
sole c s a o m p v Place.Empty h = faults c s a o 0 (suits true) p v h
sole c s a o m p v Place.Zero h = faults c s a o 0 (suits true) p v h
sole c s a o m p v (Place.Own d n w) h = faults c s a o 0 (suits true) p v h
sole c s a o m p v (Place.Moving f w) h = faults c s a o 0 (suits true) p v h

decides : (c : Program) (s : After) (a : ℕ) (o : Op) (touch : Touch) (p v : ℕ) → FailsSo o (piece_of touch) → Ends o (due_decide c s a o touch p v)
decides c s a o (Touch.Cpu k) p v h = faults c s a o k (suits (op_writes o)) p v h
decides c s a o (Touch.Walk k i q) p v h = either (Ends o) (repeats s (op_mirror o) q) _ _ (λ e. tt) (λ e. faults c s a o k (suits_walk (mirror_dev s.plain (op_mirror o)) (op_writes o)) p v h)
decides c s a o Touch.Sole p v h = either (Ends o) (is_attached s.plain (op_mirror o)) _ _ (λ e. sole c s a o (op_mirror o) p v (s.places.place p v) h) (λ e. h Cause.Outside refl)

noted : (s : After) (o : Op) (k i q : ℕ) (x : Place) → Ends o (due_noted s o k i q x)
noted s o k i q x = either (Ends o) (repeats s (op_mirror o) q) _ _ (λ e. tt) (λ e. tt)

taken : (s : After) (o : Op) (g : Frame) (over : Place) (p v : ℕ) → Ends o (due_taken s g over p v)
taken s o g over p v = either (Ends o) (same_place (s.places.place p v) over) _ _ (λ e. either_option (Ends o) (names over) _ _ (λ i. tt) (λ f i. tt)) (λ e. tt)

-- ---- entries that answer nothing

-- the entry answers nothing
abbrev IsQuiet : Kind → Type 0
IsQuiet k = answer_of k ≡ None

abbrev AreQuiet : Option Kind → Type 0
AreQuiet None = ⊤
AreQuiet (Some k) = IsQuiet k

quiet : (o : Op) (k : Kind) → IsQuiet k → EndsBy o (answer_of k)
quiet o k e = subst (EndsBy o) (sym e) tt

within_quiet : (r : Pages) (x : Option ℕ) (f : ℕ → Kind) → ((v : ℕ) → IsQuiet (f v)) → AreQuiet (within r x f)
within_quiet r None f h = tt
within_quiet r (Some v) f h = either AreQuiet (nat_lt v (r.first + r.count)) _ _ (λ e. h v) (λ e. tt)

so_quiet : (b : Bool) (k : Kind) → IsQuiet k → AreQuiet (if_so b k)
so_quiet b k h = either AreQuiet b _ _ (λ e. h) (λ e. tt)

fork_quiet : (s : After) (p child v : ℕ) → IsQuiet (fork_page s p child v)
fork_quiet s p child v = either IsQuiet (writable (s.places.place p v)) _ _ (λ e. refl) (λ e. refl)

frozen_quiet : (s : After) (a p v : ℕ) (f : Frame) (w : Bool) → IsQuiet (kept_or_frozen s a p v f w)
frozen_quiet s a p v f w = either_option IsQuiet (other_locker s.locks f a) _ _ (λ e. refl) (λ b e. refl)

to_device_quiet : (s : After) (a p v : ℕ) (x : Place) → IsQuiet (select_to_device s a p v x)
to_device_quiet s a p v Place.Empty = refl
to_device_quiet s a p v Place.Zero = refl
to_device_quiet s a p v (Place.Sys n w) = frozen_quiet s a p v (sys_frame n) w
to_device_quiet s a p v (Place.Own d n w) = refl
to_device_quiet s a p v (Place.Moving f w) = refl
to_device_quiet s a p v (Place.Exclusive n b) = refl

to_system_quiet : (s : After) (a d p v : ℕ) (x : Place) → IsQuiet (select_to_system s a d p v x)
to_system_quiet s a d p v (Place.Own e n w) = either IsQuiet (d == e) _ _ (λ u. frozen_quiet s a p v (dev_frame e n) w) (λ u. refl)
to_system_quiet s a d p v Place.Empty = refl
to_system_quiet s a d p v Place.Zero = refl
to_system_quiet s a d p v (Place.Sys n w) = refl
to_system_quiet s a d p v (Place.Moving f w) = refl
to_system_quiet s a d p v (Place.Exclusive n b) = refl

select_quiet : (s : After) (a : ℕ) (o : Op) (p v : ℕ) → IsQuiet (select_page s a o p v)
select_quiet s a o p v = either IsQuiet (is_to_device o) _ _
    (λ e. either_option IsQuiet (rights_of s.plain p v) _ _ (λ u. refl) (λ w u. to_device_quiet s a p v (s.places.place p v)))
    (λ e. to_system_quiet s a (mirror_dev s.plain (op_mirror o)) p v (s.places.place p v))

restore_quiet : (p v : ℕ) (x : Place) → AreQuiet (restore_at p v x)
restore_quiet p v (Place.Exclusive n b) = refl
restore_quiet p v Place.Empty = tt
restore_quiet p v Place.Zero = tt
restore_quiet p v (Place.Sys n w) = tt
restore_quiet p v (Place.Own d n w) = tt
restore_quiet p v (Place.Moving f w) = tt

body_quiet : (s : After) (a : ℕ) (o : Op) (p : ℕ) (r : Pages) (x : Place) (body : Body) → AreQuiet (due_body s a o p r x body)
body_quiet s a o p r x Body.Nothing = tt
body_quiet s a o p r x (Body.Zap v) = within_quiet r _ _ (λ u. refl)
body_quiet s a o p r x (Body.Narrow v) = within_quiet r _ _ (λ u. refl)
body_quiet s a o p r x (Body.Fork v false) = within_quiet r _ _ (λ u. fork_quiet s p (child_of o) u)
body_quiet s a o p r x (Body.Fork v true) = refl
body_quiet s a o p r x (Body.Select v) = within_quiet r (Some v) _ (λ u. select_quiet s a o p u)
body_quiet s a o p r x (Body.Replace over g) = so_quiet _ _ refl
body_quiet s a o p r x Body.Restore = restore_quiet p r.first x
body_quiet s a o p r x (Body.Catch f) = so_quiet _ _ refl
body_quiet s a o p r x (Body.Freeze f) = so_quiet _ _ refl
body_quiet s a o p r x (Body.Fresh g) = so_quiet _ _ refl
body_quiet s a o p r x (Body.Seize f) = so_quiet _ _ refl

end_quiet : (s : After) (p : ℕ) (r : Pages) (x : Option Kind) → AreQuiet x → IsQuiet (body_or_end s p r x)
end_quiet s p r None h = refl
end_quiet s p r (Some k) h = h

guard_quiet : (s : After) (a : ℕ) (o : Op) (p : ℕ) (r : Pages) (met : Bool) (told : Option ℕ) (body : Body) → IsQuiet (due_guard s a o p r met told body)
guard_quiet s a o p r met told body = either_option IsQuiet (to_tell s p r met told) _ _
    (λ e. end_quiet s p r _ (body_quiet s a o p r (s.places.place p r.first) body)) (λ m e. refl)

settle_quiet : (s : After) (g : Frame) → IsQuiet (settle s g)
settle_quiet s g = either_option IsQuiet (lowest_named s.places g) _ _ (λ e. refl) (λ x e. refl)

frames_quiet : (s : After) (f : Frame) (to : Option Frame) → IsQuiet (finish_frames s f to)
frames_quiet s f None = settle_quiet s f
frames_quiet s f (Some g) = refl

finish_quiet : (s : After) (f : Frame) (to : Option Frame) → IsQuiet (due_finish s f to)
finish_quiet s f to = either_option IsQuiet (lowest_moving s.places f) _ _ (λ e. frames_quiet s f to) (λ x e. refl)

emptying_quiet : (c : Program) (s : After) (f : Frame) (what : KeptAt) → IsQuiet (due_emptying c s f what)
emptying_quiet c s f what = either_option IsQuiet (lowest_direct s.places f) _ _ (λ e. either_option IsQuiet (lowest_free c s.places PoolId.System) _ _ (λ u. refl) (λ g u. refl)) (λ x e. refl)

-- ---- migrations

-- a migration may be refused, for whatever cause
refused_so : (o : Op) → is_migration o ≡ true → (why : Cause) → EndsBy o (Some (Kind.Refused why))
refused_so (Op.ToDevice m r) h why = by.refused_migration why
refused_so (Op.ToSystem m r) h why = by.refused_migration why
refused_so o h why = no_test h

migrated_so : (o : Op) → is_migration o ≡ true → (n : ℕ) → EndsBy o (Some (Kind.Migrated n))
migrated_so (Op.ToDevice m r) h n = by.migrated n
migrated_so (Op.ToSystem m r) h n = by.migrated n
migrated_so o h n = no_test h

-- the entry answers what the operation may end with
abbrev Says : Op → Kind → Type 0
Says o k = EndsBy o (answer_of k)

others : (s : After) (o : Op) (f : Option Frame) → is_migration o ≡ true → Says o (others_of s f)
others s o None h = refused_so o h Cause.Never
others s o (Some f) h = either_option (Says o) (lowest_direct s.places f) _ _ (λ e. refused_so o h Cause.Never) (λ x e. tt)

fetches : (c : Program) (s : After) (o : Op) (v : ℕ) → Says o (fetch_page c s o v)
fetches c s o v = either (Says o) (skips c o v) _ _ (λ e. tt) (λ e. either_option (Says o) (lowest_free c s.places (pool_of s o)) _ _ (λ u. tt) (λ g u. tt))

commits : (s : After) (o : Op) (p v : ℕ) (f g : Option Frame) → is_migration o ≡ true → Says o (commit_page s p v f g)
commits s o p v (Some f) (Some g) h = tt
commits s o p v None (Some g) h = either (Says o) (has_no_frame (s.places.place p v)) _ _ (λ e. tt) (λ e. tt)
commits s o p v None None h = refused_so o h Cause.Never
commits s o p v (Some f) None h = refused_so o h Cause.Never

finishes : (s : After) (o : Op) (f to : Option Frame) (moved : Bool) → is_migration o ≡ true → Says o (finish_page s f to moved)
finishes s o (Some f) to moved h = quiet o _ (finish_quiet s f (if moved then to else None))
finishes s o None (Some g) moved h = tt
finishes s o None None moved h = refused_so o h Cause.Never

step : (c : Program) (s : After) (o : Op) (x : MoveStep) (page : Migrating) → is_migration o ≡ true → Says o (due_step c s o x page)
step c s o MoveStep.FreezeOthers page h = others s o page.source h
step c s o MoveStep.TakeAndCopy page h = fetches c s o page.page
step c s o MoveStep.Commit page h = commits s o (mirror_proc s.plain (op_mirror o)) page.page page.source page.dest h
step c s o MoveStep.SetOwnTable page h = tt
step c s o MoveStep.Finish page h = finishes s o page.source page.dest page.moved h

moves : (c : Program) (s : After) (o : Op) (xs : List Migrating) (x : Option (MoveStep × Migrating)) → is_migration o ≡ true → Says o (due_moves c s o xs x)
moves c s o xs None h = migrated_so o h _
moves c s o xs (Some at) h = step c s o at.0 at.1 h

-- ---- evictions

frame : (s : After) (a : ℕ) (o : Op) (remove : Bool) (f : Frame) → Ends o (frame_at s a remove f)
frame s a o remove f = either_option (Ends o) (other_locker s.locks f a) _ _
    (λ e. either_option (Ends o) (lowest_named s.places f) _ _ (λ u. tt) (λ x u. tt)) (λ b e. either (Ends o) remove _ _ (λ u. tt) (λ u. tt))

frames : (c : Program) (s : After) (a : ℕ) (o : Op) (v n : ℕ) → is_evicting o ≡ true → Ends o (due_frames c s a o v n)
frames c s a (Op.Evict d) v n h = let o = Op.Evict d in
    either_option (Ends o) (held_from c s.places d v) _ _ (λ e. by.evicted n) (λ k e. frame s a o false (dev_frame d k))
frames c s a (Op.Remove d) v n h = let o = Op.Remove d in
    either (Ends o) (not (s.places.withdrawn d)) _ _ (λ i. tt)
    (λ i. either_option (Ends o) (held_from c s.places d v) _ _
    (λ e. either (Says o) (s.places.removed d) _ _ (λ u. by.refused_so (Kind.Removed d) Cause.Removed) (λ u. by.says_so (Kind.Removed d) refl))
    (λ k e. frame s a o true (dev_frame d k)))
frames c s a o v n h = no_test h

-- ---- the other operations

-- the operation may be refused, for whatever cause
abbrev Refuses : Op → Type 0
Refuses o = (why : Cause) → Says o (Kind.Refused why)

locks_first : (s : After) (a : ℕ) (o : Op) (p : ℕ) → Refuses o → Ends o (under_wlock s a p)
locks_first s a o p h = either (Ends o) (s.plain.there p) _ _ (λ e. locks_write o s p a) (λ e. h Cause.NoProcess)

windowed : (s : After) (o : Op) (m : ℕ) (r : Pages) → Refuses o → Ends o (in_window_rlock s m r)
windowed s o m r h = either (Ends o) (in_window s.plain m r) _ _ (λ e. locks_read o s (mirror_proc s.plain m)) (λ e. h Cause.Outside)

begin : (s : After) (a : ℕ) (o : Op) → begins o ≡ true → Ends o (due_begin s a o)
begin s a (Op.Map p r w) h = locks_first s a (Op.Map p r w) p (by.refused_so (Kind.Mapped p r w))
begin s a (Op.Unmap p r) h = locks_first s a (Op.Unmap p r) p (by.refused_so (Kind.Unmapped p r))
begin s a (Op.Protect p r w) h = locks_first s a (Op.Protect p r w) p (by.refused_so (Kind.Protected p r w))
begin s a (Op.Exit p) h = locks_first s a (Op.Exit p) p (by.refused_so (Kind.Exited p))
begin s a (Op.Fork p child) h = locks_first s a (Op.Fork p child) p (by.refused_so (Kind.Forked p child))
begin s a (Op.Attach m d p r) h = let o = Op.Attach m d p r in either (Says o) (is_some (s.plain.mirrors m)) _ _
    (λ e. by.refused_so (Kind.Attached m d p r 0) Cause.MirrorTaken)
    (λ e. either (Says o) (s.plain.there p) _ _ (λ u. by.says_so (Kind.Attached m d p r 0) refl) (λ u. by.refused_so (Kind.Attached m d p r 0) Cause.NoProcess))
begin s a (Op.Detach m) h = let o = Op.Detach m in either (Says o) (is_attached s.plain m) _ _
    (λ e. either (Says o) (not (is_odd (process_seq s m)) || insert_deferred s.sequences m) _ _ (λ u. by.says_so (Kind.Detached m) refl) (λ u. tt))
    (λ e. by.refused_so (Kind.Detached m) Cause.Outside)
begin s a (Op.Snap m r) h = windowed s (Op.Snap m r) m r (by.refused_snap m)
begin s a (Op.ToDevice m r) h = windowed s (Op.ToDevice m r) m r (refused_so (Op.ToDevice m r) refl)
begin s a (Op.ToSystem m r) h = windowed s (Op.ToSystem m r) m r (refused_so (Op.ToSystem m r) refl)
begin s a (Op.Exclusive m v) h = windowed s (Op.Exclusive m v) m (one_page v) (by.refused_so (Kind.Excluded m v))
begin s a o h = no_test h

areas : (s : After) (o : Op) → Refuses o → Says o (due_areas s o) → Says o (due_locked s o)
areas s o h k = either (Says o) (s.plain.there (proc_of_op o)) _ _ (λ e. either_option (Says o) (area_refusal s.plain o) _ _ (λ u. k) (λ why u. h why)) (λ e. h Cause.NoProcess)

locked : (s : After) (o : Op) → takes_lock o ≡ true → Says o (due_locked s o)
locked s (Op.Map p r w) h = areas s (Op.Map p r w) (by.refused_so (Kind.Mapped p r w)) (by.says_so (Kind.Mapped p r w) refl)
locked s (Op.Unmap p r) h = areas s (Op.Unmap p r) (by.refused_so (Kind.Unmapped p r))
    (either (Says (Op.Unmap p r)) (meets r (s.plain.areas p)) _ _ (λ e. tt) (λ e. by.says_so (Kind.Unmapped p r) refl))
locked s (Op.Protect p r w) h = areas s (Op.Protect p r w) (by.refused_so (Kind.Protected p r w)) tt
locked s (Op.Exit p) h = areas s (Op.Exit p) (by.refused_so (Kind.Exited p)) tt
locked s (Op.Fork p child) h = areas s (Op.Fork p child) (by.refused_so (Kind.Forked p child))
    (either (Says (Op.Fork p child)) ((child == 0) || s.plain.named child) _ _ (λ e. by.refused_so (Kind.Forked p child) Cause.NameTaken) (λ e. tt))
locked s o h = no_test h

ready : (s : After) (o : Op) (t : Past) (a : ℕ) (xs : List Migrating) → HoldsAll s t a (readying o xs) → Says o (due_ready s o)
ready s (Op.Fork p child) t a xs h = tt
ready s (Op.ToDevice m r) t a xs h = tt
ready s (Op.ToSystem m r) t a xs h = tt
ready s o t a xs h = no_test h.0

answer : (s : After) (o : Op) → Says o (due_answer s o)
answer s (Op.Unmap p r) = by.says_so (Kind.Unmapped p r) refl
answer s (Op.Protect p r w) = by.says_so (Kind.Protected p r w) refl
answer s (Op.Exit p) = by.says_so (Kind.Exited p) refl
answer s (Op.Fork p child) = by.says_so (Kind.Forked p child) refl
answer s (Op.Exclusive m v) = by.says_so (Kind.Excluded m v) refl
answer s o = tt

removal : (o : Op) → is_remove o ≡ true → (why : Cause) → Says o (Kind.Refused why)
removal (Op.Remove d) h why = by.refused_so (Kind.Removed d) why
removal o h why = no_test h

give_up : (d : ℕ) (s : After) (o : Op) (touch : Option Touch) (t : Past) (a : ℕ) → op_fits d o ≡ true → HoldsAll s t a (under o (Phase.GiveUp touch ∷ [])) → Says o (due_give_up o touch)
give_up d s o None t a fits h = removal o h.0 Cause.NoFrame
give_up d s o (Some touch) t a fits h = touch_fails d s t a o touch fits h.0 Cause.NoFrame refl

detaching : (s : After) (o : Op) (q : ℕ) → is_detach o ≡ true → Ends o (due_detaching s (op_mirror o) q)
detaching s (Op.Detach m) q h = either (Ends (Op.Detach m)) (in_tree s.sequences m) _ _ (λ e. tt) (λ e. by.says_so (Kind.Detached m) refl)
detaching s o q h = no_test h

pages : (s : After) (o : Op) (v : ℕ) → is_snap o ≡ true → Says o (due_pages s o v)
pages s (Op.Snap m r) v h = either (Says (Op.Snap m r)) (nat_lt v (r.first + r.count)) _ _ (λ e. by.seen m v _) (λ e. tt)
pages s o v h = no_test h

-- ---- every phase

pub ends : (c : Program) (s : After) (t : Past) (a : ℕ) (o : Op) (xs : List Migrating) → op_fits (length c.devices) o ≡ true → (top : Phase) (below : List Phase) → HoldsAll s t a (facts o xs (top ∷ below)) → Ends o (due_phase c s a o xs top)
ends c s t a o xs fits Phase.Begin [] h = begin s a o (and_parts (begins o) _ h.0).0
ends c s t a o xs fits (Phase.Detaching q) [] h = detaching s o q h.0
ends c s t a o xs fits (Phase.Pages v) [] h = pages s o v h.0
ends c s t a o xs fits Phase.Locked [] h = locked s o h.1.1.0
ends c s t a o xs fits Phase.Ready [] h = ready s o t a xs h.1.1
ends c s t a o xs fits Phase.Answer below h = answer s o
ends c s t a o xs fits (Phase.Piece k) [] h = piece (length c.devices) c s a o k fits h.0
ends c s t a o xs fits (Phase.Fetched old) [] h = fetched s a o old h.0
ends c s t a o xs fits (Phase.Begun k i q) below h = locks_read o s (mirror_proc s.plain (op_mirror o))
ends c s t a o xs fits (Phase.Noted k i q x) below h = noted s o k i q x
ends c s t a o xs fits (Phase.Decide touch) [] h = decides c s a o touch _ _ (touch_fails (length c.devices) s t a o touch fits h.0)
ends c s t a o xs fits (Phase.Taken touch g over) below h = taken s o g over (touch_proc s o) (touch_page o touch)
ends c s t a o xs fits (Phase.Armed touch g over) below h = tt
ends c s t a o xs fits (Phase.Guard p r met told body) below h = quiet o _ (guard_quiet s a o p r met told body)
ends c s t a o xs fits (Phase.Drop f) below h = tt
ends c s t a o xs fits (Phase.Emptying f what) below h = quiet o _ (emptying_quiet c s f what)
ends c s t a o xs fits (Phase.Copy f g k) below h = tt
ends c s t a o xs fits (Phase.Copied f g) below h = tt
ends c s t a o xs fits (Phase.Finish f to) below h = quiet o _ (finish_quiet s f to)
ends c s t a o xs fits (Phase.Settle g) below h = quiet o _ (settle_quiet s g)
ends c s t a o xs fits (Phase.GiveUp touch) [] h = give_up (length c.devices) s o touch t a fits h.1.1
ends c s t a o xs fits (Phase.Frames v n) [] h = frames c s a o v n h.0
ends c s t a o xs fits (Phase.Moves step v) [] h = moves c s o xs (coming s o xs (Phase.Moves step v)) h.1.1.0
ends c s t a o xs fits (Phase.Lost v g) below h = tt
ends c s t a o xs fits top below h = absurd h.0
