-- A load that is due to an actor reads bytes of one page.
use Rattle.std.proofs.Common.{◌≡◌, ℕ, ◌+◌, ◌≤◌, Bool, true, false, ◌==◌, ◌&&◌, ◌||◌, not, nat_lt, if◌then◌else◌, is_some, is_none, Option, Some, None, List, length, sym, subst, arith}
use Rattle.std.specs.Prelude.{⊤}
use Rattle.std.proofs.lemmas.Bool.Decides.{nat_tests}
use Rattle.hm_base.specs.Pages.{Pages, one_page}
use Rattle.hm_base.specs.Program.{Program, op_fits}
use Rattle.hm_base.specs.declared.PoolId.{PoolId}
use Rattle.hm_base.specs.declared.cause.Cause.{Cause}
use Rattle.hm_base.specs.declared.Frame.{Frame}
use Rattle.hm_base.specs.declared.Place.{Place}
use Rattle.hm_base.specs.declared.ops.Op.{Op}
use Rattle.hm_history.specs.declared.phases.MoveStep.{MoveStep}
use Rattle.hm_history.specs.Memory.Words.{page_of, sys_frame, dev_frame, is_frame, names, names_directly, same_place, writable}
use Rattle.hm_history.specs.Memory.Plain.{rights_of, is_read_only, is_attached, in_window, mirror_proc, mirror_dev, area_refusal, meets, proc_of}
use Rattle.hm_history.specs.Memory.Places.{lowest_free, lowest_named, lowest_direct, lowest_moving, held_from, next_page, is_used}
use Rattle.hm_history.specs.Memory.Sequences.{is_odd, insert_deferred, in_tree}
use Rattle.hm_history.specs.Memory.Locks.{writer, lowest_other, other_locker}
use Rattle.hm_history.specs.Memory.After.{After}
use Rattle.hm_history.specs.Kernel.Operation.{op_piece, op_mirror, op_who, op_writes, is_exclusive_op, is_to_device}
use Rattle.hm_history.specs.Kernel.Going.{touch_page, touch_proc, coming}
use Rattle.hm_history.specs.Kernel.Due.{rlock, wlock, is_invalidating, process_seq, is_usable, has_exclusive, answer_of_piece, fails, repeats, is_used_once, suits, suits_walk, take_or, fault_at, fault, due_cpu, due_mirror, due_add, due_fetched, due_piece, due_sole, due_decide, due_taken, within, fork_page, child_of, kept_or_frozen, select_to_device, select_to_system, select_page, if_so, restore_at, has_no_frame, due_body, body_or_end, to_tell, due_guard, due_emptying, settle, due_finish, due_give_up, due_frames_of, due_frames, skips, pool_of, others_of, fetch_page, commit_page, finish_page, due_step, due_moves, under_wlock, in_window_rlock, due_begin, due_areas, due_locked, proc_of_op, due_ready, due_answer, due_pages, due_phase}
use Rattle.hm_history.specs.declared.Kind.{Kind}
use Rattle.hm_history.specs.declared.phases.Migrating.{Migrating}
use Rattle.hm_history.specs.declared.phases.Touch.{Touch}
use Rattle.hm_history.specs.declared.phases.Body.{Body}
use Rattle.hm_history.specs.declared.phases.Phase.{Phase}
use Rattle.hm_history.specs.declared.phases.Next.{Next}
use Rattle.hm_history.specs.declared.phases.Next.TheVariants.{Do, Wait}
use Rattle.hm_laws.specs.Allowed.{InPage}
use Rattle.hm_laws.proofs.Due.Good.{either, either_option}
use Rattle.hm_history.proofs.Pages.{bytes_length}
use Rattle.hm_laws.proofs.State.Pieces.{piece_in_page}
use Rattle.hm_base.proofs.Shared.{few_bytes, few_device_bytes}

-- if the entry is a load, its bytes are of one page
abbrev pub Reads : Kind → Type 0
Reads (Kind.Loaded x at bs) = InPage at (length bs)
Reads k = ⊤

abbrev pub Next_reads : Next → Type 0
Next_reads (Do k) = Reads k
Next_reads (Wait y) = ⊤

abbrev Some_reads : Option Kind → Type 0
Some_reads None = ⊤
Some_reads (Some k) = Reads k

reads_rlock : (s : After) (p : ℕ) → Next_reads (rlock s p)
reads_rlock s p = either_option Next_reads (writer s.locks p) _ _ (λ e. tt) (λ b e. tt)

reads_wlock : (s : After) (p a : ℕ) → Next_reads (wlock s p a)
reads_wlock s p a = either_option Next_reads (lowest_other s.locks p a) _ _ (λ e. tt) (λ b e. tt)

reads_answer : (s : After) (o : Op) (k : ℕ) → InPage (op_piece o k).0 (op_piece o k).1 → Reads (answer_of_piece s o k)
reads_answer s o k h =
    either Reads (op_writes o) _ _ (λ e. tt)
    (λ e. subst (InPage (op_piece o k).0) (sym (bytes_length (s.plain.bytes (proc_of s.plain (op_who o))) (op_piece o k).0 (op_piece o k).1)) h)

reads_fails : (o : Op) (k : ℕ) (n : Cause) → Reads (fails o k n)
reads_fails o k n = either Reads (is_exclusive_op o) _ _ (λ e. tt) (λ e. tt)

reads_cpu : (s : After) (o : Op) (k p : ℕ) → InPage (op_piece o k).0 (op_piece o k).1 → Next_reads (due_cpu s o k p)
reads_cpu s o k p h = either Next_reads (s.plain.there p) _ _ (λ e. either Next_reads (suits (op_writes o) (s.places.place p (page_of (op_piece o k).0))) _ _ (λ i. reads_answer s o k h) (λ i. reads_rlock s p)) (λ e. tt)

reads_mirror : (s : After) (o : Op) (k m : ℕ) → InPage (op_piece o k).0 (op_piece o k).1 → Next_reads (due_mirror s o k m)
reads_mirror s o k m h = let v : ℕ = page_of (op_piece o k).0 in
    either Next_reads (in_window s.plain m (one_page v)) _ _ (λ e. either Next_reads (is_usable (op_writes o) (s.places.table m v)) _ _ (λ i. reads_answer s o k h) (λ i. either Next_reads (is_invalidating s m) _ _ (λ j. tt) (λ j. tt))) (λ e. tt)

reads_add : (s : After) (a : ℕ) (o : Op) (m at : ℕ) → Next_reads (due_add s a o m at)
reads_add s a o m at = either Next_reads (in_window s.plain m (one_page (page_of at))) _ _ (λ e. either Next_reads (has_exclusive s a m (page_of at)) _ _ (λ i. tt) (λ i. reads_rlock s (mirror_proc s.plain m))) (λ e. tt)

few_load : (n p a k : ℕ) → op_fits n (Op.Load p a k) ≡ true → k ≤ 256
few_load n p a k h = grind (arith, nat_tests)

few_device_load : (n m a k : ℕ) → op_fits n (Op.DeviceLoad m a k) ≡ true → k ≤ 256
few_device_load n m a k h = grind (arith, nat_tests)

reads_piece : (n : ℕ) (s : After) (a : ℕ) (o : Op) (k : ℕ) → op_fits n o ≡ true → Next_reads (due_piece s a o k)
reads_piece n s a (Op.Add m at x) k h = reads_add s a (Op.Add m at x) m at
reads_piece n s a (Op.DeviceLoad m at x) k h = reads_mirror s (Op.DeviceLoad m at x) k m (piece_in_page at x k (few_device_load n m at x h))
reads_piece n s a (Op.DeviceStore m at bs) k h = reads_mirror s (Op.DeviceStore m at bs) k m (piece_in_page at (length bs) k (few_device_bytes n m at bs h))
reads_piece n s a (Op.Load p at x) k h = reads_cpu s (Op.Load p at x) k p (piece_in_page at x k (few_load n p at x h))
reads_piece n s a (Op.Store p at bs) k h = reads_cpu s (Op.Store p at bs) k p (piece_in_page at (length bs) k (few_bytes n p at bs h))
reads_piece n s a o k h = tt

reads_fetched : (s : After) (a : ℕ) (o : Op) (old : ℕ) → Next_reads (due_fetched s a o old)
reads_fetched s a (Op.Add m at n) old = either Next_reads (has_exclusive s a m (page_of at)) _ _ (λ e. tt) (λ e. reads_add s a (Op.Add m at n) m at)
reads_fetched s a o old = tt

reads_take : (c : Program) (s : After) (k : Kind) → Reads k → Next_reads (take_or c s k)
reads_take c s k h = either_option Next_reads (lowest_free c s.places PoolId.System) _ _ (λ i. h) (λ g i. tt)

reads_fault_at : (c : Program) (s : After) (a : ℕ) (o : Op) (k p v : ℕ) (x : Place) → Next_reads (fault_at c s a o k p v x)
reads_fault_at c s a o k p v (Place.Moving f w) = tt
reads_fault_at c s a o k p v (Place.Own d n w) = either_option Next_reads (other_locker s.locks (dev_frame d n) a) _ _ (λ i. tt) (λ b i. tt)
reads_fault_at c s a o k p v (Place.Exclusive n b) = tt
reads_fault_at c s a o k p v Place.Empty = either Next_reads (op_writes o) _ _ (λ i. reads_take c s (fails o k Cause.NoFrame) (reads_fails o k Cause.NoFrame)) (λ i. tt)
reads_fault_at c s a o k p v Place.Zero = reads_take c s (fails o k Cause.NoFrame) (reads_fails o k Cause.NoFrame)
reads_fault_at c s a o k p v (Place.Sys n w) = either Next_reads (is_used_once s (sys_frame n)) _ _ (λ i. tt) (λ i. reads_take c s (fails o k Cause.NoFrame) (reads_fails o k Cause.NoFrame))

reads_fault : (c : Program) (s : After) (a : ℕ) (o : Op) (k : ℕ) (suited : Place → Bool) (p v : ℕ) → Next_reads (fault c s a o k suited p v)
reads_fault c s a o k suited p v =
    either Next_reads (is_none (rights_of s.plain p v)) _ _ (λ i. reads_fails o k Cause.Unmapped)
    (λ i. either Next_reads (op_writes o && is_read_only (rights_of s.plain p v)) _ _ (λ j. reads_fails o k Cause.Forbidden)
    (λ j. either Next_reads (suited (s.places.place p v)) _ _ (λ l. tt) (λ l. reads_fault_at c s a o k p v (s.places.place p v))))

reads_sole : (c : Program) (s : After) (a : ℕ) (o : Op) (m p v : ℕ) (x : Place) → Next_reads (due_sole c s a o m p v x)
reads_sole c s a o m p v (Place.Exclusive n b) = either Next_reads (a == b) _ _ (λ i. either Next_reads (is_invalidating s m) _ _ (λ j. tt) (λ j. tt)) (λ i. reads_fault c s a o 0 (suits true) p v)
reads_sole c s a o m p v (Place.Sys n true) = tt
reads_sole c s a o m p v x = reads_fault c s a o 0 (suits true) p v

reads_decide : (c : Program) (s : After) (a : ℕ) (o : Op) (touch : Touch) (p v : ℕ) → Next_reads (due_decide c s a o touch p v)
reads_decide c s a o (Touch.Cpu k) p v = reads_fault c s a o k (suits (op_writes o)) p v
reads_decide c s a o (Touch.Walk k i q) p v = either Next_reads (repeats s (op_mirror o) q) _ _ (λ e. tt) (λ e. reads_fault c s a o k (suits_walk (mirror_dev s.plain (op_mirror o)) (op_writes o)) p v)
reads_decide c s a o Touch.Sole p v = either Next_reads (is_attached s.plain (op_mirror o)) _ _ (λ e. reads_sole c s a o (op_mirror o) p v (s.places.place p v)) (λ e. reads_fails o 0 Cause.Outside)

reads_taken : (s : After) (g : Frame) (over : Place) (p v : ℕ) → Next_reads (due_taken s g over p v)
reads_taken s g over p v = either Next_reads (same_place (s.places.place p v) over) _ _ (λ e. either_option Next_reads (names over) _ _ (λ i. tt) (λ f i. tt)) (λ e. tt)

-- guards
reads_within : (r : Pages) (x : Option ℕ) (f : ℕ → Kind) → ((v : ℕ) → Reads (f v)) → Some_reads (within r x f)
reads_within r None f h = tt
reads_within r (Some v) f h = either Some_reads (nat_lt v (r.first + r.count)) _ _ (λ e. h v) (λ e. tt)

reads_when : (b : Bool) (k : Kind) → Reads k → Some_reads (if_so b k)
reads_when b k h = either Some_reads b _ _ (λ e. h) (λ e. tt)

reads_frozen : (s : After) (a p v : ℕ) (f : Frame) (w : Bool) → Reads (kept_or_frozen s a p v f w)
reads_frozen s a p v f w = either_option Reads (other_locker s.locks f a) _ _ (λ e. tt) (λ b e. tt)

reads_to_device : (s : After) (a p v : ℕ) (x : Place) → Reads (select_to_device s a p v x)
reads_to_device s a p v Place.Empty = tt
reads_to_device s a p v Place.Zero = tt
reads_to_device s a p v (Place.Sys n w) = reads_frozen s a p v (sys_frame n) w
reads_to_device s a p v x = tt

reads_to_system : (s : After) (a d p v : ℕ) (x : Place) → Reads (select_to_system s a d p v x)
reads_to_system s a d p v (Place.Own e n w) = either Reads (d == e) _ _ (λ i. reads_frozen s a p v (dev_frame e n) w) (λ i. tt)
reads_to_system s a d p v x = tt

reads_select : (s : After) (a : ℕ) (o : Op) (p v : ℕ) → Reads (select_page s a o p v)
reads_select s a o p v = either Reads (is_to_device o) _ _ (λ e. either_option Reads (rights_of s.plain p v) _ _ (λ i. tt) (λ w i. reads_to_device s a p v (s.places.place p v))) (λ e. reads_to_system s a (mirror_dev s.plain (op_mirror o)) p v (s.places.place p v))

reads_fork : (s : After) (p d v : ℕ) → Reads (fork_page s p d v)
reads_fork s p d v = either Reads (writable (s.places.place p v)) _ _ (λ e. tt) (λ e. tt)

reads_restore : (p v : ℕ) (x : Place) → Some_reads (restore_at p v x)
reads_restore p v (Place.Exclusive n b) = tt
reads_restore p v x = tt

reads_body : (s : After) (a : ℕ) (o : Op) (p : ℕ) (r : Pages) (x : Place) (body : Body) → Some_reads (due_body s a o p r x body)
reads_body s a o p r x Body.Nothing = tt
reads_body s a o p r x (Body.Zap v) = reads_within r (next_page s.places is_used p v) (λ u. Kind.Place p u Place.Empty) (λ u. tt)
reads_body s a o p r x (Body.Narrow v) = reads_within r (next_page s.places writable p v) _ (λ u. tt)
reads_body s a o p r x (Body.Fork v false) = reads_within r (next_page s.places is_used p v) (fork_page s p (child_of o)) (λ u. reads_fork s p (child_of o) u)
reads_body s a o p r x (Body.Fork v true) = tt
reads_body s a o p r x (Body.Select v) = reads_within r (Some v) (select_page s a o p) (λ u. reads_select s a o p u)
reads_body s a o p r x (Body.Replace over g) = reads_when (same_place x over) _ tt
reads_body s a o p r x Body.Restore = reads_restore p r.first x
reads_body s a o p r x (Body.Catch f) = reads_when (is_frame (names_directly x) f && is_none (s.locks.frame f)) _ tt
reads_body s a o p r x (Body.Freeze f) = reads_when (is_frame (names_directly x) f) _ tt
reads_body s a o p r x (Body.Fresh g) = reads_when (has_no_frame x) _ tt
reads_body s a o p r x (Body.Seize f) = reads_when (same_place x (Place.Sys f.number true)) _ tt

reads_end : (s : After) (p : ℕ) (r : Pages) (x : Option Kind) → Some_reads x → Reads (body_or_end s p r x)
reads_end s p r None h = tt
reads_end s p r (Some k) h = h

reads_guard : (s : After) (a : ℕ) (o : Op) (p : ℕ) (r : Pages) (met : Bool) (told : Option ℕ) (body : Body) → Reads (due_guard s a o p r met told body)
reads_guard s a o p r met told body = either_option Reads (to_tell s p r met told) _ _ (λ e. reads_end s p r _ (reads_body s a o p r (s.places.place p r.first) body)) (λ m e. tt)

-- frames
reads_alone : (c : Program) (s : After) (f : Frame) (at : _) → Reads (due_emptying c s f at)
reads_alone c s f at = either_option Reads (lowest_direct s.places f) _ _ (λ e. either_option Reads (lowest_free c s.places PoolId.System) _ _ (λ i. tt) (λ g i. tt)) (λ x e. tt)

reads_settle : (s : After) (g : Frame) → Reads (settle s g)
reads_settle s g = either_option Reads (lowest_named s.places g) _ _ (λ e. tt) (λ x e. tt)

reads_finish : (s : After) (f : Frame) (to : Option Frame) → Reads (due_finish s f to)
reads_finish s f None = either_option Reads (lowest_moving s.places f) _ _ (λ e. reads_settle s f) (λ x e. tt)
reads_finish s f (Some g) = either_option Reads (lowest_moving s.places f) _ _ (λ e. tt) (λ x e. tt)

reads_give_up : (o : Op) (touch : Option Touch) → Reads (due_give_up o touch)
reads_give_up o None = tt
reads_give_up o (Some touch) = reads_fails o _ Cause.NoFrame

reads_frames_of : (c : Program) (s : After) (a d : ℕ) (remove : Bool) (v n : ℕ) → Next_reads (due_frames_of c s a d remove v n)
reads_frames_of c s a d remove v n = either Next_reads (remove && not (s.places.withdrawn d)) _ _ (λ e. tt)
    (λ e. either_option Next_reads (held_from c s.places d v) _ _ (λ i. either Reads remove _ _ (λ j. either Reads (s.places.removed d) _ _ (λ l. tt) (λ l. tt)) (λ j. tt))
    (λ k i. either_option Next_reads (other_locker s.locks (dev_frame d k) a) _ _ (λ j. either_option Next_reads (lowest_named s.places (dev_frame d k)) _ _ (λ l. tt) (λ x l. tt)) (λ b j. either Next_reads remove _ _ (λ l. tt) (λ l. tt))))

reads_frames : (c : Program) (s : After) (a : ℕ) (o : Op) (v n : ℕ) → Next_reads (due_frames c s a o v n)
reads_frames c s a (Op.Evict d) v n = reads_frames_of c s a d false v n
reads_frames c s a (Op.Remove d) v n = reads_frames_of c s a d true v n
reads_frames c s a o v n = tt

-- migrations
reads_others : (s : After) (x : Option Frame) → Reads (others_of s x)
reads_others s None = tt
reads_others s (Some f) = either_option Reads (lowest_direct s.places f) _ _ (λ e. tt) (λ x e. tt)

reads_fetch : (c : Program) (s : After) (o : Op) (v : ℕ) → Reads (fetch_page c s o v)
reads_fetch c s o v = either Reads (skips c o v) _ _ (λ e. tt) (λ e. either_option Reads (lowest_free c s.places (pool_of s o)) _ _ (λ i. tt) (λ g i. tt))

reads_commit : (s : After) (p v : ℕ) (f g : Option Frame) → Reads (commit_page s p v f g)
reads_commit s p v (Some f) (Some g) = tt
reads_commit s p v None (Some g) = either Reads (has_no_frame (s.places.place p v)) _ _ (λ e. tt) (λ e. tt)
reads_commit s p v None None = tt
reads_commit s p v (Some f) None = tt

reads_page : (s : After) (f to : Option Frame) (moved : Bool) → Reads (finish_page s f to moved)
reads_page s (Some f) to moved = reads_finish s f (if moved then to else None)
reads_page s None (Some g) moved = tt
reads_page s None None moved = tt

reads_step : (c : Program) (s : After) (o : Op) (step : MoveStep) (x : Migrating) → Reads (due_step c s o step x)
reads_step c s o MoveStep.FreezeOthers x = reads_others s x.source
reads_step c s o MoveStep.TakeAndCopy x = reads_fetch c s o x.page
reads_step c s o MoveStep.Commit x = reads_commit s (mirror_proc s.plain (op_mirror o)) x.page x.source x.dest
reads_step c s o MoveStep.SetOwnTable x = tt
reads_step c s o MoveStep.Finish x = reads_page s x.source x.dest x.moved

reads_moves : (c : Program) (s : After) (o : Op) (xs : List Migrating) (at : Option (MoveStep × Migrating)) → Reads (due_moves c s o xs at)
reads_moves c s o xs None = tt
reads_moves c s o xs (Some at) = reads_step c s o at.0 at.1

-- first turns
reads_under_wlock : (s : After) (a p : ℕ) → Next_reads (under_wlock s a p)
reads_under_wlock s a p = either Next_reads (s.plain.there p) _ _ (λ e. reads_wlock s p a) (λ e. tt)

reads_in_window : (s : After) (m : ℕ) (r : Pages) → Next_reads (in_window_rlock s m r)
reads_in_window s m r = either Next_reads (in_window s.plain m r) _ _ (λ e. reads_rlock s (mirror_proc s.plain m)) (λ e. tt)

reads_begin : (s : After) (a : ℕ) (o : Op) → Next_reads (due_begin s a o)
reads_begin s a (Op.Map p r w) = reads_under_wlock s a p
reads_begin s a (Op.Unmap p r) = reads_under_wlock s a p
reads_begin s a (Op.Protect p r w) = reads_under_wlock s a p
reads_begin s a (Op.Exit p) = reads_under_wlock s a p
reads_begin s a (Op.Fork p d) = reads_under_wlock s a p
reads_begin s a (Op.Attach m d p r) = either Reads (is_some (s.plain.mirrors m)) _ _ (λ e. tt) (λ e. either Reads (s.plain.there p) _ _ (λ i. tt) (λ i. tt))
reads_begin s a (Op.Detach m) = either Reads (is_attached s.plain m) _ _ (λ e. either Reads (not (is_odd (process_seq s m)) || insert_deferred s.sequences m) _ _ (λ i. tt) (λ i. tt)) (λ e. tt)
reads_begin s a (Op.Snap m r) = reads_in_window s m r
reads_begin s a (Op.ToDevice m r) = reads_in_window s m r
reads_begin s a (Op.ToSystem m r) = reads_in_window s m r
reads_begin s a (Op.Exclusive m v) = reads_in_window s m (one_page v)
reads_begin s a o = tt

reads_areas : (s : After) (o : Op) → Reads (due_areas s o)
reads_areas s (Op.Map p r w) = tt
reads_areas s (Op.Unmap p r) = either Reads (meets r (s.plain.areas p)) _ _ (λ e. tt) (λ e. tt)
reads_areas s (Op.Protect p r w) = tt
reads_areas s (Op.Exit p) = tt
reads_areas s (Op.Fork p d) = either Reads ((d == 0) || s.plain.named d) _ _ (λ e. tt) (λ e. tt)
reads_areas s o = tt

reads_locked : (s : After) (o : Op) → Reads (due_locked s o)
reads_locked s o = either Reads (s.plain.there (proc_of_op o)) _ _ (λ e. either_option Reads (area_refusal s.plain o) _ _ (λ i. reads_areas s o) (λ n i. tt)) (λ e. tt)

reads_ready : (s : After) (o : Op) → Reads (due_ready s o)
reads_ready s (Op.Fork p d) = tt
reads_ready s (Op.ToDevice m r) = tt
reads_ready s (Op.ToSystem m r) = tt
reads_ready s o = tt

reads_answers : (s : After) (o : Op) → Reads (due_answer s o)
reads_answers s (Op.Unmap p r) = tt
reads_answers s (Op.Protect p r w) = tt
reads_answers s (Op.Exit p) = tt
reads_answers s (Op.Fork p d) = tt
reads_answers s (Op.Exclusive m v) = tt
reads_answers s o = tt

reads_pages : (s : After) (o : Op) (v : ℕ) → Reads (due_pages s o v)
reads_pages s (Op.Snap m r) v = either Reads (nat_lt v (r.first + r.count)) _ _ (λ e. tt) (λ e. tt)
reads_pages s o v = tt

pub reads_due : (c : Program) (s : After) (a : ℕ) (o : Op) (xs : List Migrating) (top : Phase) (n : ℕ) → op_fits n o ≡ true → Next_reads (due_phase c s a o xs top)
reads_due c s a o xs Phase.Begin n h = reads_begin s a o
reads_due c s a o xs Phase.Locked n h = reads_locked s o
reads_due c s a o xs Phase.Ready n h = reads_ready s o
reads_due c s a o xs Phase.Answer n h = reads_answers s o
reads_due c s a o xs (Phase.Detaching q) n h = either Next_reads (in_tree s.sequences (op_mirror o)) _ _ (λ e. tt) (λ e. tt)
reads_due c s a o xs (Phase.Pages v) n h = reads_pages s o v
reads_due c s a o xs (Phase.Piece k) n h = reads_piece n s a o k h
reads_due c s a o xs (Phase.Fetched old) n h = reads_fetched s a o old
reads_due c s a o xs (Phase.Begun k at q) n h = reads_rlock s (mirror_proc s.plain (op_mirror o))
reads_due c s a o xs (Phase.Decide touch) n h = reads_decide c s a o touch (touch_proc s o) (touch_page o touch)
reads_due c s a o xs (Phase.Noted k at q x) n h = either Next_reads (repeats s (op_mirror o) q) _ _ (λ e. tt) (λ e. tt)
reads_due c s a o xs (Phase.Taken touch g x) n h = reads_taken s g x (touch_proc s o) (touch_page o touch)
reads_due c s a o xs (Phase.Armed touch g x) n h = tt
reads_due c s a o xs (Phase.Guard p r met told body) n h = reads_guard s a o p r met told body
reads_due c s a o xs (Phase.Drop f) n h = tt
reads_due c s a o xs (Phase.Emptying f at) n h = reads_alone c s f at
reads_due c s a o xs (Phase.Copy f g k) n h = tt
reads_due c s a o xs (Phase.Copied f g) n h = tt
reads_due c s a o xs (Phase.Finish f to) n h = reads_finish s f to
reads_due c s a o xs (Phase.Settle g) n h = reads_settle s g
reads_due c s a o xs (Phase.GiveUp touch) n h = reads_give_up o touch
reads_due c s a o xs (Phase.Frames v k) n h = reads_frames c s a o v k
reads_due c s a o xs (Phase.Moves step v) n h = reads_moves c s o xs (coming s o xs (Phase.Moves step v))
reads_due c s a o xs (Phase.Lost v g) n h = tt
