-- What is due reads plain bytes.
use Rattle.std.proofs.Common.{◌≡◌, ℕ, ◌+◌, Bool, true, false, ◌==◌, ◌&&◌, ◌||◌, not, nat_lt, if◌then◌else◌, is_some, is_none, Option, Some, None, List, [], ◌∷◌, inl, inr, refl, sym, ap, subst}
use Rattle.std.specs.Prelude.{⊤}
use Rattle.hm_base.specs.Pages.{Pages, one_page}
use Rattle.hm_base.specs.Program.{Program}
use Rattle.hm_base.specs.declared.PoolId.{PoolId}
use Rattle.hm_base.specs.declared.cause.Cause.{Cause}
use Rattle.hm_base.specs.declared.Frame.{Frame}
use Rattle.hm_base.specs.declared.Place.{Place}
use Rattle.hm_base.specs.declared.ops.Op.{Op}
use Rattle.hm_history.specs.declared.phases.MoveStep.{MoveStep}
use Rattle.hm_history.specs.Memory.Words.{page_of, sys_frame, dev_frame, is_frame, names, names_directly, same_place, writable}
use Rattle.hm_history.specs.Memory.Plain.{rights_of, is_read_only, is_attached, in_window, mirror_proc, mirror_dev, area_refusal, meets, proc_of}
use Rattle.hm_history.specs.Memory.Places.{lowest_free, lowest_named, lowest_direct, lowest_moving, held_from, next_page, is_used}
use Rattle.hm_history.specs.Memory.Sequences.{is_odd, insert_deferred, in_tree}
use Rattle.hm_history.specs.Memory.Locks.{writer, lowest_other, other_locker}
use Rattle.hm_history.specs.Memory.After.{After}
use Rattle.hm_history.specs.Kernel.Operation.{op_piece, op_mirror, op_who, op_writes, is_exclusive_op, is_to_device}
use Rattle.hm_history.specs.Kernel.Going.{touch_page, touch_proc, coming}
use Rattle.hm_history.specs.Kernel.Due.{rlock, wlock, is_invalidating, process_seq, is_usable, has_exclusive, answer_of_piece, fails, repeats, is_used_once, suits, suits_walk, take_or, fault_at, fault, due_cpu, due_mirror, due_add, due_fetched, due_piece, due_sole, due_decide, due_taken, within, fork_page, child_of, kept_or_frozen, select_to_device, select_to_system, select_page, if_so, restore_at, has_no_frame, due_body, body_or_end, to_tell, due_guard, due_emptying, settle, due_finish, due_give_up, due_frames_of, due_frames, skips, pool_of, others_of, fetch_page, commit_page, finish_page, due_step, due_moves, under_wlock, in_window_rlock, due_begin, due_areas, due_locked, proc_of_op, due_ready, due_answer, due_pages, due_phase}
use Rattle.hm_history.specs.declared.Kind.{Kind}
use Rattle.hm_history.specs.declared.phases.Migrating.{Migrating}
use Rattle.hm_history.specs.declared.phases.Touch.{Touch}
use Rattle.hm_history.specs.declared.phases.Body.{Body}
use Rattle.hm_history.specs.declared.phases.Phase.{Phase}
use Rattle.hm_history.specs.declared.phases.Next.{Next}
use Rattle.hm_history.specs.declared.phases.Next.TheVariants.{Do, Wait}
use Rattle.hm_laws.proofs.Due.Good.{either, either_option}
use Rattle.hm_history.proofs.Pages.{bytes_length}
use Rattle.hm_history.specs.Memory.Plain.{plain_bytes}
use Rattle.hm_history.specs.declared.Entry.{Entry}
use Rattle.hm_history.specs.declared.Progress.{Progress}
use Rattle.hm_linux.specs.Laws.{ReadsPlain, ReadsArePlain}
use Rattle.hm_history.specs.Kernel.Due.{progress}
use Rattle.hm_history.specs.Kernel.Going.{op_at}
use Rattle.hm_history.proofs.Tests.{no_test}
use Rattle.hm_linux.specs.declared.variant.Variant.{Variant}
use Rattle.hm_linux.specs.Noted.{Varied}
use Rattle.hm_linux.specs.Instead.{found, due_varied, due_varied_top}
use Rattle.hm_linux.specs.Variants.{is_other_kind, Stays}
use Rattle.hm_linux.proofs.Others.{varied_stays}

-- what is due, if it is an entry, and the next entry of a body, if there is one
abbrev pub NextPlain : After → Next → Type 0
NextPlain s (Do k) = ReadsPlain s.plain k
NextPlain s (Wait y) = ⊤

-- the kind of an entry that a turn adds
abbrev kind_of : Progress → Kind
kind_of (Progress.Did e) = e.kind
kind_of p = Kind.Refused Cause.Never

abbrev SomePlain : After → Option Kind → Type 0
SomePlain s None = ⊤
SomePlain s (Some k) = ReadsPlain s.plain k

plain_rlock : (s : After) (p : ℕ) → NextPlain s (rlock s p)
plain_rlock s p = either_option (NextPlain s) (writer s.locks p) _ _ (λ e. tt) (λ b e. tt)

plain_wlock : (s : After) (p a : ℕ) → NextPlain s (wlock s p a)
plain_wlock s p a = either_option (NextPlain s) (lowest_other s.locks p a) _ _ (λ e. tt) (λ b e. tt)

plain_answer : (s : After) (o : Op) (k : ℕ) → ReadsPlain s.plain (answer_of_piece s o k)
plain_answer s o k =
    either (ReadsPlain s.plain) (op_writes o) _ _ (λ e. tt)
    (λ e. ap (plain_bytes s.plain (op_who o) (op_piece o k).0)
    (sym (bytes_length (s.plain.bytes (proc_of s.plain (op_who o))) (op_piece o k).0 (op_piece o k).1)))

plain_fails : (s : After) (o : Op) (k : ℕ) (n : Cause) → ReadsPlain s.plain (fails o k n)
plain_fails s o k n = either (ReadsPlain s.plain) (is_exclusive_op o) _ _ (λ e. tt) (λ e. tt)

plain_cpu : (s : After) (o : Op) (k p : ℕ) → NextPlain s (due_cpu s o k p)
plain_cpu s o k p = either (NextPlain s) (s.plain.there p) _ _ (λ e. either (NextPlain s) (suits (op_writes o) (s.places.place p (page_of (op_piece o k).0))) _ _ (λ i. plain_answer s o k) (λ i. plain_rlock s p)) (λ e. tt)

plain_mirror : (s : After) (o : Op) (k m : ℕ) → NextPlain s (due_mirror s o k m)
plain_mirror s o k m = let v : ℕ = page_of (op_piece o k).0 in
    either (NextPlain s) (in_window s.plain m (one_page v)) _ _ (λ e. either (NextPlain s) (is_usable (op_writes o) (s.places.table m v)) _ _ (λ i. plain_answer s o k) (λ i. either (NextPlain s) (is_invalidating s m) _ _ (λ j. tt) (λ j. tt))) (λ e. tt)

plain_add : (s : After) (a : ℕ) (o : Op) (m at : ℕ) → NextPlain s (due_add s a o m at)
plain_add s a o m at = either (NextPlain s) (in_window s.plain m (one_page (page_of at))) _ _ (λ e. either (NextPlain s) (has_exclusive s a m (page_of at)) _ _ (λ i. refl) (λ i. plain_rlock s (mirror_proc s.plain m))) (λ e. tt)

plain_piece : (s : After) (a : ℕ) (o : Op) (k : ℕ) → NextPlain s (due_piece s a o k)
plain_piece s a (Op.Add m at x) k = plain_add s a (Op.Add m at x) m at
plain_piece s a (Op.DeviceLoad m at x) k = plain_mirror s (Op.DeviceLoad m at x) k m
plain_piece s a (Op.DeviceStore m at bs) k = plain_mirror s (Op.DeviceStore m at bs) k m
plain_piece s a (Op.Load p at x) k = plain_cpu s (Op.Load p at x) k p
plain_piece s a (Op.Store p at bs) k = plain_cpu s (Op.Store p at bs) k p
plain_piece s a o k = tt

plain_fetched : (s : After) (a : ℕ) (o : Op) (old : ℕ) → NextPlain s (due_fetched s a o old)
plain_fetched s a (Op.Add m at n) old = either (NextPlain s) (has_exclusive s a m (page_of at)) _ _ (λ e. tt) (λ e. plain_add s a (Op.Add m at n) m at)
plain_fetched s a o old = tt

plain_take : (c : Program) (s : After) (k : Kind) → ReadsPlain s.plain k → NextPlain s (take_or c s k)
plain_take c s k h = either_option (NextPlain s) (lowest_free c s.places PoolId.System) _ _ (λ i. h) (λ g i. tt)

plain_fault_at : (c : Program) (s : After) (a : ℕ) (o : Op) (k p v : ℕ) (x : Place) → NextPlain s (fault_at c s a o k p v x)
plain_fault_at c s a o k p v (Place.Moving f w) = tt
plain_fault_at c s a o k p v (Place.Own d n w) = either_option (NextPlain s) (other_locker s.locks (dev_frame d n) a) _ _ (λ i. tt) (λ b i. tt)
plain_fault_at c s a o k p v (Place.Exclusive n b) = tt
plain_fault_at c s a o k p v Place.Empty = either (NextPlain s) (op_writes o) _ _ (λ i. plain_take c s (fails o k Cause.NoFrame) (plain_fails s o k Cause.NoFrame)) (λ i. tt)
plain_fault_at c s a o k p v Place.Zero = plain_take c s (fails o k Cause.NoFrame) (plain_fails s o k Cause.NoFrame)
plain_fault_at c s a o k p v (Place.Sys n w) = either (NextPlain s) (is_used_once s (sys_frame n)) _ _ (λ i. tt) (λ i. plain_take c s (fails o k Cause.NoFrame) (plain_fails s o k Cause.NoFrame))

plain_fault : (c : Program) (s : After) (a : ℕ) (o : Op) (k : ℕ) (suited : Place → Bool) (p v : ℕ) → NextPlain s (fault c s a o k suited p v)
plain_fault c s a o k suited p v =
    either (NextPlain s) (is_none (rights_of s.plain p v)) _ _ (λ i. plain_fails s o k Cause.Unmapped)
    (λ i. either (NextPlain s) (op_writes o && is_read_only (rights_of s.plain p v)) _ _ (λ j. plain_fails s o k Cause.Forbidden)
    (λ j. either (NextPlain s) (suited (s.places.place p v)) _ _ (λ l. tt) (λ l. plain_fault_at c s a o k p v (s.places.place p v))))

plain_sole : (c : Program) (s : After) (a : ℕ) (o : Op) (m p v : ℕ) (x : Place) → NextPlain s (due_sole c s a o m p v x)
plain_sole c s a o m p v (Place.Exclusive n b) = either (NextPlain s) (a == b) _ _ (λ i. either (NextPlain s) (is_invalidating s m) _ _ (λ j. tt) (λ j. tt)) (λ i. plain_fault c s a o 0 (suits true) p v)
plain_sole c s a o m p v (Place.Sys n true) = tt
plain_sole c s a o m p v x = plain_fault c s a o 0 (suits true) p v

plain_decide : (c : Program) (s : After) (a : ℕ) (o : Op) (touch : Touch) (p v : ℕ) → NextPlain s (due_decide c s a o touch p v)
plain_decide c s a o (Touch.Cpu k) p v = plain_fault c s a o k (suits (op_writes o)) p v
plain_decide c s a o (Touch.Walk k i q) p v = either (NextPlain s) (repeats s (op_mirror o) q) _ _ (λ e. tt) (λ e. plain_fault c s a o k (suits_walk (mirror_dev s.plain (op_mirror o)) (op_writes o)) p v)
plain_decide c s a o Touch.Sole p v = either (NextPlain s) (is_attached s.plain (op_mirror o)) _ _ (λ e. plain_sole c s a o (op_mirror o) p v (s.places.place p v)) (λ e. plain_fails s o 0 Cause.Outside)

plain_taken : (s : After) (g : Frame) (over : Place) (p v : ℕ) → NextPlain s (due_taken s g over p v)
plain_taken s g over p v = either (NextPlain s) (same_place (s.places.place p v) over) _ _ (λ e. either_option (NextPlain s) (names over) _ _ (λ i. tt) (λ f i. tt)) (λ e. tt)

-- guards
plain_within : (s : After) (r : Pages) (x : Option ℕ) (f : ℕ → Kind) → ((v : ℕ) → ReadsPlain s.plain (f v)) → SomePlain s (within r x f)
plain_within s r None f h = tt
plain_within s r (Some v) f h = either (SomePlain s) (nat_lt v (r.first + r.count)) _ _ (λ e. h v) (λ e. tt)

plain_when : (s : After) (b : Bool) (k : Kind) → ReadsPlain s.plain k → SomePlain s (if_so b k)
plain_when s b k h = either (SomePlain s) b _ _ (λ e. h) (λ e. tt)

plain_frozen : (s : After) (a p v : ℕ) (f : Frame) (w : Bool) → ReadsPlain s.plain (kept_or_frozen s a p v f w)
plain_frozen s a p v f w = either_option (ReadsPlain s.plain) (other_locker s.locks f a) _ _ (λ e. tt) (λ b e. tt)

plain_to_device : (s : After) (a p v : ℕ) (x : Place) → ReadsPlain s.plain (select_to_device s a p v x)
plain_to_device s a p v Place.Empty = tt
plain_to_device s a p v Place.Zero = tt
plain_to_device s a p v (Place.Sys n w) = plain_frozen s a p v (sys_frame n) w
plain_to_device s a p v x = tt

plain_to_system : (s : After) (a d p v : ℕ) (x : Place) → ReadsPlain s.plain (select_to_system s a d p v x)
plain_to_system s a d p v (Place.Own e n w) = either (ReadsPlain s.plain) (d == e) _ _ (λ i. plain_frozen s a p v (dev_frame e n) w) (λ i. tt)
plain_to_system s a d p v x = tt

plain_select : (s : After) (a : ℕ) (o : Op) (p v : ℕ) → ReadsPlain s.plain (select_page s a o p v)
plain_select s a o p v = either (ReadsPlain s.plain) (is_to_device o) _ _ (λ e. either_option (ReadsPlain s.plain) (rights_of s.plain p v) _ _ (λ i. tt) (λ w i. plain_to_device s a p v (s.places.place p v))) (λ e. plain_to_system s a (mirror_dev s.plain (op_mirror o)) p v (s.places.place p v))

plain_fork : (s : After) (p d v : ℕ) → ReadsPlain s.plain (fork_page s p d v)
plain_fork s p d v = either (ReadsPlain s.plain) (writable (s.places.place p v)) _ _ (λ e. tt) (λ e. tt)

plain_restore : (s : After) (p v : ℕ) (x : Place) → SomePlain s (restore_at p v x)
plain_restore s p v (Place.Exclusive n b) = tt
plain_restore s p v x = tt

plain_body : (s : After) (a : ℕ) (o : Op) (p : ℕ) (r : Pages) (x : Place) (body : Body) → SomePlain s (due_body s a o p r x body)
plain_body s a o p r x Body.Nothing = tt
plain_body s a o p r x (Body.Zap v) = plain_within s r (next_page s.places is_used p v) (λ u. Kind.Place p u Place.Empty) (λ u. tt)
plain_body s a o p r x (Body.Narrow v) = plain_within s r (next_page s.places writable p v) _ (λ u. tt)
plain_body s a o p r x (Body.Fork v false) = plain_within s r (next_page s.places is_used p v) (fork_page s p (child_of o)) (λ u. plain_fork s p (child_of o) u)
plain_body s a o p r x (Body.Fork v true) = tt
plain_body s a o p r x (Body.Select v) = plain_within s r (Some v) (select_page s a o p) (λ u. plain_select s a o p u)
plain_body s a o p r x (Body.Replace over g) = plain_when s (same_place x over) _ tt
plain_body s a o p r x Body.Restore = plain_restore s p r.first x
plain_body s a o p r x (Body.Catch f) = plain_when s (is_frame (names_directly x) f && is_none (s.locks.frame f)) _ tt
plain_body s a o p r x (Body.Freeze f) = plain_when s (is_frame (names_directly x) f) _ tt
plain_body s a o p r x (Body.Fresh g) = plain_when s (has_no_frame x) _ tt
plain_body s a o p r x (Body.Seize f) = plain_when s (same_place x (Place.Sys f.number true)) _ tt

plain_end : (s : After) (p : ℕ) (r : Pages) (x : Option Kind) → SomePlain s x → ReadsPlain s.plain (body_or_end s p r x)
plain_end s p r None h = tt
plain_end s p r (Some k) h = h

plain_guard : (s : After) (a : ℕ) (o : Op) (p : ℕ) (r : Pages) (met : Bool) (told : Option ℕ) (body : Body) → ReadsPlain s.plain (due_guard s a o p r met told body)
plain_guard s a o p r met told body = either_option (ReadsPlain s.plain) (to_tell s p r met told) _ _ (λ e. plain_end s p r _ (plain_body s a o p r (s.places.place p r.first) body)) (λ m e. tt)

-- frames
plain_alone : (c : Program) (s : After) (f : Frame) (at : _) → ReadsPlain s.plain (due_emptying c s f at)
plain_alone c s f at = either_option (ReadsPlain s.plain) (lowest_direct s.places f) _ _ (λ e. either_option (ReadsPlain s.plain) (lowest_free c s.places PoolId.System) _ _ (λ i. tt) (λ g i. tt)) (λ x e. tt)

plain_settle : (s : After) (g : Frame) → ReadsPlain s.plain (settle s g)
plain_settle s g = either_option (ReadsPlain s.plain) (lowest_named s.places g) _ _ (λ e. tt) (λ x e. tt)

plain_finish : (s : After) (f : Frame) (to : Option Frame) → ReadsPlain s.plain (due_finish s f to)
plain_finish s f None = either_option (ReadsPlain s.plain) (lowest_moving s.places f) _ _ (λ e. plain_settle s f) (λ x e. tt)
plain_finish s f (Some g) = either_option (ReadsPlain s.plain) (lowest_moving s.places f) _ _ (λ e. tt) (λ x e. tt)

plain_give_up : (s : After) (o : Op) (touch : Option Touch) → ReadsPlain s.plain (due_give_up o touch)
plain_give_up s o None = tt
plain_give_up s o (Some touch) = plain_fails s o _ Cause.NoFrame

plain_frames_of : (c : Program) (s : After) (a d : ℕ) (remove : Bool) (v n : ℕ) → NextPlain s (due_frames_of c s a d remove v n)
plain_frames_of c s a d remove v n = either (NextPlain s) (remove && not (s.places.withdrawn d)) _ _ (λ e. tt)
    (λ e. either_option (NextPlain s) (held_from c s.places d v) _ _ (λ i. either (ReadsPlain s.plain) remove _ _ (λ j. either (ReadsPlain s.plain) (s.places.removed d) _ _ (λ l. tt) (λ l. tt)) (λ j. tt))
    (λ k i. either_option (NextPlain s) (other_locker s.locks (dev_frame d k) a) _ _ (λ j. either_option (NextPlain s) (lowest_named s.places (dev_frame d k)) _ _ (λ l. tt) (λ x l. tt)) (λ b j. either (NextPlain s) remove _ _ (λ l. tt) (λ l. tt))))

plain_frames : (c : Program) (s : After) (a : ℕ) (o : Op) (v n : ℕ) → NextPlain s (due_frames c s a o v n)
plain_frames c s a (Op.Evict d) v n = plain_frames_of c s a d false v n
plain_frames c s a (Op.Remove d) v n = plain_frames_of c s a d true v n
plain_frames c s a o v n = tt

-- migrations
plain_others : (s : After) (x : Option Frame) → ReadsPlain s.plain (others_of s x)
plain_others s None = tt
plain_others s (Some f) = either_option (ReadsPlain s.plain) (lowest_direct s.places f) _ _ (λ e. tt) (λ x e. tt)

plain_fetch : (c : Program) (s : After) (o : Op) (v : ℕ) → ReadsPlain s.plain (fetch_page c s o v)
plain_fetch c s o v = either (ReadsPlain s.plain) (skips c o v) _ _ (λ e. tt) (λ e. either_option (ReadsPlain s.plain) (lowest_free c s.places (pool_of s o)) _ _ (λ i. tt) (λ g i. tt))

plain_commit : (s : After) (p v : ℕ) (f g : Option Frame) → ReadsPlain s.plain (commit_page s p v f g)
plain_commit s p v (Some f) (Some g) = tt
plain_commit s p v None (Some g) = either (ReadsPlain s.plain) (has_no_frame (s.places.place p v)) _ _ (λ e. tt) (λ e. tt)
plain_commit s p v None None = tt
plain_commit s p v (Some f) None = tt

plain_page : (s : After) (f to : Option Frame) (moved : Bool) → ReadsPlain s.plain (finish_page s f to moved)
plain_page s (Some f) to moved = plain_finish s f (if moved then to else None)
plain_page s None (Some g) moved = tt
plain_page s None None moved = tt

plain_step : (c : Program) (s : After) (o : Op) (step : MoveStep) (x : Migrating) → ReadsPlain s.plain (due_step c s o step x)
plain_step c s o MoveStep.FreezeOthers x = plain_others s x.source
plain_step c s o MoveStep.TakeAndCopy x = plain_fetch c s o x.page
plain_step c s o MoveStep.Commit x = plain_commit s (mirror_proc s.plain (op_mirror o)) x.page x.source x.dest
plain_step c s o MoveStep.SetOwnTable x = tt
plain_step c s o MoveStep.Finish x = plain_page s x.source x.dest x.moved

plain_moves : (c : Program) (s : After) (o : Op) (xs : List Migrating) (at : Option (MoveStep × Migrating)) → ReadsPlain s.plain (due_moves c s o xs at)
plain_moves c s o xs None = tt
plain_moves c s o xs (Some at) = plain_step c s o at.0 at.1

-- first turns
plain_under_wlock : (s : After) (a p : ℕ) → NextPlain s (under_wlock s a p)
plain_under_wlock s a p = either (NextPlain s) (s.plain.there p) _ _ (λ e. plain_wlock s p a) (λ e. tt)

plain_in_window : (s : After) (m : ℕ) (r : Pages) → NextPlain s (in_window_rlock s m r)
plain_in_window s m r = either (NextPlain s) (in_window s.plain m r) _ _ (λ e. plain_rlock s (mirror_proc s.plain m)) (λ e. tt)

plain_begin : (s : After) (a : ℕ) (o : Op) → NextPlain s (due_begin s a o)
plain_begin s a (Op.Map p r w) = plain_under_wlock s a p
plain_begin s a (Op.Unmap p r) = plain_under_wlock s a p
plain_begin s a (Op.Protect p r w) = plain_under_wlock s a p
plain_begin s a (Op.Exit p) = plain_under_wlock s a p
plain_begin s a (Op.Fork p d) = plain_under_wlock s a p
plain_begin s a (Op.Attach m d p r) = either (ReadsPlain s.plain) (is_some (s.plain.mirrors m)) _ _ (λ e. tt) (λ e. either (ReadsPlain s.plain) (s.plain.there p) _ _ (λ i. tt) (λ i. tt))
plain_begin s a (Op.Detach m) = either (ReadsPlain s.plain) (is_attached s.plain m) _ _ (λ e. either (ReadsPlain s.plain) (not (is_odd (process_seq s m)) || insert_deferred s.sequences m) _ _ (λ i. tt) (λ i. tt)) (λ e. tt)
plain_begin s a (Op.Snap m r) = plain_in_window s m r
plain_begin s a (Op.ToDevice m r) = plain_in_window s m r
plain_begin s a (Op.ToSystem m r) = plain_in_window s m r
plain_begin s a (Op.Exclusive m v) = plain_in_window s m (one_page v)
plain_begin s a o = tt

plain_areas : (s : After) (o : Op) → ReadsPlain s.plain (due_areas s o)
plain_areas s (Op.Map p r w) = tt
plain_areas s (Op.Unmap p r) = either (ReadsPlain s.plain) (meets r (s.plain.areas p)) _ _ (λ e. tt) (λ e. tt)
plain_areas s (Op.Protect p r w) = tt
plain_areas s (Op.Exit p) = tt
plain_areas s (Op.Fork p d) = either (ReadsPlain s.plain) ((d == 0) || s.plain.named d) _ _ (λ e. tt) (λ e. tt)
plain_areas s o = tt

plain_locked : (s : After) (o : Op) → ReadsPlain s.plain (due_locked s o)
plain_locked s o = either (ReadsPlain s.plain) (s.plain.there (proc_of_op o)) _ _ (λ e. either_option (ReadsPlain s.plain) (area_refusal s.plain o) _ _ (λ i. plain_areas s o) (λ n i. tt)) (λ e. tt)

plain_ready : (s : After) (o : Op) → ReadsPlain s.plain (due_ready s o)
plain_ready s (Op.Fork p d) = tt
plain_ready s (Op.ToDevice m r) = tt
plain_ready s (Op.ToSystem m r) = tt
plain_ready s o = tt

plain_answers : (s : After) (o : Op) → ReadsPlain s.plain (due_answer s o)
plain_answers s (Op.Unmap p r) = tt
plain_answers s (Op.Protect p r w) = tt
plain_answers s (Op.Exit p) = tt
plain_answers s (Op.Fork p d) = tt
plain_answers s (Op.Exclusive m v) = tt
plain_answers s o = tt

plain_pages : (s : After) (o : Op) (v : ℕ) → ReadsPlain s.plain (due_pages s o v)
plain_pages s (Op.Snap m r) v = either (ReadsPlain s.plain) (nat_lt v (r.first + r.count)) _ _ (λ e. tt) (λ e. tt)
plain_pages s o v = tt

pub plainly : (c : Program) (s : After) (a : ℕ) (o : Op) (xs : List Migrating) (top : Phase) → NextPlain s (due_phase c s a o xs top)
plainly c s a o xs Phase.Begin = plain_begin s a o
plainly c s a o xs Phase.Locked = plain_locked s o
plainly c s a o xs Phase.Ready = plain_ready s o
plainly c s a o xs Phase.Answer = plain_answers s o
plainly c s a o xs (Phase.Detaching q) = either (NextPlain s) (in_tree s.sequences (op_mirror o)) _ _ (λ e. tt) (λ e. tt)
plainly c s a o xs (Phase.Pages v) = plain_pages s o v
plainly c s a o xs (Phase.Piece k) = plain_piece s a o k
plainly c s a o xs (Phase.Fetched old) = plain_fetched s a o old
plainly c s a o xs (Phase.Begun k at q) = plain_rlock s (mirror_proc s.plain (op_mirror o))
plainly c s a o xs (Phase.Decide touch) = plain_decide c s a o touch (touch_proc s o) (touch_page o touch)
plainly c s a o xs (Phase.Noted k at q x) = either (NextPlain s) (repeats s (op_mirror o) q) _ _ (λ e. tt) (λ e. tt)
plainly c s a o xs (Phase.Taken touch g x) = plain_taken s g x (touch_proc s o) (touch_page o touch)
plainly c s a o xs (Phase.Armed touch g x) = tt
plainly c s a o xs (Phase.Guard p r met told body) = plain_guard s a o p r met told body
plainly c s a o xs (Phase.Drop f) = tt
plainly c s a o xs (Phase.Emptying f at) = plain_alone c s f at
plainly c s a o xs (Phase.Copy f g k) = tt
plainly c s a o xs (Phase.Copied f g) = tt
plainly c s a o xs (Phase.Finish f to) = plain_finish s f to
plainly c s a o xs (Phase.Settle g) = plain_settle s g
plainly c s a o xs (Phase.GiveUp touch) = plain_give_up s o touch
plainly c s a o xs (Phase.Frames v k) = plain_frames c s a o v k
plainly c s a o xs (Phase.Moves step v) = plain_moves c s o xs (coming s o xs (Phase.Moves step v))
plainly c s a o xs (Phase.Lost v g) = tt

-- ---- with variants

-- no other entry reads
other_plain : (l : Variant) (s : After) (k : Kind) → is_other_kind l k ≡ true → ReadsPlain s.plain k
other_plain l s (Kind.Loaded x at bs) h = no_test h
other_plain l s (Kind.Fetched m at bs) h = no_test h
other_plain l s k h = tt

stays_plain : (l : Variant) (s : After) (next new : Next) → Stays l next new → NextPlain s next → NextPlain s new
stays_plain l s next new (inl e) h = subst (NextPlain s) (sym e) h
stays_plain l s next (Do k) (inr o) h = other_plain l s k o
stays_plain l s next (Wait y) (inr o) h = tt

-- the bytes of a process are as they are found
found_plain : (l : Variant) (c : Program) (t : Varied) (k : Kind) → ReadsPlain (found l c t).plain k
    → ReadsPlain t.state.after.plain k
found_plain l c t (Kind.Loaded x at bs) h = h
found_plain l c t (Kind.Fetched m at bs) h = h
found_plain l c t k h = tt

turn_plain : (l : Variant) (c : Program) (t : Varied) (a : ℕ) (e : Entry) (next : Next)
    → NextPlain (found l c t) next → progress a next ≡ Progress.Did e → ReadsPlain t.state.after.plain e.kind
turn_plain l c t a e (Do k) h d =
    subst (λ i. ReadsPlain t.state.after.plain i) (ap kind_of d) (found_plain l c t k h)
turn_plain l c t a e (Wait y) h d = cc

top_plain : (l : Variant) (c : Program) (t : Varied) (a : ℕ) (e : Entry) (o : Option Op) (xs : List Migrating)
    (stack : List Phase) → due_varied_top l c t.noted (found l c t) a o xs stack ≡ Progress.Did e
    → ReadsPlain t.state.after.plain e.kind
top_plain l c t a e (Some o) xs (top ∷ below) d = let s : After = found l c t in
    turn_plain l c t a e (due_varied l c t.noted s a o xs top (due_phase c s a o xs top))
    (stays_plain l s _ _ (varied_stays l c t.noted s a o xs top (due_phase c s a o xs top)) (plainly c s a o xs top)) d
top_plain l c t a e None xs stack d = cc
top_plain l c t a e (Some o) xs [] d = cc

pub reads_are_plain : ReadsArePlain
reads_are_plain l c t e d = let g = t.state.going e.actor in
    top_plain l c t e.actor e (op_at c e.actor g.index) g.pages g.stack d
