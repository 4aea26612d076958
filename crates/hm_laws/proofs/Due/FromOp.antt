-- Which operation and which phase an entry comes from that changes the plain state, or refuses an operation.
use Rattle.std.proofs.Common.{◌≡◌, ◌⊎◌, inl, inr, ℕ, ◌+◌, Bool, true, false, ◌==◌, ◌&&◌, ◌||◌, not, nat_lt, if◌then◌else◌, is_some, is_none, Option, Some, None, List, refl}
use Rattle.std.specs.Prelude.{⊤}
use Rattle.hm_base.specs.Pages.{Pages, one_page}
use Rattle.hm_base.specs.Program.{Program}
use Rattle.hm_base.specs.declared.PoolId.{PoolId}
use Rattle.hm_base.specs.declared.cause.Cause.{Cause}
use Rattle.hm_base.specs.declared.Frame.{Frame}
use Rattle.hm_base.specs.declared.Place.{Place}
use Rattle.hm_base.specs.declared.ops.Op.{Op}
use Rattle.hm_history.specs.declared.phases.MoveStep.{MoveStep}
use Rattle.hm_history.specs.Memory.Words.{page_of, sys_frame, dev_frame, is_frame, names, names_directly, same_place, writable}
use Rattle.hm_history.specs.Memory.Plain.{rights_of, is_read_only, is_attached, in_window, mirror_proc, mirror_dev, area_refusal, meets}
use Rattle.hm_history.specs.Memory.Places.{lowest_free, lowest_named, lowest_direct, lowest_moving, held_from, next_page, is_used}
use Rattle.hm_history.specs.Memory.Sequences.{is_odd, insert_deferred, in_tree}
use Rattle.hm_history.specs.Memory.Locks.{writer, lowest_other, other_locker}
use Rattle.hm_history.specs.Memory.After.{After}
use Rattle.hm_history.specs.Kernel.Operation.{op_piece, op_mirror, op_writes, is_exclusive_op, is_to_device}
use Rattle.hm_history.specs.Kernel.Going.{touch_page, touch_proc, coming}
use Rattle.hm_history.specs.Kernel.Due.{rlock, wlock, is_invalidating, process_seq, is_usable, has_exclusive, answer_of_piece, fails, repeats, is_used_once, suits, suits_walk, take_or, fault_at, fault, due_cpu, due_mirror, due_add, due_fetched, due_piece, due_sole, due_decide, due_taken, within, fork_page, child_of, kept_or_frozen, select_to_device, select_to_system, select_page, if_so, restore_at, has_no_frame, due_body, body_or_end, to_tell, due_guard, due_emptying, settle, due_finish, due_give_up, due_frames_of, due_frames, skips, pool_of, others_of, fetch_page, commit_page, finish_page, due_step, due_moves, under_wlock, in_window_rlock, due_begin, due_areas, due_locked, proc_of_op, due_ready, due_answer, due_pages, due_phase}
use Rattle.hm_history.specs.declared.Kind.{Kind}
use Rattle.hm_history.specs.declared.phases.Migrating.{Migrating}
use Rattle.hm_history.specs.declared.phases.Touch.{Touch}
use Rattle.hm_history.specs.declared.phases.Body.{Body}
use Rattle.hm_history.specs.declared.phases.Phase.{Phase}
use Rattle.hm_history.specs.declared.phases.Next.{Next}
use Rattle.hm_history.specs.declared.phases.Next.TheVariants.{Do, Wait}
use Rattle.hm_laws.specs.Facts.{is_detach, is_fork, is_add}
use Rattle.hm_laws.proofs.Due.Good.{either, either_option}
use Rattle.hm_history.proofs.Tests.{no_test}

-- operations that store bytes, and the accesses, which come in pieces
abbrev pub stores : Op → Bool
stores (Op.Store p at bs) = true
stores (Op.DeviceStore m at bs) = true
stores (Op.Add m at n) = true
stores o = false

abbrev pub is_access : Op → Bool
is_access (Op.Load p at n) = true
is_access (Op.Store p at bs) = true
is_access (Op.DeviceLoad m at n) = true
is_access (Op.DeviceStore m at bs) = true
is_access (Op.Add m at n) = true
is_access o = false

-- phases at which the operation may be refused, in a run or where no run comes
abbrev pub refuses : Op → Phase → Bool
refuses o Phase.Begin = true
refuses o Phase.Locked = true
refuses o Phase.Ready = not (is_fork o)
refuses o (Phase.Pages v) = true
refuses o (Phase.Piece k) = not (is_access o)
refuses o (Phase.Fetched old) = not (is_add o)
refuses o (Phase.Decide touch) = is_exclusive_op o
refuses o (Phase.GiveUp None) = true
refuses o (Phase.GiveUp (Some touch)) = is_exclusive_op o
refuses o (Phase.Frames v n) = true
refuses o (Phase.Moves step v) = true
refuses o top = false

abbrev pub FromOp : Op → Phase → Kind → Type 0
FromOp o top (Kind.Refused why) = refuses o top ≡ true
FromOp o top (Kind.Mapped p r w) = (o ≡ Op.Map p r w) × (top ≡ Phase.Locked)
FromOp o top (Kind.Unmapped p r) = (top ≡ Phase.Locked) ⊎ (top ≡ Phase.Answer)
FromOp o top (Kind.Protected p r w) = top ≡ Phase.Answer
FromOp o top (Kind.Stored x at bs) = stores o ≡ true
FromOp o top (Kind.Added m at was now) = stores o ≡ true
FromOp o top (Kind.Named p d) = (o ≡ Op.Fork p d) × (top ≡ Phase.Locked)
FromOp o top (Kind.Forked p d) = top ≡ Phase.Answer
FromOp o top (Kind.Exited p) = top ≡ Phase.Answer
FromOp o top (Kind.Attached m d p r q) = (o ≡ Op.Attach m d p r) × (top ≡ Phase.Begin)
FromOp o top (Kind.Detaching m q) = (is_detach o ≡ true) × (top ≡ Phase.Begin)
FromOp o top (Kind.Detached m) = (top ≡ Phase.Begin) ⊎ ((q : ℕ) × (top ≡ Phase.Detaching q))
FromOp o top k = ⊤

abbrev pub Given : Op → Phase → Next → Type 0
Given o top (Do k) = FromOp o top k
Given o top (Wait y) = ⊤

abbrev GivenSome : Op → Phase → Option Kind → Type 0
GivenSome o top None = ⊤
GivenSome o top (Some k) = FromOp o top k

rlock_from : (s : After) (o : Op) (top : Phase) (p : ℕ) → Given o top (rlock s p)
rlock_from s o top p = either_option (Given o top) (writer s.locks p) _ _ (λ e. tt) (λ b e. tt)

wlock_from : (s : After) (o : Op) (top : Phase) (p a : ℕ) → Given o top (wlock s p a)
wlock_from s o top p a = either_option (Given o top) (lowest_other s.locks p a) _ _ (λ e. tt) (λ b e. tt)

answer_from : (s : After) (o : Op) (top : Phase) (k : ℕ) → (op_writes o ≡ true → stores o ≡ true) → FromOp o top (answer_of_piece s o k)
answer_from s o top k w = either (FromOp o top) (op_writes o) _ _ w (λ e. tt)

-- an exclusive operation may be refused here
abbrev Sole : Op → Phase → Type 0
Sole o top = is_exclusive_op o ≡ true → refuses o top ≡ true

fails_from : (o : Op) (top : Phase) (k : ℕ) (n : Cause) → Sole o top → FromOp o top (fails o k n)
fails_from o top k n x = either (FromOp o top) (is_exclusive_op o) _ _ x (λ e. tt)

cpu_from : (s : After) (o : Op) (top : Phase) (k p : ℕ) → (op_writes o ≡ true → stores o ≡ true) → Given o top (due_cpu s o k p)
cpu_from s o top k p w = either (Given o top) (s.plain.there p) _ _ (λ e. either (Given o top) (suits (op_writes o) (s.places.place p (page_of (op_piece o k).0))) _ _ (λ i. answer_from s o top k w) (λ i. rlock_from s o top p)) (λ e. tt)

mirror_from : (s : After) (o : Op) (top : Phase) (k m : ℕ) → (op_writes o ≡ true → stores o ≡ true) → Given o top (due_mirror s o k m)
mirror_from s o top k m w = let v : ℕ = page_of (op_piece o k).0 in
    either (Given o top) (in_window s.plain m (one_page v)) _ _ (λ e. either (Given o top) (is_usable (op_writes o) (s.places.table m v)) _ _ (λ i. answer_from s o top k w) (λ i. either (Given o top) (is_invalidating s m) _ _ (λ j. tt) (λ j. tt))) (λ e. tt)

add_from : (s : After) (a : ℕ) (o : Op) (top : Phase) (m at : ℕ) → Given o top (due_add s a o m at)
add_from s a o top m at = either (Given o top) (in_window s.plain m (one_page (page_of at))) _ _ (λ e. either (Given o top) (has_exclusive s a m (page_of at)) _ _ (λ i. tt) (λ i. rlock_from s o top (mirror_proc s.plain m))) (λ e. tt)

piece_from : (s : After) (a : ℕ) (o : Op) (k : ℕ) → Given o (Phase.Piece k) (due_piece s a o k)
piece_from s a (Op.Add m at n) k = add_from s a (Op.Add m at n) (Phase.Piece k) m at
piece_from s a (Op.DeviceLoad m at n) k = mirror_from s (Op.DeviceLoad m at n) (Phase.Piece k) k m (λ e. no_test e)
piece_from s a (Op.DeviceStore m at bs) k = mirror_from s (Op.DeviceStore m at bs) (Phase.Piece k) k m (λ e. refl)
piece_from s a (Op.Load p at n) k = cpu_from s (Op.Load p at n) (Phase.Piece k) k p (λ e. no_test e)
piece_from s a (Op.Store p at bs) k = cpu_from s (Op.Store p at bs) (Phase.Piece k) k p (λ e. refl)
piece_from s a o k = refl

fetched_from : (s : After) (a : ℕ) (o : Op) (old : ℕ) → Given o (Phase.Fetched old) (due_fetched s a o old)
fetched_from s a (Op.Add m at n) old = either (Given (Op.Add m at n) (Phase.Fetched old)) (has_exclusive s a m (page_of at)) _ _ (λ e. refl) (λ e. add_from s a (Op.Add m at n) (Phase.Fetched old) m at)
fetched_from s a o old = refl

take_from : (c : Program) (s : After) (o : Op) (top : Phase) (k : Kind) → FromOp o top k → Given o top (take_or c s k)
take_from c s o top k h = either_option (Given o top) (lowest_free c s.places PoolId.System) _ _ (λ i. h) (λ g i. tt)

fault_at_from : (c : Program) (s : After) (a : ℕ) (o : Op) (top : Phase) (k p v : ℕ) (x : Place) → Sole o top → Given o top (fault_at c s a o k p v x)
fault_at_from c s a o top k p v (Place.Moving f w) u = tt
fault_at_from c s a o top k p v (Place.Own d n w) u = either_option (Given o top) (other_locker s.locks (dev_frame d n) a) _ _ (λ i. tt) (λ b i. tt)
fault_at_from c s a o top k p v (Place.Exclusive n b) u = tt
fault_at_from c s a o top k p v Place.Empty u = either (Given o top) (op_writes o) _ _ (λ i. take_from c s o top (fails o k Cause.NoFrame) (fails_from o top k Cause.NoFrame u)) (λ i. tt)
fault_at_from c s a o top k p v Place.Zero u = take_from c s o top (fails o k Cause.NoFrame) (fails_from o top k Cause.NoFrame u)
fault_at_from c s a o top k p v (Place.Sys n w) u = either (Given o top) (is_used_once s (sys_frame n)) _ _ (λ i. tt) (λ i. take_from c s o top (fails o k Cause.NoFrame) (fails_from o top k Cause.NoFrame u))

fault_from : (c : Program) (s : After) (a : ℕ) (o : Op) (top : Phase) (k : ℕ) (suited : Place → Bool) (p v : ℕ) → Sole o top → Given o top (fault c s a o k suited p v)
fault_from c s a o top k suited p v u =
    either (Given o top) (is_none (rights_of s.plain p v)) _ _ (λ i. fails_from o top k Cause.Unmapped u)
    (λ i. either (Given o top) (op_writes o && is_read_only (rights_of s.plain p v)) _ _ (λ j. fails_from o top k Cause.Forbidden u)
    (λ j. either (Given o top) (suited (s.places.place p v)) _ _ (λ l. tt) (λ l. fault_at_from c s a o top k p v (s.places.place p v) u)))

sole_from : (c : Program) (s : After) (a : ℕ) (o : Op) (top : Phase) (m p v : ℕ) (x : Place) → Sole o top → Given o top (due_sole c s a o m p v x)
sole_from c s a o top m p v (Place.Exclusive n b) u = either (Given o top) (a == b) _ _ (λ i. either (Given o top) (is_invalidating s m) _ _ (λ j. tt) (λ j. tt)) (λ i. fault_from c s a o top 0 (suits true) p v u)
sole_from c s a o top m p v (Place.Sys n true) u = tt
sole_from c s a o top m p v x u = fault_from c s a o top 0 (suits true) p v u

decide_from : (c : Program) (s : After) (a : ℕ) (o : Op) (top : Phase) (touch : Touch) (p v : ℕ) → Sole o top → Given o top (due_decide c s a o touch p v)
decide_from c s a o top (Touch.Cpu k) p v u = fault_from c s a o top k (suits (op_writes o)) p v u
decide_from c s a o top (Touch.Walk k i q) p v u = either (Given o top) (repeats s (op_mirror o) q) _ _ (λ e. tt) (λ e. fault_from c s a o top k (suits_walk (mirror_dev s.plain (op_mirror o)) (op_writes o)) p v u)
decide_from c s a o top Touch.Sole p v u = either (Given o top) (is_attached s.plain (op_mirror o)) _ _ (λ e. sole_from c s a o top (op_mirror o) p v (s.places.place p v) u) (λ e. fails_from o top 0 Cause.Outside u)

taken_from : (s : After) (o : Op) (top : Phase) (g : Frame) (over : Place) (p v : ℕ) → Given o top (due_taken s g over p v)
taken_from s o top g over p v = either (Given o top) (same_place (s.places.place p v) over) _ _ (λ e. either_option (Given o top) (names over) _ _ (λ i. tt) (λ f i. tt)) (λ e. tt)

-- guards
within_from : (o : Op) (top : Phase) (r : Pages) (x : Option ℕ) (f : ℕ → Kind) → ((v : ℕ) → FromOp o top (f v)) → GivenSome o top (within r x f)
within_from o top r None f h = tt
within_from o top r (Some v) f h = either (GivenSome o top) (nat_lt v (r.first + r.count)) _ _ (λ e. h v) (λ e. tt)

when_from : (o : Op) (top : Phase) (b : Bool) (k : Kind) → FromOp o top k → GivenSome o top (if_so b k)
when_from o top b k h = either (GivenSome o top) b _ _ (λ e. h) (λ e. tt)

frozen_from : (s : After) (a : ℕ) (o : Op) (top : Phase) (p v : ℕ) (f : Frame) (w : Bool) → FromOp o top (kept_or_frozen s a p v f w)
frozen_from s a o top p v f w = either_option (FromOp o top) (other_locker s.locks f a) _ _ (λ e. tt) (λ b e. tt)

to_device_from : (s : After) (a : ℕ) (o : Op) (top : Phase) (p v : ℕ) (x : Place) → FromOp o top (select_to_device s a p v x)
to_device_from s a o top p v Place.Empty = tt
to_device_from s a o top p v Place.Zero = tt
to_device_from s a o top p v (Place.Sys n w) = frozen_from s a o top p v (sys_frame n) w
to_device_from s a o top p v x = tt

to_system_from : (s : After) (a : ℕ) (o : Op) (top : Phase) (d p v : ℕ) (x : Place) → FromOp o top (select_to_system s a d p v x)
to_system_from s a o top d p v (Place.Own e n w) = either (FromOp o top) (d == e) _ _ (λ i. frozen_from s a o top p v (dev_frame e n) w) (λ i. tt)
to_system_from s a o top d p v x = tt

select_from : (s : After) (a : ℕ) (o : Op) (top : Phase) (p v : ℕ) → FromOp o top (select_page s a o p v)
select_from s a o top p v = either (FromOp o top) (is_to_device o) _ _ (λ e. either_option (FromOp o top) (rights_of s.plain p v) _ _ (λ i. tt) (λ w i. to_device_from s a o top p v (s.places.place p v))) (λ e. to_system_from s a o top (mirror_dev s.plain (op_mirror o)) p v (s.places.place p v))

fork_from : (s : After) (o : Op) (top : Phase) (p d v : ℕ) → FromOp o top (fork_page s p d v)
fork_from s o top p d v = either (FromOp o top) (writable (s.places.place p v)) _ _ (λ e. tt) (λ e. tt)

restore_from : (o : Op) (top : Phase) (p v : ℕ) (x : Place) → GivenSome o top (restore_at p v x)
restore_from o top p v (Place.Exclusive n b) = tt
restore_from o top p v x = tt

body_from : (s : After) (a : ℕ) (o : Op) (top : Phase) (p : ℕ) (r : Pages) (x : Place) (body : Body) → GivenSome o top (due_body s a o p r x body)
body_from s a o top p r x Body.Nothing = tt
body_from s a o top p r x (Body.Zap v) = within_from o top r (next_page s.places is_used p v) (λ u. Kind.Place p u Place.Empty) (λ u. tt)
body_from s a o top p r x (Body.Narrow v) = within_from o top r (next_page s.places writable p v) _ (λ u. tt)
body_from s a o top p r x (Body.Fork v false) = within_from o top r (next_page s.places is_used p v) (fork_page s p (child_of o)) (λ u. fork_from s o top p (child_of o) u)
body_from s a o top p r x (Body.Fork v true) = tt
body_from s a o top p r x (Body.Select v) = within_from o top r (Some v) (select_page s a o p) (λ u. select_from s a o top p u)
body_from s a o top p r x (Body.Replace over g) = when_from o top (same_place x over) _ tt
body_from s a o top p r x Body.Restore = restore_from o top p r.first x
body_from s a o top p r x (Body.Catch f) = when_from o top (is_frame (names_directly x) f && is_none (s.locks.frame f)) _ tt
body_from s a o top p r x (Body.Freeze f) = when_from o top (is_frame (names_directly x) f) _ tt
body_from s a o top p r x (Body.Fresh g) = when_from o top (has_no_frame x) _ tt
body_from s a o top p r x (Body.Seize f) = when_from o top (same_place x (Place.Sys f.number true)) _ tt

end_from : (s : After) (o : Op) (top : Phase) (p : ℕ) (r : Pages) (x : Option Kind) → GivenSome o top x → FromOp o top (body_or_end s p r x)
end_from s o top p r None h = tt
end_from s o top p r (Some k) h = h

guard_from : (s : After) (a : ℕ) (o : Op) (top : Phase) (p : ℕ) (r : Pages) (met : Bool) (told : Option ℕ) (body : Body) → FromOp o top (due_guard s a o p r met told body)
guard_from s a o top p r met told body = either_option (FromOp o top) (to_tell s p r met told) _ _ (λ e. end_from s o top p r _ (body_from s a o top p r (s.places.place p r.first) body)) (λ m e. tt)

-- frames
alone_from : (c : Program) (s : After) (o : Op) (top : Phase) (f : Frame) (at : _) → FromOp o top (due_emptying c s f at)
alone_from c s o top f at = either_option (FromOp o top) (lowest_direct s.places f) _ _ (λ e. either_option (FromOp o top) (lowest_free c s.places PoolId.System) _ _ (λ i. tt) (λ g i. tt)) (λ x e. tt)

settle_from : (s : After) (o : Op) (top : Phase) (g : Frame) → FromOp o top (settle s g)
settle_from s o top g = either_option (FromOp o top) (lowest_named s.places g) _ _ (λ e. tt) (λ x e. tt)

finish_from : (s : After) (o : Op) (top : Phase) (f : Frame) (to : Option Frame) → FromOp o top (due_finish s f to)
finish_from s o top f None = either_option (FromOp o top) (lowest_moving s.places f) _ _ (λ e. settle_from s o top f) (λ x e. tt)
finish_from s o top f (Some g) = either_option (FromOp o top) (lowest_moving s.places f) _ _ (λ e. tt) (λ x e. tt)

give_up_from : (o : Op) (touch : Option Touch) → FromOp o (Phase.GiveUp touch) (due_give_up o touch)
give_up_from o None = refl
give_up_from o (Some touch) = fails_from o (Phase.GiveUp (Some touch)) _ Cause.NoFrame (λ e. e)

frames_of_from : (c : Program) (s : After) (a : ℕ) (o : Op) (top : Phase) (d : ℕ) (remove : Bool) (v n : ℕ) → refuses o top ≡ true → Given o top (due_frames_of c s a d remove v n)
frames_of_from c s a o top d remove v n u = either (Given o top) (remove && not (s.places.withdrawn d)) _ _ (λ e. tt)
    (λ e. either_option (Given o top) (held_from c s.places d v) _ _ (λ i. either (FromOp o top) remove _ _ (λ j. either (FromOp o top) (s.places.removed d) _ _ (λ l. u) (λ l. tt)) (λ j. tt))
    (λ k i. either_option (Given o top) (other_locker s.locks (dev_frame d k) a) _ _ (λ j. either_option (Given o top) (lowest_named s.places (dev_frame d k)) _ _ (λ l. tt) (λ x l. tt)) (λ b j. either (Given o top) remove _ _ (λ l. tt) (λ l. tt))))

frames_from : (c : Program) (s : After) (a : ℕ) (o : Op) (v n : ℕ) → Given o (Phase.Frames v n) (due_frames c s a o v n)
frames_from c s a (Op.Evict d) v n = frames_of_from c s a (Op.Evict d) (Phase.Frames v n) d false v n refl
frames_from c s a (Op.Remove d) v n = frames_of_from c s a (Op.Remove d) (Phase.Frames v n) d true v n refl
frames_from c s a o v n = refl

-- migrations
others_from : (s : After) (o : Op) (top : Phase) (x : Option Frame) → refuses o top ≡ true → FromOp o top (others_of s x)
others_from s o top None u = u
others_from s o top (Some f) u = either_option (FromOp o top) (lowest_direct s.places f) _ _ (λ e. u) (λ x e. tt)

fetch_from : (c : Program) (s : After) (o : Op) (top : Phase) (v : ℕ) → FromOp o top (fetch_page c s o v)
fetch_from c s o top v = either (FromOp o top) (skips c o v) _ _ (λ e. tt) (λ e. either_option (FromOp o top) (lowest_free c s.places (pool_of s o)) _ _ (λ i. tt) (λ g i. tt))

commit_from : (s : After) (o : Op) (top : Phase) (p v : ℕ) (f g : Option Frame) → refuses o top ≡ true → FromOp o top (commit_page s p v f g)
commit_from s o top p v (Some f) (Some g) u = tt
commit_from s o top p v None (Some g) u = either (FromOp o top) (has_no_frame (s.places.place p v)) _ _ (λ e. tt) (λ e. tt)
commit_from s o top p v None None u = u
commit_from s o top p v (Some f) None u = u

page_from : (s : After) (o : Op) (top : Phase) (f to : Option Frame) (moved : Bool) → refuses o top ≡ true → FromOp o top (finish_page s f to moved)
page_from s o top (Some f) to moved u = finish_from s o top f (if moved then to else None)
page_from s o top None (Some g) moved u = tt
page_from s o top None None moved u = u

step_from : (c : Program) (s : After) (o : Op) (top : Phase) (step : MoveStep) (x : Migrating) → refuses o top ≡ true → FromOp o top (due_step c s o step x)
step_from c s o top MoveStep.FreezeOthers x u = others_from s o top x.source u
step_from c s o top MoveStep.TakeAndCopy x u = fetch_from c s o top x.page
step_from c s o top MoveStep.Commit x u = commit_from s o top (mirror_proc s.plain (op_mirror o)) x.page x.source x.dest u
step_from c s o top MoveStep.SetOwnTable x u = tt
step_from c s o top MoveStep.Finish x u = page_from s o top x.source x.dest x.moved u

moves_from : (c : Program) (s : After) (o : Op) (top : Phase) (xs : List Migrating) (at : Option (MoveStep × Migrating)) → refuses o top ≡ true → FromOp o top (due_moves c s o xs at)
moves_from c s o top xs None u = tt
moves_from c s o top xs (Some at) u = step_from c s o top at.0 at.1 u

-- first turns
under_wlock_from : (s : After) (a : ℕ) (o : Op) (p : ℕ) → Given o Phase.Begin (under_wlock s a p)
under_wlock_from s a o p = either (Given o Phase.Begin) (s.plain.there p) _ _ (λ e. wlock_from s o Phase.Begin p a) (λ e. refl)

in_window_from : (s : After) (o : Op) (m : ℕ) (r : Pages) → Given o Phase.Begin (in_window_rlock s m r)
in_window_from s o m r = either (Given o Phase.Begin) (in_window s.plain m r) _ _ (λ e. rlock_from s o Phase.Begin (mirror_proc s.plain m)) (λ e. refl)

begin_from : (s : After) (a : ℕ) (o : Op) → Given o Phase.Begin (due_begin s a o)
begin_from s a (Op.Map p r w) = under_wlock_from s a (Op.Map p r w) p
begin_from s a (Op.Unmap p r) = under_wlock_from s a (Op.Unmap p r) p
begin_from s a (Op.Protect p r w) = under_wlock_from s a (Op.Protect p r w) p
begin_from s a (Op.Exit p) = under_wlock_from s a (Op.Exit p) p
begin_from s a (Op.Fork p d) = under_wlock_from s a (Op.Fork p d) p
begin_from s a (Op.Attach m d p r) = either (FromOp (Op.Attach m d p r) Phase.Begin) (is_some (s.plain.mirrors m)) _ _ (λ e. refl) (λ e. either (FromOp (Op.Attach m d p r) Phase.Begin) (s.plain.there p) _ _ (λ i. (refl, refl)) (λ i. refl))
begin_from s a (Op.Detach m) = either (FromOp (Op.Detach m) Phase.Begin) (is_attached s.plain m) _ _ (λ e. either (FromOp (Op.Detach m) Phase.Begin) (not (is_odd (process_seq s m)) || insert_deferred s.sequences m) _ _ (λ i. inl refl) (λ i. (refl, refl))) (λ e. refl)
begin_from s a (Op.Snap m r) = in_window_from s (Op.Snap m r) m r
begin_from s a (Op.ToDevice m r) = in_window_from s (Op.ToDevice m r) m r
begin_from s a (Op.ToSystem m r) = in_window_from s (Op.ToSystem m r) m r
begin_from s a (Op.Exclusive m v) = in_window_from s (Op.Exclusive m v) m (one_page v)
begin_from s a o = refl

areas_from : (s : After) (o : Op) → FromOp o Phase.Locked (due_areas s o)
areas_from s (Op.Map p r w) = (refl, refl)
areas_from s (Op.Unmap p r) = either (FromOp (Op.Unmap p r) Phase.Locked) (meets r (s.plain.areas p)) _ _ (λ e. tt) (λ e. inl refl)
areas_from s (Op.Protect p r w) = tt
areas_from s (Op.Exit p) = tt
areas_from s (Op.Fork p d) = either (FromOp (Op.Fork p d) Phase.Locked) ((d == 0) || s.plain.named d) _ _ (λ e. refl) (λ e. (refl, refl))
areas_from s o = refl

locked_from : (s : After) (o : Op) → FromOp o Phase.Locked (due_locked s o)
locked_from s o = either (FromOp o Phase.Locked) (s.plain.there (proc_of_op o)) _ _ (λ e. either_option (FromOp o Phase.Locked) (area_refusal s.plain o) _ _ (λ i. areas_from s o) (λ n i. refl)) (λ e. refl)

ready_from : (s : After) (o : Op) → FromOp o Phase.Ready (due_ready s o)
ready_from s (Op.Fork p d) = tt
ready_from s (Op.ToDevice m r) = tt
ready_from s (Op.ToSystem m r) = tt
ready_from s o = refl

answers_from : (s : After) (o : Op) → FromOp o Phase.Answer (due_answer s o)
answers_from s (Op.Unmap p r) = inr refl
answers_from s (Op.Protect p r w) = refl
answers_from s (Op.Exit p) = refl
answers_from s (Op.Fork p d) = refl
answers_from s (Op.Exclusive m v) = tt
answers_from s o = tt

pages_from_op : (s : After) (o : Op) (v : ℕ) → FromOp o (Phase.Pages v) (due_pages s o v)
pages_from_op s (Op.Snap m r) v = either (FromOp (Op.Snap m r) (Phase.Pages v)) (nat_lt v (r.first + r.count)) _ _ (λ e. tt) (λ e. tt)
pages_from_op s o v = refl

pub from_op : (c : Program) (s : After) (a : ℕ) (o : Op) (xs : List Migrating) (top : Phase) → Given o top (due_phase c s a o xs top)
from_op c s a o xs Phase.Begin = begin_from s a o
from_op c s a o xs Phase.Locked = locked_from s o
from_op c s a o xs Phase.Ready = ready_from s o
from_op c s a o xs Phase.Answer = answers_from s o
from_op c s a o xs (Phase.Detaching q) = either (Given o (Phase.Detaching q)) (in_tree s.sequences (op_mirror o)) _ _ (λ e. tt) (λ e. inr (q, refl))
from_op c s a o xs (Phase.Pages v) = pages_from_op s o v
from_op c s a o xs (Phase.Piece k) = piece_from s a o k
from_op c s a o xs (Phase.Fetched old) = fetched_from s a o old
from_op c s a o xs (Phase.Begun k at q) = rlock_from s o (Phase.Begun k at q) (mirror_proc s.plain (op_mirror o))
from_op c s a o xs (Phase.Decide touch) = decide_from c s a o (Phase.Decide touch) touch (touch_proc s o) (touch_page o touch) (λ e. e)
from_op c s a o xs (Phase.Noted k at q x) = either (Given o (Phase.Noted k at q x)) (repeats s (op_mirror o) q) _ _ (λ e. tt) (λ e. tt)
from_op c s a o xs (Phase.Taken touch g x) = taken_from s o (Phase.Taken touch g x) g x (touch_proc s o) (touch_page o touch)
from_op c s a o xs (Phase.Armed touch g x) = tt
from_op c s a o xs (Phase.Guard p r met told body) = guard_from s a o (Phase.Guard p r met told body) p r met told body
from_op c s a o xs (Phase.Drop f) = tt
from_op c s a o xs (Phase.Emptying f at) = alone_from c s o (Phase.Emptying f at) f at
from_op c s a o xs (Phase.Copy f g k) = tt
from_op c s a o xs (Phase.Copied f g) = tt
from_op c s a o xs (Phase.Finish f to) = finish_from s o (Phase.Finish f to) f to
from_op c s a o xs (Phase.Settle g) = settle_from s o (Phase.Settle g) g
from_op c s a o xs (Phase.GiveUp touch) = give_up_from o touch
from_op c s a o xs (Phase.Frames v n) = frames_from c s a o v n
from_op c s a o xs (Phase.Moves step v) = moves_from c s o (Phase.Moves step v) xs (coming s o xs (Phase.Moves step v)) refl
from_op c s a o xs (Phase.Lost v g) = tt
