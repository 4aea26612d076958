-- Which entries may be due at a phase.
use Rattle.std.proofs.Common.{refl}
use Rattle.std.specs.Prelude.{◌≡◌, ℕ, ◌+◌, Bool, true, false, not, ◌&&◌, ◌||◌, ◌==◌, nat_lt, is_some, Option, Some}
use Rattle.std.specs.Prelude.{None}
use Rattle.hm_base.specs.Pages.{Pages, one_page}
use Rattle.hm_base.specs.Program.{Program}
use Rattle.hm_base.specs.declared.Frame.{Frame}
use Rattle.hm_base.specs.declared.ops.Op.{Op}
use Rattle.hm_history.specs.Memory.Plain.{area_refusal, meets, is_attached, in_window, mirror_proc}
use Rattle.hm_history.specs.Memory.Places.{lowest_named, held_from}
use Rattle.hm_history.specs.Memory.Sequences.{is_odd, insert_deferred}
use Rattle.hm_history.specs.Memory.Locks.{writer, lowest_other, other_locker}
use Rattle.hm_history.specs.Memory.After.{After}
use Rattle.hm_history.specs.Kernel.Operation.{op_mirror}
use Rattle.hm_history.specs.Kernel.Due as due
use Rattle.hm_history.specs.Kernel.Due.{fails}
use Rattle.hm_history.specs.declared.TableRight.{TableRight}
use Rattle.hm_history.specs.declared.Kind.{Kind}
use Rattle.hm_history.specs.declared.phases.MoveStep.{MoveStep}
use Rattle.hm_history.specs.declared.phases.Touch.{Touch}
use Rattle.hm_history.specs.declared.phases.Phase.{Phase}
use Rattle.hm_history.specs.declared.phases.Next.{Next}
use Rattle.hm_history.specs.declared.phases.Next.TheVariants.{Do, Wait}
use Rattle.hm_laws.proofs.Due.Good.{either, either_option}

-- ---- tests of entries

-- a table is set
abbrev pub is_set : Kind → Bool
is_set (Kind.Set m v f w from) = true
is_set k = false

-- the answer of a migration
abbrev pub is_answer : Kind → Bool
is_answer (Kind.Migrated n) = true
is_answer k = false

-- neither a `Begin` nor a `Set`, nor the answer of a migration
abbrev pub is_plain : Kind → Bool
is_plain (Kind.Begin m q) = false
is_plain (Kind.Set m v f w from) = false
is_plain (Kind.Migrated n) = false
is_plain k = true

-- such a one, or a `Begin` of this mirror
abbrev pub is_of_piece : ℕ → Kind → Bool
is_of_piece m (Kind.Begin n q) = n == m
is_of_piece m k = is_plain k

-- a walk's lock is taken
abbrev pub is_rlock : Kind → Bool
is_rlock (Kind.Rlock p) = true
is_rlock k = false

-- a walk decides
abbrev pub is_of_walk : Kind → Bool
is_of_walk (Kind.Failed x at n why) = true
is_of_walk (Kind.Retry m) = true
is_of_walk (Kind.Runlock p) = true
is_of_walk (Kind.Place p v x) = true
is_of_walk (Kind.Take g) = true
is_of_walk (Kind.Start p r q) = true
is_of_walk k = false

-- another fault decides: it sets a page for its actor alone
abbrev pub is_of_fault : Kind → Bool
is_of_fault (Kind.Begin m q) = false
is_of_fault (Kind.Set m v f TableRight.Sole from) = true
is_of_fault (Kind.Set m v f w from) = false
is_of_fault (Kind.Migrated n) = false
is_of_fault k = true

-- a look-up is committed, or given up
abbrev pub is_commit : Kind → Bool
is_commit (Kind.Retry m) = true
is_commit (Kind.Set m v f w from) = true
is_commit k = false

-- the access fails
abbrev pub is_failed : Kind → Bool
is_failed (Kind.Failed x at n why) = true
is_failed k = false

-- or the operation is refused
abbrev pub is_giving_up : Kind → Bool
is_giving_up (Kind.Failed x at n why) = true
is_giving_up (Kind.Refused why) = true
is_giving_up k = false

-- an entry of a guard, or of a frame that is emptied, returns or is dropped
abbrev pub is_inner : Kind → Bool
is_inner (Kind.Told m r q) = true
is_inner (Kind.End p r q) = true
is_inner (Kind.Start p r q) = true
is_inner (Kind.Place p v x) = true
is_inner (Kind.Fresh p v) = true
is_inner (Kind.Kept what why) = true
is_inner (Kind.Take g) = true
is_inner (Kind.Drop f) = true
is_inner (Kind.Done f) = true
is_inner (Kind.Copied f g part) = true
is_inner (Kind.Committed f g) = true
is_inner k = false

-- an entry of a migration's step, or its answer
abbrev pub is_of_move : Kind → Bool
is_of_move (Kind.Start p r q) = true
is_of_move (Kind.Place p v x) = true
is_of_move (Kind.Kept what why) = true
is_of_move (Kind.Take g) = true
is_of_move (Kind.Drop f) = true
is_of_move (Kind.Done f) = true
is_of_move (Kind.Committed f g) = true
is_of_move (Kind.Set m v f w from) = true
is_of_move (Kind.Refused why) = true
is_of_move (Kind.Migrated n) = true
is_of_move k = false

-- the step sets a table
abbrev pub is_setting : MoveStep → Bool
is_setting MoveStep.SetOwnTable = true
is_setting step = false

-- an entry of this step
abbrev pub is_of_step : MoveStep → Kind → Bool
is_of_step step (Kind.Set m v f w from) = is_setting step
is_of_step step (Kind.Migrated n) = false
is_of_step step k = is_of_move k

-- a walk decides there, or was given up
abbrev pub is_at_walk : Phase → Bool
is_at_walk (Phase.Decide (Touch.Walk n since q)) = true
is_at_walk (Phase.GiveUp (Some (Touch.Walk n since q))) = true
is_at_walk top = false

-- what may be due at a phase
abbrev pub may : Op → Phase → Kind → Bool
may o (Phase.Piece n) k = is_of_piece (op_mirror o) k
may o (Phase.Fetched old) k = is_plain k
may o (Phase.Begun n since q) k = is_rlock k
may o (Phase.Decide (Touch.Walk n since q)) k = is_of_walk k
may o (Phase.Decide touch) k = is_of_fault k
may o (Phase.Noted n since q x) k = is_commit k
may o (Phase.GiveUp (Some (Touch.Walk n since q))) k = is_failed k
may o (Phase.GiveUp touch) k = is_giving_up k
may o (Phase.Moves step v) k = is_of_move k
may o (Phase.Taken touch g x) k = is_inner k
may o (Phase.Armed touch g x) k = is_inner k
may o (Phase.Guard p r met told body) k = is_inner k
may o (Phase.Drop f) k = is_inner k
may o (Phase.Emptying f what) k = is_inner k
may o (Phase.Copy f g n) k = is_inner k
may o (Phase.Copied f g) k = is_inner k
may o (Phase.Finish f to) k = is_inner k
may o (Phase.Settle g) k = is_inner k
may o (Phase.Lost v g) k = is_inner k
may o top k = is_plain k

-- ---- what passes

abbrev pub next_passes : (Kind → Bool) → Next → Bool
next_passes f (Do k) = f k
next_passes f (Wait why) = true

abbrev pub Passes : (Kind → Bool) → Next → Type 0
Passes f n = next_passes f n ≡ true

abbrev pub Is : (Kind → Bool) → Kind → Type 0
Is f k = f k ≡ true

abbrev pub option_passes : (Kind → Bool) → Option Kind → Bool
option_passes f None = true
option_passes f (Some k) = f k

abbrev pub If : (Kind → Bool) → Option Kind → Type 0
If f x = option_passes f x ≡ true

pub locks : (f : Kind → Bool) (s : After) (p : ℕ) → f (Kind.Rlock p) ≡ true → Passes f (due.rlock s p)
locks f s p h = either_option (Passes f) (writer s.locks p) _ _ (λ n. h) (λ b n. refl)

wlocks : (s : After) (a p : ℕ) → Passes is_plain (due.under_wlock s a p)
wlocks s a p = either (Passes is_plain) (s.plain.there p) _ _
    (λ e. either_option (Passes is_plain) (lowest_other s.locks p a) _ _ (λ n. refl) (λ b n. refl)) (λ e. refl)

in_window_locks : (s : After) (m : ℕ) (r : Pages) → Passes is_plain (due.in_window_rlock s m r)
in_window_locks s m r = either (Passes is_plain) (in_window s.plain m r) _ _
    (λ e. locks is_plain s (mirror_proc s.plain m) refl) (λ e. refl)

attaches : (s : After) (m d p : ℕ) (r : Pages) → Is is_plain (due.due_attach s m d p r)
attaches s m d p r = either (Is is_plain) (is_some (s.plain.mirrors m)) _ _ (λ e. refl)
    (λ e. either (Is is_plain) (s.plain.there p) _ _ (λ i. refl) (λ i. refl))

detaches : (s : After) (m : ℕ) → Is is_plain (due.due_detach s m)
detaches s m = either (Is is_plain) (is_attached s.plain m) _ _
    (λ e. either (Is is_plain) (not (is_odd (due.process_seq s m)) || insert_deferred s.sequences m) _ _ (λ i. refl)
    (λ i. refl))
    (λ e. refl)

pub begins : (s : After) (a : ℕ) (o : Op) → Passes is_plain (due.due_begin s a o)
begins s a (Op.Map p r w) = wlocks s a p
begins s a (Op.Unmap p r) = wlocks s a p
begins s a (Op.Protect p r w) = wlocks s a p
begins s a (Op.Exit p) = wlocks s a p
begins s a (Op.Fork p child) = wlocks s a p
begins s a (Op.Attach m d p r) = attaches s m d p r
begins s a (Op.Detach m) = detaches s m
begins s a (Op.Snap m r) = in_window_locks s m r
begins s a (Op.ToDevice m r) = in_window_locks s m r
begins s a (Op.ToSystem m r) = in_window_locks s m r
begins s a (Op.Exclusive m v) = in_window_locks s m (one_page v)
begins s a o = refl

areas : (s : After) (o : Op) → Is is_plain (due.due_areas s o)
areas s (Op.Map p r w) = refl
areas s (Op.Unmap p r) = either (Is is_plain) (meets r (s.plain.areas p)) _ _ (λ e. refl) (λ e. refl)
areas s (Op.Protect p r w) = refl
areas s (Op.Exit p) = refl
areas s (Op.Fork p child) = either (Is is_plain) ((child == 0) || s.plain.named child) _ _ (λ e. refl) (λ e. refl)
areas s o = refl

pub locked : (s : After) (o : Op) → Is is_plain (due.due_locked s o)
locked s o = either (Is is_plain) (s.plain.there (due.proc_of_op o)) _ _
    (λ e. either_option (Is is_plain) (area_refusal s.plain o) _ _ (λ n. areas s o) (λ b n. refl)) (λ e. refl)

pub ready : (s : After) (o : Op) → Is is_plain (due.due_ready s o)
ready s (Op.Fork p child) = refl
ready s (Op.ToDevice m r) = refl
ready s (Op.ToSystem m r) = refl
ready s o = refl

pub answers : (s : After) (o : Op) → Is is_plain (due.due_answer s o)
answers s (Op.Unmap p r) = refl
answers s (Op.Protect p r w) = refl
answers s (Op.Exit p) = refl
answers s (Op.Fork p child) = refl
answers s (Op.Exclusive m v) = refl
answers s o = refl

pub pages : (s : After) (o : Op) (v : ℕ) → Is is_plain (due.due_pages s o v)
pages s (Op.Snap m r) v = either (Is is_plain) (nat_lt v (r.first + r.count)) _ _ (λ e. refl) (λ e. refl)
pages s o v = refl

frames_at : (s : After) (a : ℕ) (remove : Bool) (f : Frame) → Passes is_plain (due.frame_at s a remove f)
frames_at s a remove f = either_option (Passes is_plain) (other_locker s.locks f a) _ _
    (λ n. either_option (Passes is_plain) (lowest_named s.places f) _ _ (λ n. refl) (λ x n. refl))
    (λ b n. either (Passes is_plain) remove _ _ (λ e. refl) (λ e. refl))

frames_of : (c : Program) (s : After) (a d : ℕ) (remove : Bool) (v n : ℕ)
    → Passes is_plain (due.due_frames_of c s a d remove v n)
frames_of c s a d remove v n = either (Passes is_plain) (remove && not (s.places.withdrawn d)) _ _ (λ e. refl)
    (λ e. either_option (Passes is_plain) (held_from c s.places d v) _ _
    (λ n. either (Is is_plain) remove _ _ (λ e. either (Is is_plain) (s.places.removed d) _ _ (λ i. refl) (λ i. refl))
    (λ e. refl))
    (λ k n. frames_at s a remove _))

pub frames : (c : Program) (s : After) (a : ℕ) (o : Op) (v n : ℕ) → Passes is_plain (due.due_frames c s a o v n)
frames c s a (Op.Evict d) v n = frames_of c s a d false v n
frames c s a (Op.Remove d) v n = frames_of c s a d true v n
frames c s a o v n = refl
