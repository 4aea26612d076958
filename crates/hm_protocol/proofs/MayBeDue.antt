-- Of each phase: what is due there is what may be.
use Rattle.std.proofs.Common.{refl, sym, ◌∙◌}
use Rattle.std.proofs.lemmas.Bool.{true≢false, false≢true}
use Rattle.std.specs.Prelude.{◌≡◌, ℕ, ◌+◌, Bool, true, false, ◌&&◌, ◌==◌, nat_lt, is_none, Option, Some, None, List}
use Rattle.hm_base.specs.Pages.{Pages, one_page}
use Rattle.hm_base.specs.Program.{Program}
use Rattle.hm_base.specs.declared.Frame.{Frame}
use Rattle.hm_base.specs.declared.Place.{Place}
use Rattle.hm_base.specs.declared.PoolId.{PoolId}
use Rattle.hm_base.specs.declared.cause.Cause.{Cause}
use Rattle.hm_base.specs.declared.ops.Op.{Op}
use Rattle.hm_history.specs.Memory.Words.{page_of, sys_frame, names, writable, same_place}
use Rattle.hm_history.specs.Memory.Plain.{rights_of, is_read_only, is_attached, in_window, mirror_proc, mirror_dev}
use Rattle.hm_history.specs.Memory.Places.{lowest_direct, lowest_moving, lowest_named, lowest_free}
use Rattle.hm_history.specs.Memory.Sequences.{in_tree}
use Rattle.hm_history.specs.Memory.Locks.{other_locker}
use Rattle.hm_history.specs.Memory.After.{After}
use Rattle.hm_history.specs.Kernel.Operation.{op_piece, op_mirror, op_writes, is_exclusive_op, is_to_device}
use Rattle.hm_history.specs.Kernel.Going.{touch_page, touch_proc, coming}
use Rattle.hm_history.specs.Kernel.Due as due
use Rattle.hm_history.specs.Kernel.Due.{due_phase, fails, has_no_frame}
use Rattle.hm_history.specs.declared.KeptAt.{KeptAt}
use Rattle.hm_history.specs.declared.Kind.{Kind}
use Rattle.hm_history.specs.declared.phases.Migrating.{Migrating}
use Rattle.hm_history.specs.declared.phases.MoveStep.{MoveStep}
use Rattle.hm_history.specs.declared.phases.Touch.{Touch}
use Rattle.hm_history.specs.declared.phases.Body.{Body}
use Rattle.hm_history.specs.declared.phases.Phase.{Phase}
use Rattle.hm_history.specs.declared.phases.Next.{Next}
use Rattle.hm_history.specs.declared.phases.Next.TheVariants.{Do, Wait}
use Rattle.hm_laws.proofs.Due.Good.{either, either_option}
use Rattle.hm_laws.proofs.Migration.Setup.{at_itself}
use Rattle.hm_protocol.proofs.DueKinds as kinds
use Rattle.hm_protocol.proofs.DueKinds.{is_plain, is_of_piece, is_rlock, is_of_walk, is_of_fault, is_commit}
use Rattle.hm_protocol.proofs.DueKinds.{is_giving_up, is_failed, is_at_walk}
use Rattle.hm_protocol.proofs.DueKinds.{is_inner, is_of_move, is_of_step, may, Passes, Is, If, locks}

-- ---- accesses and faults

-- what a fault's decision may be, beside its failure
record Decides (f : Kind → Bool) (o : Op) : Type 0 where
  pub failing : (k : ℕ) (why : Cause) → f (fails o k why) ≡ true
  pub unlocks : (p : ℕ) → f (Kind.Runlock p) ≡ true
  pub places : (p v : ℕ) (x : Place) → f (Kind.Place p v x) ≡ true
  pub takes : (g : Frame) → f (Kind.Take g) ≡ true
  pub starts : (p q : ℕ) (r : Pages) → f (Kind.Start p r q) ≡ true

takes_or : (f : Kind → Bool) (c : Program) (s : After) (k : Kind) → ((g : Frame) → f (Kind.Take g) ≡ true) → f k ≡ true
    → Passes f (due.take_or c s k)
takes_or f c s k h g = either_option (Passes f) (lowest_free c s.places PoolId.System) _ _ (λ n. g) (λ x n. h x)

homes : (f : Kind → Bool) (o : Op) (s : After) (a p v : ℕ) (g : Frame) → Decides f o
    → Passes f (due.bring_home s a p v g)
homes f o s a p v g h = either_option (Passes f) (other_locker s.locks g a) _ _ (λ n. h.starts p _ (one_page v))
    (λ b n. refl)

faults_at : (f : Kind → Bool) (c : Program) (s : After) (a : ℕ) (o : Op) (k p v : ℕ) (x : Place) → Decides f o
    → Passes f (due.fault_at c s a o k p v x)
faults_at f c s a o k p v (Place.Moving g w) h = refl
faults_at f c s a o k p v (Place.Own d n w) h = homes f o s a p v _ h
faults_at f c s a o k p v (Place.Exclusive n b) h = h.starts p _ (one_page v)
faults_at f c s a o k p v Place.Empty h = either (Passes f) (op_writes o) _ _
    (λ e. takes_or f c s _ h.takes (h.failing k Cause.NoFrame)) (λ e. h.places p v Place.Zero)
faults_at f c s a o k p v Place.Zero h = takes_or f c s _ h.takes (h.failing k Cause.NoFrame)
faults_at f c s a o k p v (Place.Sys n w) h = either (Passes f) (due.is_used_once s (sys_frame n)) _ _
    (λ e. h.places p v (Place.Sys n true)) (λ e. takes_or f c s _ h.takes (h.failing k Cause.NoFrame))

faults : (f : Kind → Bool) (c : Program) (s : After) (a : ℕ) (o : Op) (k : ℕ) (suited : Place → Bool) (p v : ℕ)
    → Decides f o → Passes f (due.fault c s a o k suited p v)
faults f c s a o k suited p v h = either (Passes f) (is_none (rights_of s.plain p v)) _ _
    (λ e. h.failing k Cause.Unmapped) (λ e. either (Passes f) (op_writes o && is_read_only (rights_of s.plain p v)) _ _
    (λ e. h.failing k Cause.Forbidden) (λ e. either (Passes f) (suited (s.places.place p v)) _ _
    (λ e. h.unlocks p) (λ e. faults_at f c s a o k p v (s.places.place p v) h)))

by_fault : (o : Op) → Decides is_of_fault o
by_fault o = record {
  failing = λ k why. either (Is is_of_fault) (is_exclusive_op o) _ _ (λ e. refl) (λ e. refl);
  unlocks = λ p. refl;
  places = λ p v x. refl;
  takes = λ g. refl;
  starts = λ p q r. refl;
}

-- an access through a mirror fails, and is not refused
by_walk : (o : Op) → is_exclusive_op o ≡ false → Decides is_of_walk o
by_walk o h = record {
  failing = λ k why. either (Is is_of_walk) (is_exclusive_op o) _ _ (λ e. absurd (true≢false (sym e ∙ h))) (λ e. refl);
  unlocks = λ p. refl;
  places = λ p v x. refl;
  takes = λ g. refl;
  starts = λ p q r. refl;
}

soles : (c : Program) (s : After) (a : ℕ) (o : Op) (m p v : ℕ) (x : Place)
    → Passes is_of_fault (due.due_sole c s a o m p v x)
soles c s a o m p v (Place.Exclusive n b) = either (Passes is_of_fault) (a == b) _ _
    (λ e. either (Passes is_of_fault) (due.is_invalidating s m) _ _ (λ e. refl) (λ e. refl))
    (λ e. faults is_of_fault c s a o 0 (due.suits true) p v (by_fault o))
soles c s a o m p v (Place.Sys n true) = refl
soles c s a o m p v x = faults is_of_fault c s a o 0 (due.suits true) p v (by_fault o)

decides : (c : Program) (s : After) (a : ℕ) (o : Op) (touch : Touch) (p v : ℕ)
    → (is_at_walk (Phase.Decide touch) ≡ true → is_exclusive_op o ≡ false)
    → Passes (may o (Phase.Decide touch)) (due.due_decide c s a o touch p v)
decides c s a o (Touch.Cpu k) p v h = faults is_of_fault c s a o k (due.suits (op_writes o)) p v (by_fault o)
decides c s a o (Touch.Walk k since q) p v h = either (Passes is_of_walk) (due.repeats s (op_mirror o) q) _ _
    (λ e. refl) (λ e. faults is_of_walk c s a o k (due.suits_walk (mirror_dev s.plain (op_mirror o)) (op_writes o)) p v
    (by_walk o (h refl)))
decides c s a o Touch.Sole p v h = either (Passes is_of_fault) (is_attached s.plain (op_mirror o)) _ _
    (λ e. soles c s a o (op_mirror o) p v (s.places.place p v))
    (λ e. (by_fault o).failing 0 Cause.Outside)

pub adds : (s : After) (a : ℕ) (o : Op) (m at : ℕ) → Passes is_plain (due.due_add s a o m at)
adds s a o m at = either (Passes is_plain) (in_window s.plain m (one_page (page_of at))) _ _
    (λ e. either (Passes is_plain) (due.has_exclusive s a m (page_of at)) _ _
    (λ i. refl) (λ i. locks is_plain s (mirror_proc s.plain m) refl)) (λ e. refl)

pub answers_piece : (s : After) (o : Op) (k : ℕ) → Is is_plain (due.answer_of_piece s o k)
answers_piece s o k = either (Is is_plain) (op_writes o) _ _ (λ e. refl) (λ e. refl)

plain_piece : (m : ℕ) (k : Kind) → is_plain k ≡ true → is_of_piece m k ≡ true
plain_piece m (Kind.Begin n q) h = absurd (false≢true h)
plain_piece m k h = h

plainly : (m : ℕ) (n : Next) → Passes is_plain n → Passes (is_of_piece m) n
plainly m (Do k) h = plain_piece m k h
plainly m (Wait why) h = refl

mirrors : (s : After) (o : Op) (k m : ℕ) → Passes (is_of_piece m) (due.due_mirror s o k m)
mirrors s o k m = let v : ℕ = page_of (op_piece o k).0 in
    either (Passes (is_of_piece m)) (in_window s.plain m (one_page v)) _ _
    (λ e. either (Passes (is_of_piece m)) (due.is_usable (op_writes o) (s.places.table m v)) _ _
    (λ i. plain_piece m (due.answer_of_piece s o k) (answers_piece s o k))
    (λ i. either (Passes (is_of_piece m)) (due.is_invalidating s m) _ _ (λ j. refl) (λ j. at_itself m))) (λ e. refl)

pub cpus : (s : After) (o : Op) (k p : ℕ) → Passes is_plain (due.due_cpu s o k p)
cpus s o k p = either (Passes is_plain) (s.plain.there p) _ _
    (λ e. either (Passes is_plain) (due.suits (op_writes o) (s.places.place p (page_of (op_piece o k).0))) _ _
    (λ i. answers_piece s o k) (λ i. locks is_plain s p refl)) (λ e. refl)

pieces : (s : After) (a : ℕ) (o : Op) (k : ℕ) → Passes (is_of_piece (op_mirror o)) (due.due_piece s a o k)
pieces s a (Op.Add m at n) k = plainly m _ (adds s a (Op.Add m at n) m at)
pieces s a (Op.DeviceLoad m at n) k = mirrors s (Op.DeviceLoad m at n) k m
pieces s a (Op.DeviceStore m at bs) k = mirrors s (Op.DeviceStore m at bs) k m
pieces s a (Op.Load p at n) k = plainly 0 _ (cpus s (Op.Load p at n) k p)
pieces s a (Op.Store p at bs) k = plainly 0 _ (cpus s (Op.Store p at bs) k p)
pieces s a o k = refl

fetches : (s : After) (a : ℕ) (o : Op) (old : ℕ) → Passes is_plain (due.due_fetched s a o old)
fetches s a (Op.Add m at n) old = either (Passes is_plain) (due.has_exclusive s a m (page_of at)) _ _
    (λ e. refl) (λ e. adds s a (Op.Add m at n) m at)
fetches s a o old = refl

notes : (s : After) (o : Op) (k since q : ℕ) (x : Place) → Passes is_commit (due.due_noted s o k since q x)
notes s o k since q x = either (Passes is_commit) (due.repeats s (op_mirror o) q) _ _ (λ e. refl) (λ e. refl)

gives : (o : Op) (touch : Option Touch) → (is_at_walk (Phase.GiveUp touch) ≡ true → is_exclusive_op o ≡ false)
    → Is (may o (Phase.GiveUp touch)) (due.due_give_up o touch)
gives o None h = refl
gives o (Some (Touch.Cpu k)) h = either (Is is_giving_up) (is_exclusive_op o) _ _ (λ e. refl) (λ e. refl)
gives o (Some (Touch.Walk k since q)) h = either (Is is_failed) (is_exclusive_op o) _ _
    (λ e. absurd (true≢false (sym e ∙ h refl))) (λ e. refl)
gives o (Some Touch.Sole) h = either (Is is_giving_up) (is_exclusive_op o) _ _ (λ e. refl) (λ e. refl)

-- ---- guards and frames

withins : (f : Kind → Bool) (r : Pages) (x : Option ℕ) (g : ℕ → Kind) → ((v : ℕ) → f (g v) ≡ true)
    → If f (due.within r x g)
withins f r None g h = refl
withins f r (Some v) g h = either (If f) (nat_lt v (r.first + r.count)) _ _ (λ e. h v) (λ e. refl)

when : (b : Bool) (k : Kind) → is_inner k ≡ true → If is_inner (due.if_so b k)
when b k h = either (If is_inner) b _ _ (λ e. h) (λ e. refl)

keeps : (s : After) (a p v : ℕ) (f : Frame) (w : Bool) → Is is_inner (due.kept_or_frozen s a p v f w)
keeps s a p v f w = either_option (Is is_inner) (other_locker s.locks f a) _ _ (λ n. refl) (λ b n. refl)

selects : (s : After) (a : ℕ) (o : Op) (p v : ℕ) → Is is_inner (due.select_page s a o p v)
selects s a o p v = either (Is is_inner) (is_to_device o) _ _
    (λ e. either_option (Is is_inner) (rights_of s.plain p v) _ _ (λ n. refl) (λ w n. to_device (s.places.place p v)))
    (λ e. to_system (s.places.place p v))
  where
    to_device : (x : Place) → Is is_inner (due.select_to_device s a p v x)
    to_device Place.Empty = refl
    to_device Place.Zero = refl
    to_device (Place.Sys n w) = keeps s a p v (sys_frame n) w
    to_device x = refl

    to_system : (x : Place) → Is is_inner (due.select_to_system s a (mirror_dev s.plain (op_mirror o)) p v x)
    to_system (Place.Own d n w) = either (Is is_inner) (mirror_dev s.plain (op_mirror o) == d) _ _
        (λ e. keeps s a p v _ w) (λ e. refl)
    to_system x = refl

bodies : (s : After) (a : ℕ) (o : Op) (p : ℕ) (r : Pages) (x : Place) (body : Body)
    → If is_inner (due.due_body s a o p r x body)
bodies s a o p r x Body.Nothing = refl
bodies s a o p r x (Body.Zap v) = withins is_inner r _ _ (λ u. refl)
bodies s a o p r x (Body.Narrow v) = withins is_inner r _ _ (λ u. refl)
bodies s a o p r x (Body.Fork v false) = withins is_inner r _ _
    (λ u. either (Is is_inner) (writable (s.places.place p u)) _ _ (λ e. refl) (λ e. refl))
bodies s a o p r x (Body.Fork v true) = refl
bodies s a o p r x (Body.Select v) = withins is_inner r (Some v) _ (λ u. selects s a o p u)
bodies s a o p r x (Body.Replace over g) = when _ _ refl
bodies s a o p r x Body.Restore = restores x
  where
    restores : (x : Place) → If is_inner (due.restore_at p r.first x)
    restores (Place.Exclusive n b) = refl
    restores x = refl
bodies s a o p r x (Body.Catch f) = when _ _ refl
bodies s a o p r x (Body.Freeze f) = when _ _ refl
bodies s a o p r x (Body.Fresh g) = when _ _ refl
bodies s a o p r x (Body.Seize f) = when _ _ refl

guards : (s : After) (a : ℕ) (o : Op) (p : ℕ) (r : Pages) (met : Bool) (told : Option ℕ) (body : Body)
    → Is is_inner (due.due_guard s a o p r met told body)
guards s a o p r met told body = either_option (Is is_inner) (due.to_tell s p r met told) _ _
    (λ n. ends (due.due_body s a o p r (s.places.place p r.first) body)
    (bodies s a o p r (s.places.place p r.first) body)) (λ m n. refl)
  where
    ends : (x : Option Kind) → If is_inner x → Is is_inner (due.body_or_end s p r x)
    ends None h = refl
    ends (Some k) h = h

taken : (s : After) (g : Frame) (over : Place) (p v : ℕ) → Passes is_inner (due.due_taken s g over p v)
taken s g over p v = either (Passes is_inner) (same_place (s.places.place p v) over) _ _
    (λ e. either_option (Passes is_inner) (names over) _ _ (λ n. refl) (λ f n. refl)) (λ e. refl)

empties : (c : Program) (s : After) (f : Frame) (what : KeptAt) → Is is_inner (due.due_emptying c s f what)
empties c s f what = either_option (Is is_inner) (lowest_direct s.places f) _ _
    (λ n. either_option (Is is_inner) (lowest_free c s.places PoolId.System) _ _ (λ n. refl) (λ g n. refl))
    (λ x n. refl)

settles : (f : Kind → Bool) (s : After) (g : Frame) → f (Kind.Done g) ≡ true → f (Kind.Drop g) ≡ true
    → Is f (due.settle s g)
settles f s g h i = either_option (Is f) (lowest_named s.places g) _ _ (λ n. i) (λ x n. h)

finishes : (s : After) (f : Frame) (to : Option Frame) → Is is_inner (due.due_finish s f to)
finishes s f to = either_option (Is is_inner) (lowest_moving s.places f) _ _ (λ n. last to) (λ x n. refl)
  where
    last : (to : Option Frame) → Is is_inner (due.finish_frames s f to)
    last None = settles is_inner s f refl refl
    last (Some g) = refl

-- ---- migrations

-- what moves a page is of a step, as what is inside of a frame's return is
returns : (step : MoveStep) (s : After) (f : Frame) (to : Option Frame) → Is (is_of_step step) (due.due_finish s f to)
returns step s f to = either_option (Is (is_of_step step)) (lowest_moving s.places f) _ _ (λ n. last to) (λ x n. refl)
  where
    last : (to : Option Frame) → Is (is_of_step step) (due.finish_frames s f to)
    last None = settles (is_of_step step) s f refl refl
    last (Some g) = refl

others : (step : MoveStep) (s : After) (x : Option Frame) → Is (is_of_step step) (due.others_of s x)
others step s None = refl
others step s (Some f) = either_option (Is (is_of_step step)) (lowest_direct s.places f) _ _ (λ n. refl) (λ x n. refl)

-- an entry of a migration's step
pub steps : (c : Program) (s : After) (o : Op) (step : MoveStep) (x : Migrating)
    → Is (is_of_step step) (due.due_step c s o step x)
steps c s o MoveStep.FreezeOthers x = others MoveStep.FreezeOthers s x.source
steps c s o MoveStep.TakeAndCopy x = either (Is (is_of_step MoveStep.TakeAndCopy)) (due.skips c o x.page) _ _
    (λ e. refl) (λ e. either_option (Is (is_of_step MoveStep.TakeAndCopy)) (lowest_free c s.places (due.pool_of s o))
    _ _ (λ n. refl) (λ g n. refl))
steps c s o MoveStep.Commit x = commits x.source x.dest
  where
    commits : (f g : Option Frame) → Is (is_of_step MoveStep.Commit)
        (due.commit_page s (mirror_proc s.plain (op_mirror o)) x.page f g)
    commits (Some f) (Some g) = refl
    commits None (Some g) = either (Is (is_of_step MoveStep.Commit))
        (has_no_frame (s.places.place (mirror_proc s.plain (op_mirror o)) x.page)) _ _ (λ e. refl) (λ e. refl)
    commits f None = refl
steps c s o MoveStep.SetOwnTable x = refl
steps c s o MoveStep.Finish x = ends x.source x.dest
  where
    ends : (f g : Option Frame) → Is (is_of_step MoveStep.Finish) (due.finish_page s f g x.moved)
    ends (Some f) g = returns MoveStep.Finish s f _
    ends None (Some g) = refl
    ends None None = refl

step_moves : (step : MoveStep) (k : Kind) → is_of_step step k ≡ true → is_of_move k ≡ true
step_moves step (Kind.Set m v f w from) h = refl
step_moves step (Kind.Migrated n) h = refl
step_moves step k h = h

moves : (c : Program) (s : After) (o : Op) (xs : List Migrating) (at : Option (MoveStep × Migrating))
    → Is is_of_move (due.due_moves c s o xs at)
moves c s o xs None = refl
moves c s o xs (Some at) = step_moves at.0 _ (steps c s o at.0 at.1)

-- what is due at a phase may be due there
pub due_may : (c : Program) (s : After) (a : ℕ) (o : Op) (xs : List Migrating) (top : Phase)
    → (is_at_walk top ≡ true → is_exclusive_op o ≡ false) → Passes (may o top) (due_phase c s a o xs top)
due_may c s a o xs Phase.Begin h = kinds.begins s a o
due_may c s a o xs Phase.Locked h = kinds.locked s o
due_may c s a o xs Phase.Ready h = kinds.ready s o
due_may c s a o xs Phase.Answer h = kinds.answers s o
due_may c s a o xs (Phase.Detaching q) h = either (Passes is_plain) (in_tree s.sequences (op_mirror o)) _ _ (λ e. refl)
    (λ e. refl)
due_may c s a o xs (Phase.Pages v) h = kinds.pages s o v
due_may c s a o xs (Phase.Piece k) h = pieces s a o k
due_may c s a o xs (Phase.Fetched old) h = fetches s a o old
due_may c s a o xs (Phase.Begun k since q) h = locks is_rlock s (mirror_proc s.plain (op_mirror o)) refl
due_may c s a o xs (Phase.Decide touch) h = decides c s a o touch (touch_proc s o) (touch_page o touch) h
due_may c s a o xs (Phase.Noted k since q x) h = notes s o k since q x
due_may c s a o xs (Phase.Taken touch g x) h = taken s g x (touch_proc s o) (touch_page o touch)
due_may c s a o xs (Phase.Armed touch g x) h = refl
due_may c s a o xs (Phase.Guard p r met told body) h = guards s a o p r met told body
due_may c s a o xs (Phase.Drop f) h = refl
due_may c s a o xs (Phase.Emptying f what) h = empties c s f what
due_may c s a o xs (Phase.Copy f g k) h = refl
due_may c s a o xs (Phase.Copied f g) h = refl
due_may c s a o xs (Phase.Finish f to) h = finishes s f to
due_may c s a o xs (Phase.Settle g) h = settles is_inner s g refl refl
due_may c s a o xs (Phase.GiveUp touch) h = gives o touch h
due_may c s a o xs (Phase.Frames v n) h = kinds.frames c s a o v n
due_may c s a o xs (Phase.Moves step v) h = moves c s o xs (coming s o xs (Phase.Moves step v))
due_may c s a o xs (Phase.Lost v g) h = refl
