-- What is stored lies in one page, whatever rule the driver leaves out.
use Rattle.std.proofs.Common.{◌≡◌, ℕ, zero, suc, Bool, true, false, ◌&&◌, ◌==◌, if◌then◌else◌, nat_lt, Option, Some, None, List, [], ◌∷◌, length, refl, sym, ◌∙◌, subst, ◌+◌, arith}
use Rattle.std.specs.Prelude.{⊤, ◌||◌, is_none}
use Rattle.std.proofs.lemmas.Bool.{false≢true}
use Rattle.hm_base.specs.Pages.{Pages, one_page}
use Rattle.hm_base.specs.Program.{Program, IsScript, op_fits}
use Rattle.hm_base.specs.declared.Frame.{Frame}
use Rattle.hm_base.specs.declared.Place.{Place}
use Rattle.hm_base.specs.declared.PoolId.{PoolId}
use Rattle.hm_base.specs.declared.cause.Cause.{Cause}
use Rattle.hm_base.specs.declared.ops.Op.{Op}
use Rattle.hm_base.proofs.Shared.{few_bytes, few_device_bytes}
use Rattle.hm_history.specs.Memory.Words.{page_of, sys_frame, dev_frame, is_frame, names, names_directly, moving_frame, same_place, writable}
use Rattle.hm_history.specs.Memory.Plain.{area_refusal, in_window, is_attached, is_read_only, mirror_dev, mirror_proc, rights_of}
use Rattle.hm_history.specs.Memory.Places.{held_from, is_used, lowest_direct, lowest_free, lowest_moving, lowest_named, next_page}
use Rattle.hm_history.specs.Memory.Sequences.{in_tree}
use Rattle.hm_history.specs.Memory.Locks.{writer, other_locker}
use Rattle.hm_history.specs.Memory.After.{After}
use Rattle.hm_history.specs.Kernel.Operation.{is_exclusive_op, is_to_device, op_mirror, op_piece, op_writes}
use Rattle.hm_history.specs.Kernel.Going.{coming, is_direct, op_at, touch_page, touch_proc}
use Rattle.hm_history.specs.Kernel.Due.{answer_of_piece, begin_look_up, body_or_end, child_of, commit_page, due_add, due_answer, due_areas, due_begin, due_body, due_cpu, due_decide, due_emptying, due_fetched, due_finish, due_frames, due_guard, due_locked, due_mirror, due_moves, due_noted, due_pages, due_phase, due_piece, due_ready, due_sole, due_step, due_taken, fails, fault, fault_at, fetch_page, finish_page, fork_page, frame_at, has_exclusive, has_no_frame, if_so, is_invalidating, is_usable, is_used_once, kept_or_frozen, others_of, pool_of, proc_of_op, progress, repeats, restore_at, rlock, select_page, select_to_device, select_to_system, settle, skips, suits, suits_walk, take_or, to_tell, within}
use Rattle.hm_history.specs.declared.Entry.{Entry}
use Rattle.hm_history.specs.declared.KeptAt.{KeptAt}
use Rattle.hm_history.specs.declared.KeptWhy.{KeptWhy}
use Rattle.hm_history.specs.declared.Kind.{Kind}
use Rattle.hm_history.specs.declared.Progress.{Progress}
use Rattle.hm_history.specs.declared.Who.{Who}
use Rattle.hm_history.specs.declared.Why.{Why}
use Rattle.hm_history.specs.declared.phases.Body.{Body}
use Rattle.hm_history.specs.declared.phases.Migrating.{Migrating}
use Rattle.hm_history.specs.declared.phases.MoveStep.{MoveStep}
use Rattle.hm_history.specs.declared.phases.Next.{Next}
use Rattle.hm_history.specs.declared.phases.Next.TheVariants.{Do, Wait}
use Rattle.hm_history.specs.declared.phases.Phase.{Phase}
use Rattle.hm_history.specs.declared.phases.Touch.{Touch}
use Rattle.hm_laws.proofs.Due.FromOp.{Given, from_op, stores}
use Rattle.hm_laws.proofs.Due.Good.{either, either_option}
use Rattle.hm_laws.proofs.Histories.Sound.{small}
use Rattle.hm_laws.proofs.State.Pieces.{device_store_in_page, store_in_page}
use Rattle.hm_flaws.specs.Drivers.{Driver}
use Rattle.hm_flaws.specs.Flawed.{Flawed, as_read, due_by, due_flawed_top, found, read_through}
use Rattle.hm_flaws.specs.Overrides.{added_at, all_withdrawn, answered, begun_anyway, begun_late, begun_locked, caught_anyway, coming_anyway, detached_now, done_with, due_flawed, ended_now, for_writes, forked_at, forked_whole, fresh_anyway, fresh_for_writes, frozen_before, frozen_late, frozen_once_more, has_any_place, has_readable, has_usable, is_left, left_mapped, passes_locked, placed_anyway, placed_for_writes, removed_now, replaced_anyway, retry_or_commit, selected_anyway, set_alone, settled_held, settled_now, settling, suits_any, taken_in, told_last, unread, walk_any, walked_first}
use Rattle.hm_flaws.specs.declared.flaws.Flaw.{Flaw}
use Rattle.hm_flaw_states.specs.Owns.{StaysInPage}

-- an entry that is due stores nothing past the end of a page
abbrev pub Stays : Next → Type 0
Stays (Do k) = StaysInPage k
Stays (Wait why) = ⊤

-- ---- what comes from an operation that stores nothing

unstored : (o : Op) (top : Phase) → stores o ≡ false → (n : Next) → Given o top n → Stays n
unstored o top e (Do (Kind.Stored x at bs)) h = absurd (false≢true (sym e ∙ h))
unstored o top e n h = tt

-- ---- accesses and faults

-- the answer of each piece of the operation stays in a page
abbrev PiecesStay : Op → Type 0
PiecesStay o = (s : After) (k : ℕ) → StaysInPage (answer_of_piece s o k)

rlock_stays : (s : After) (p : ℕ) → Stays (rlock s p)
rlock_stays s p = either_option Stays (writer s.locks p) _ _ (λ e. tt) (λ b e. tt)

begin_stays : (s : After) (m : ℕ) → Stays (begin_look_up s m)
begin_stays s m = either Stays (is_invalidating s m) _ _ (λ e. tt) (λ e. tt)

fails_stays : (o : Op) (k : ℕ) (why : Cause) → StaysInPage (fails o k why)
fails_stays o k why = either StaysInPage (is_exclusive_op o) _ _ (λ e. tt) (λ e. tt)

take_stays : (c : Program) (s : After) (k : Kind) → StaysInPage k → Stays (take_or c s k)
take_stays c s k h = either_option Stays (lowest_free c s.places PoolId.System) _ _ (λ e. h) (λ g e. tt)

fault_at_stays : (c : Program) (s : After) (a : ℕ) (o : Op) (k p v : ℕ) (x : Place) → Stays (fault_at c s a o k p v x)
fault_at_stays c s a o k p v (Place.Moving f w) = tt
fault_at_stays c s a o k p v (Place.Own d n w) = either_option Stays (other_locker s.locks (dev_frame d n) a) _ _ (λ e. tt) (λ b e. tt)
fault_at_stays c s a o k p v (Place.Exclusive n b) = tt
fault_at_stays c s a o k p v Place.Empty = either Stays (op_writes o) _ _ (λ e. take_stays c s (fails o k Cause.NoFrame) (fails_stays o k Cause.NoFrame)) (λ e. tt)
fault_at_stays c s a o k p v Place.Zero = take_stays c s (fails o k Cause.NoFrame) (fails_stays o k Cause.NoFrame)
fault_at_stays c s a o k p v (Place.Sys n w) = either Stays (is_used_once s (sys_frame n)) _ _ (λ e. tt) (λ e. take_stays c s (fails o k Cause.NoFrame) (fails_stays o k Cause.NoFrame))

fault_stays : (c : Program) (s : After) (a : ℕ) (o : Op) (k : ℕ) (suited : Place → Bool) (p v : ℕ) → Stays (fault c s a o k suited p v)
fault_stays c s a o k suited p v =
    either Stays (is_none (rights_of s.plain p v)) _ _ (λ e. fails_stays o k Cause.Unmapped)
    (λ e. either Stays (op_writes o && is_read_only (rights_of s.plain p v)) _ _ (λ i. fails_stays o k Cause.Forbidden)
    (λ i. either Stays (suited (s.places.place p v)) _ _ (λ j. tt) (λ j. fault_at_stays c s a o k p v (s.places.place p v))))

sole_stays : (c : Program) (s : After) (a : ℕ) (o : Op) (m p v : ℕ) (x : Place) → Stays (due_sole c s a o m p v x)
sole_stays c s a o m p v (Place.Exclusive n b) = either Stays (a == b) _ _ (λ e. either Stays (is_invalidating s m) _ _ (λ i. tt) (λ i. tt)) (λ e. fault_stays c s a o 0 (suits true) p v)
sole_stays c s a o m p v (Place.Sys n true) = tt
sole_stays c s a o m p v x = fault_stays c s a o 0 (suits true) p v

decide_stays : (c : Program) (s : After) (a : ℕ) (o : Op) (touch : Touch) (p v : ℕ) → Stays (due_decide c s a o touch p v)
decide_stays c s a o (Touch.Cpu k) p v = fault_stays c s a o k (suits (op_writes o)) p v
decide_stays c s a o (Touch.Walk k since q) p v = either Stays (repeats s (op_mirror o) q) _ _ (λ e. tt) (λ e. fault_stays c s a o k (suits_walk (mirror_dev s.plain (op_mirror o)) (op_writes o)) p v)
decide_stays c s a o Touch.Sole p v = either Stays (is_attached s.plain (op_mirror o)) _ _ (λ e. sole_stays c s a o (op_mirror o) p v (s.places.place p v)) (λ e. fails_stays o 0 Cause.Outside)

taken_stays : (s : After) (g : Frame) (over : Place) (p v : ℕ) → Stays (due_taken s g over p v)
taken_stays s g over p v = either Stays (same_place (s.places.place p v) over) _ _ (λ e. either_option Stays (names over) _ _ (λ i. tt) (λ f i. tt)) (λ e. tt)

cpu_stays : (s : After) (o : Op) (k p : ℕ) → PiecesStay o → Stays (due_cpu s o k p)
cpu_stays s o k p h = either Stays (s.plain.there p) _ _ (λ e. either Stays (suits (op_writes o) (s.places.place p (page_of (op_piece o k).0))) _ _ (λ i. h s k) (λ i. rlock_stays s p)) (λ e. tt)

mirror_stays : (s : After) (o : Op) (k m : ℕ) → PiecesStay o → Stays (due_mirror s o k m)
mirror_stays s o k m h = let v : ℕ = page_of (op_piece o k).0 in
    either Stays (in_window s.plain m (one_page v)) _ _ (λ e. either Stays (is_usable (op_writes o) (s.places.table m v)) _ _ (λ i. h s k) (λ i. begin_stays s m)) (λ e. tt)

add_stays : (s : After) (a : ℕ) (o : Op) (m at : ℕ) → Stays (due_add s a o m at)
add_stays s a o m at = either Stays (in_window s.plain m (one_page (page_of at))) _ _ (λ e. either Stays (has_exclusive s a m (page_of at)) _ _ (λ i. tt) (λ i. rlock_stays s (mirror_proc s.plain m))) (λ e. tt)

piece_stays : (s : After) (a : ℕ) (o : Op) (k : ℕ) → PiecesStay o → Stays (due_piece s a o k)
piece_stays s a (Op.Add m at n) k h = add_stays s a (Op.Add m at n) m at
piece_stays s a (Op.DeviceLoad m at n) k h = mirror_stays s (Op.DeviceLoad m at n) k m h
piece_stays s a (Op.DeviceStore m at bs) k h = mirror_stays s (Op.DeviceStore m at bs) k m h
piece_stays s a (Op.Load p at n) k h = cpu_stays s (Op.Load p at n) k p h
piece_stays s a (Op.Store p at bs) k h = cpu_stays s (Op.Store p at bs) k p h
piece_stays s a o k h = tt

fetched_stays : (s : After) (a : ℕ) (o : Op) (old : ℕ) → Stays (due_fetched s a o old)
fetched_stays s a (Op.Add m at n) old = either Stays (has_exclusive s a m (page_of at)) _ _ (λ e. tt) (λ e. add_stays s a (Op.Add m at n) m at)
fetched_stays s a o old = tt

noted_stays : (s : After) (o : Op) (k since q : ℕ) (x : Place) → Stays (due_noted s o k since q x)
noted_stays s o k since q x = either Stays (repeats s (op_mirror o) q) _ _ (λ e. tt) (λ e. tt)

give_up_stays : (c : Program) (s : After) (a : ℕ) (o : Op) (xs : List Migrating) (touch : Option Touch) → Stays (due_phase c s a o xs (Phase.GiveUp touch))
give_up_stays c s a o xs None = tt
give_up_stays c s a o xs (Some touch) = fails_stays o _ Cause.NoFrame

-- ---- guards

abbrev StaysSome : Option Kind → Type 0
StaysSome None = ⊤
StaysSome (Some k) = StaysInPage k

within_stays : (r : Pages) (x : Option ℕ) (f : ℕ → Kind) → ((v : ℕ) → StaysInPage (f v)) → StaysSome (within r x f)
within_stays r None f h = tt
within_stays r (Some v) f h = either StaysSome (nat_lt v (r.first + r.count)) _ _ (λ e. h v) (λ e. tt)

when_stays : (b : Bool) (k : Kind) → StaysInPage k → StaysSome (if_so b k)
when_stays b k h = either StaysSome b _ _ (λ e. h) (λ e. tt)

frozen_stays : (s : After) (a : ℕ) (p v : ℕ) (f : Frame) (w : Bool) → StaysInPage (kept_or_frozen s a p v f w)
frozen_stays s a p v f w = either_option StaysInPage (other_locker s.locks f a) _ _ (λ e. tt) (λ b e. tt)

to_device_stays : (s : After) (a : ℕ) (p v : ℕ) (x : Place) → StaysInPage (select_to_device s a p v x)
to_device_stays s a p v Place.Empty = tt
to_device_stays s a p v Place.Zero = tt
to_device_stays s a p v (Place.Sys n w) = frozen_stays s a p v (sys_frame n) w
to_device_stays s a p v x = tt

to_system_stays : (s : After) (a : ℕ) (d p v : ℕ) (x : Place) → StaysInPage (select_to_system s a d p v x)
to_system_stays s a d p v (Place.Own e n w) = either StaysInPage (d == e) _ _ (λ i. frozen_stays s a p v (dev_frame e n) w) (λ i. tt)
to_system_stays s a d p v x = tt

select_stays : (s : After) (a : ℕ) (o : Op) (p v : ℕ) → StaysInPage (select_page s a o p v)
select_stays s a o p v = either StaysInPage (is_to_device o) _ _ (λ e. either_option StaysInPage (rights_of s.plain p v) _ _ (λ i. tt) (λ w i. to_device_stays s a p v (s.places.place p v))) (λ e. to_system_stays s a (mirror_dev s.plain (op_mirror o)) p v (s.places.place p v))

fork_stays : (s : After) (p d v : ℕ) → StaysInPage (fork_page s p d v)
fork_stays s p d v = either StaysInPage (writable (s.places.place p v)) _ _ (λ e. tt) (λ e. tt)

restore_stays : (p v : ℕ) (x : Place) → StaysSome (restore_at p v x)
restore_stays p v (Place.Exclusive n b) = tt
restore_stays p v x = tt

body_stays : (s : After) (a : ℕ) (o : Op) (p : ℕ) (r : Pages) (x : Place) (body : Body) → StaysSome (due_body s a o p r x body)
body_stays s a o p r x Body.Nothing = tt
body_stays s a o p r x (Body.Zap v) = within_stays r (next_page s.places is_used p v) (λ u. Kind.Place p u Place.Empty) (λ u. tt)
body_stays s a o p r x (Body.Narrow v) = within_stays r (next_page s.places writable p v) _ (λ u. tt)
body_stays s a o p r x (Body.Fork v false) = within_stays r (next_page s.places is_used p v) (fork_page s p (child_of o)) (fork_stays s p (child_of o))
body_stays s a o p r x (Body.Fork v true) = tt
body_stays s a o p r x (Body.Select v) = within_stays r (Some v) (select_page s a o p) (λ u. select_stays s a o p u)
body_stays s a o p r x (Body.Replace over g) = when_stays (same_place x over) _ tt
body_stays s a o p r x Body.Restore = restore_stays p r.first x
body_stays s a o p r x (Body.Catch f) = when_stays (is_frame (names_directly x) f && is_none (s.locks.frame f)) _ tt
body_stays s a o p r x (Body.Freeze f) = when_stays (is_frame (names_directly x) f) _ tt
body_stays s a o p r x (Body.Fresh g) = when_stays (has_no_frame x) _ tt
body_stays s a o p r x (Body.Seize f) = when_stays (same_place x (Place.Sys f.number true)) _ tt

end_stays : (s : After) (p : ℕ) (r : Pages) (x : Option Kind) → StaysSome x → StaysInPage (body_or_end s p r x)
end_stays s p r None h = tt
end_stays s p r (Some k) h = h

guard_stays : (s : After) (a : ℕ) (o : Op) (p : ℕ) (r : Pages) (met : Bool) (told : Option ℕ) (body : Body) → StaysInPage (due_guard s a o p r met told body)
guard_stays s a o p r met told body = either_option StaysInPage (to_tell s p r met told) _ _ (λ e. end_stays s p r _ (body_stays s a o p r (s.places.place p r.first) body)) (λ m e. tt)

-- ---- frames

alone_stays : (c : Program) (s : After) (f : Frame) (at : KeptAt) → StaysInPage (due_emptying c s f at)
alone_stays c s f at = either_option StaysInPage (lowest_direct s.places f) _ _ (λ e. either_option StaysInPage (lowest_free c s.places PoolId.System) _ _ (λ i. tt) (λ g i. tt)) (λ x e. tt)

settle_stays : (s : After) (g : Frame) → StaysInPage (settle s g)
settle_stays s g = either_option StaysInPage (lowest_named s.places g) _ _ (λ e. tt) (λ x e. tt)

finish_stays : (s : After) (f : Frame) (to : Option Frame) → StaysInPage (due_finish s f to)
finish_stays s f None = either_option StaysInPage (lowest_moving s.places f) _ _ (λ e. settle_stays s f) (λ x e. tt)
finish_stays s f (Some g) = either_option StaysInPage (lowest_moving s.places f) _ _ (λ e. tt) (λ x e. tt)

-- ---- migrations

others_stays : (s : After) (x : Option Frame) → StaysInPage (others_of s x)
others_stays s None = tt
others_stays s (Some f) = either_option StaysInPage (lowest_direct s.places f) _ _ (λ e. tt) (λ x e. tt)

fetch_stays : (c : Program) (s : After) (o : Op) (v : ℕ) → StaysInPage (fetch_page c s o v)
fetch_stays c s o v = either StaysInPage (skips c o v) _ _ (λ e. tt) (λ e. either_option StaysInPage (lowest_free c s.places (pool_of s o)) _ _ (λ i. tt) (λ g i. tt))

commit_stays : (s : After) (p v : ℕ) (f g : Option Frame) → StaysInPage (commit_page s p v f g)
commit_stays s p v (Some f) (Some g) = tt
commit_stays s p v None (Some g) = either StaysInPage (has_no_frame (s.places.place p v)) _ _ (λ e. tt) (λ e. tt)
commit_stays s p v None None = tt
commit_stays s p v (Some f) None = tt

page_stays : (s : After) (f to : Option Frame) (moved : Bool) → StaysInPage (finish_page s f to moved)
page_stays s (Some f) to moved = finish_stays s f (if moved then to else None)
page_stays s None (Some g) moved = tt
page_stays s None None moved = tt

step_stays : (c : Program) (s : After) (o : Op) (step : MoveStep) (x : Migrating) → StaysInPage (due_step c s o step x)
step_stays c s o MoveStep.FreezeOthers x = others_stays s x.source
step_stays c s o MoveStep.TakeAndCopy x = fetch_stays c s o x.page
step_stays c s o MoveStep.Commit x = commit_stays s (mirror_proc s.plain (op_mirror o)) x.page x.source x.dest
step_stays c s o MoveStep.SetOwnTable x = tt
step_stays c s o MoveStep.Finish x = page_stays s x.source x.dest x.moved

moves_stays : (c : Program) (s : After) (o : Op) (xs : List Migrating) (at : Option (MoveStep × Migrating)) → StaysInPage (due_moves c s o xs at)
moves_stays c s o xs None = tt
moves_stays c s o xs (Some at) = step_stays c s o at.0 at.1

-- ---- the right driver

locked_stays : (s : After) (o : Op) → StaysInPage (due_areas s o) → StaysInPage (due_locked s o)
locked_stays s o h = either StaysInPage (s.plain.there (proc_of_op o)) _ _ (λ e. either_option StaysInPage (area_refusal s.plain o) _ _ (λ i. h) (λ why i. tt)) (λ e. tt)

-- where the operation itself says what is due
record StaysAtFirst (c : Program) (s : After) (a : ℕ) (o : Op) : Type 0 where
  begin : Stays (due_begin s a o)
  areas : StaysInPage (due_areas s o)
  ready : StaysInPage (due_ready s o)
  answer : StaysInPage (due_answer s o)
  pages : (v : ℕ) → StaysInPage (due_pages s o v)
  frames : (v n : ℕ) → Stays (due_frames c s a o v n)

any_stays : (c : Program) (s : After) (a : ℕ) (o : Op) (xs : List Migrating) (top : Phase) → PiecesStay o → StaysAtFirst c s a o → Stays (due_phase c s a o xs top)
any_stays c s a o xs Phase.Begin h f = f.begin
any_stays c s a o xs Phase.Locked h f = locked_stays s o f.areas
any_stays c s a o xs Phase.Ready h f = f.ready
any_stays c s a o xs Phase.Answer h f = f.answer
any_stays c s a o xs (Phase.Detaching q) h f = either Stays (in_tree s.sequences (op_mirror o)) _ _ (λ e. tt) (λ e. tt)
any_stays c s a o xs (Phase.Pages v) h f = f.pages v
any_stays c s a o xs (Phase.Piece k) h f = piece_stays s a o k h
any_stays c s a o xs (Phase.Fetched old) h f = fetched_stays s a o old
any_stays c s a o xs (Phase.Begun k since q) h f = rlock_stays s (mirror_proc s.plain (op_mirror o))
any_stays c s a o xs (Phase.Decide touch) h f = decide_stays c s a o touch (touch_proc s o) (touch_page o touch)
any_stays c s a o xs (Phase.Noted k since q x) h f = noted_stays s o k since q x
any_stays c s a o xs (Phase.Taken touch g x) h f = taken_stays s g x (touch_proc s o) (touch_page o touch)
any_stays c s a o xs (Phase.Armed touch g x) h f = tt
any_stays c s a o xs (Phase.Guard p r met told body) h f = guard_stays s a o p r met told body
any_stays c s a o xs (Phase.Drop g) h f = tt
any_stays c s a o xs (Phase.Emptying g what) h f = alone_stays c s g what
any_stays c s a o xs (Phase.Copy g i k) h f = tt
any_stays c s a o xs (Phase.Copied g i) h f = tt
any_stays c s a o xs (Phase.Finish g to) h f = finish_stays s g to
any_stays c s a o xs (Phase.Settle g) h f = settle_stays s g
any_stays c s a o xs (Phase.GiveUp touch) h f = give_up_stays c s a o xs touch
any_stays c s a o xs (Phase.Frames v n) h f = f.frames v n
any_stays c s a o xs (Phase.Moves step v) h f = moves_stays c s o xs (coming s o xs (Phase.Moves step v))
any_stays c s a o xs (Phase.Lost v g) h f = tt

phase_stays : (c : Program) (s : After) (a : ℕ) (o : Op) (xs : List Migrating) (top : Phase) → PiecesStay o → Stays (due_phase c s a o xs top)
phase_stays c s a (Op.Store p at bs) xs top h = any_stays c s a (Op.Store p at bs) xs top h (record { begin = tt; areas = tt; ready = tt; answer = tt; pages = λ v. tt; frames = λ v n. tt })
phase_stays c s a (Op.DeviceStore m at bs) xs top h = any_stays c s a (Op.DeviceStore m at bs) xs top h (record { begin = tt; areas = tt; ready = tt; answer = tt; pages = λ v. tt; frames = λ v n. tt })
phase_stays c s a (Op.Add m at n) xs top h = any_stays c s a (Op.Add m at n) xs top h (record { begin = tt; areas = tt; ready = tt; answer = tt; pages = λ v. tt; frames = λ v n. tt })
phase_stays c s a o xs top h = unstored o top refl _ (from_op c s a o xs top)

-- ---- what a driver does otherwise

answered_stays : (b : Bool) (s : After) (o : Op) (k : ℕ) (n : Next) → PiecesStay o → Stays n → Stays (answered b s o k n)
answered_stays b s o k n h r = either Stays b _ _ (λ e. h s k) (λ e. r)

retry_stays : (b : Bool) (o : Op) (k since : ℕ) (x : Place) → Stays (retry_or_commit b o k since x)
retry_stays b o k since x = either Stays b _ _ (λ e. tt) (λ e. tt)

writes_stays : (n : Next) → Stays n → Stays (for_writes n)
writes_stays (Do (Kind.Set m v f w from)) h = tt
writes_stays n h = h

walk_stays : (c : Program) (s : After) (a : ℕ) (o : Op) (k q p v : ℕ) → Stays (walk_any c s a o k q p v)
walk_stays c s a o k q p v = either Stays (repeats s (op_mirror o) q) _ _ (λ e. tt) (λ e. fault_stays c s a o k (suits_any (op_writes o)) p v)

begun_stays : (n : Next) → Stays n → Stays (begun_anyway n)
begun_stays (Wait (Why.Invalidating m q)) h = tt
begun_stays n h = h

walked_stays : (s : After) (n : Next) → Stays n → Stays (walked_first s n)
walked_stays s (Do (Kind.Begin m q)) h = rlock_stays s (mirror_proc s.plain m)
walked_stays s (Wait (Why.Invalidating m q)) h = rlock_stays s (mirror_proc s.plain m)
walked_stays s n h = h

late_stays : (s : After) (o : Op) (since : ℕ) (n : Next) → Stays n → Stays (begun_late s o since n)
late_stays s o zero n h = either Stays (is_left s o) _ _ (λ e. tt) (λ e. begin_stays s (op_mirror o))
late_stays s o (suc since) n h = h

detached_stays : (n : Next) → Stays n → Stays (detached_now n)
detached_stays (Do (Kind.Detaching m q)) h = tt
detached_stays n h = h

removed_stays : (s : After) (o : Op) (n : ℕ) (next : Next) → Stays next → Stays (removed_now s o n next)
removed_stays s (Op.Remove d) n next h = either Stays (s.places.withdrawn d) _ _ (λ e. either StaysInPage (s.places.removed d) _ _ (λ i. tt) (λ i. tt)) (λ e. h)
removed_stays s o n next h = h

frame_at_stays : (s : After) (a : ℕ) (remove : Bool) (f : Frame) → Stays (frame_at s a remove f)
frame_at_stays s a remove f = either_option Stays (other_locker s.locks f a) _ _ (λ e. either_option Stays (lowest_named s.places f) _ _ (λ i. tt) (λ x i. tt)) (λ b e. either Stays remove _ _ (λ i. tt) (λ i. tt))

passed_stays : (c : Program) (s : After) (a : ℕ) (o : Op) (v : ℕ) (next : Next) → Stays next → Stays (passes_locked c s a o v next)
passed_stays c s a (Op.Remove d) v next h = either Stays (s.places.withdrawn d) _ _ (λ e. either_option Stays (held_from c s.places d v) _ _ (λ i. h) (λ k i. frame_at_stays s a false (dev_frame d k))) (λ e. h)
passed_stays c s a o v next h = h

alone_set_stays : (s : After) (p v : ℕ) (n : Next) → Stays n → Stays (set_alone s p v n)
alone_set_stays s p v (Wait (Why.Invalidating m q)) h = tt
alone_set_stays s p v n h = h

added_stays : (o : Op) (old : ℕ) (n : Next) → Stays n → Stays (added_at o old n)
added_stays (Op.Add m at k) old n h = tt
added_stays o old n h = h

told_stays : (n m : Next) → Stays n → Stays m → Stays (told_last n m)
told_stays (Do (Kind.End p r q)) m h i = i
told_stays n m h i = h

ended_stays : (s : After) (n : Next) → Stays n → Stays (ended_now s n)
ended_stays s (Do (Kind.End p r q)) h = tt
ended_stays s n h = h

placed_stays : (r : Pages) (g : Frame) (w : Bool) (n : Next) → Stays n → Stays (placed_anyway r g w n)
placed_stays r g w (Do (Kind.End p e q)) h = tt
placed_stays r g w n h = h

replaced_stays : (r : Pages) (body : Body) (n : Next) → Stays n → Stays (replaced_anyway r body n)
replaced_stays r (Body.Replace over g) n h = placed_stays r g true n h
replaced_stays r body n h = h

fresh_stays : (s : After) (p : ℕ) (r : Pages) (body : Body) (n : Next) → Stays n → Stays (fresh_anyway s p r body n)
fresh_stays s p r (Body.Fresh g) n h = placed_stays r g _ n h
fresh_stays s p r body n h = h

widened_stays : (n : Next) → Stays n → Stays (placed_for_writes n)
widened_stays (Do (Kind.Place p v x)) h = tt
widened_stays n h = h

fresh_writes_stays : (body : Body) (n : Next) → Stays n → Stays (fresh_for_writes body n)
fresh_writes_stays (Body.Fresh g) n h = widened_stays n h
fresh_writes_stays body n h = h

whole_stays : (s : After) (o : Op) (p : ℕ) (n : Next) → Stays n → Stays (forked_whole s o p n)
whole_stays s o p (Do (Kind.Place q v x)) h = either Stays (q == p) _ _ (λ e. tt) (λ e. tt)
whole_stays s o p n h = h

forked_stays : (s : After) (o : Op) (p : ℕ) (body : Body) (n : Next) → Stays n → Stays (forked_at s o p body n)
forked_stays s o p (Body.Fork v false) n h = whole_stays s o p n h
forked_stays s o p body n h = h

left_stays : (s : After) (body : Body) (n : Next) → Stays n → Stays (left_mapped s body n)
left_stays s (Body.Select u) (Do (Kind.Place p v x)) h = tt
left_stays s body n h = h

before_stays : (s : After) (step : MoveStep) (x : Migrating) (n : Next) → Stays n → Stays (frozen_before s step x n)
before_stays s MoveStep.Commit x n h = either Stays (is_direct s x.source) _ _ (λ e. others_stays s x.source) (λ e. h)
before_stays s step x n h = h

frozen_late_stays : (s : After) (at : Option (MoveStep × Migrating)) (n : Next) → Stays n → Stays (frozen_late s at n)
frozen_late_stays s None n h = h
frozen_late_stays s (Some at) n h = before_stays s at.0 at.1 n h

once_more_stays : (p v : ℕ) (f : Option Frame) (x : Place) → StaysInPage (frozen_once_more p v f x)
once_more_stays p v None x = tt
once_more_stays p v (Some f) x = tt

selected_stays : (s : After) (p : ℕ) (n : Next) → Stays n → Stays (selected_anyway s p n)
selected_stays s p (Do (Kind.Kept (KeptAt.Page v) (KeptWhy.LockedBy b))) h = tt
selected_stays s p (Do (Kind.Kept (KeptAt.Page v) KeptWhy.NotHere)) h = once_more_stays p v (moving_frame (s.places.place p v)) (s.places.place p v)
selected_stays s p n h = h

caught_stays : (s : After) (p : ℕ) (r : Pages) (f : Frame) (n : Next) → Stays n → Stays (caught_anyway s p r f n)
caught_stays s p r f (Do (Kind.End q e k)) h = either Stays (is_frame (names (s.places.place p r.first)) f) _ _ (λ i. tt) (λ i. tt)
caught_stays s p r f n h = h

taken_in_stays : (s : After) (p : ℕ) (r : Pages) (body : Body) (n : Next) → Stays n → Stays (taken_in s p r body n)
taken_in_stays s p r (Body.Select v) n h = selected_stays s p n h
taken_in_stays s p r (Body.Catch f) n h = caught_stays s p r f n h
taken_in_stays s p r body n h = h

locked_begun_stays : (s : After) (n : Next) → Stays n → Stays (begun_locked s n)
locked_begun_stays s (Do (Kind.Kept (KeptAt.Frame f) (KeptWhy.LockedBy b))) h = either_option Stays (lowest_named s.places f) _ _ (λ e. tt) (λ x e. tt)
locked_begun_stays s n h = h

settled_stays : (s : After) (f : Option Frame) (n : Next) → Stays n → Stays (settled_now s f n)
settled_stays s None n h = h
settled_stays s (Some f) n h = settle_stays s f

done_stays : (n : Next) → Stays n → Stays (done_with n)
done_stays (Do (Kind.Drop f)) h = tt
done_stays n h = h

held_stays : (f : Option Frame) (n : Next) → Stays n → Stays (settled_held f n)
held_stays None n h = h
held_stays (Some f) n h = done_stays n h

-- ---- all drivers

flawed_stays : (l : Flaw) (c : Program) (s : After) (a : ℕ) (o : Op) (xs : List Migrating) (top : Phase) → PiecesStay o → Stays (due_flawed l c s a o xs top)
flawed_stays Flaw.NotCompared c s a o xs (Phase.Noted k since q x) h = retry_stays (is_left s o) o k since x
flawed_stays Flaw.ComparedNow c s a o xs (Phase.Noted k since q x) h = retry_stays (is_left s o || is_invalidating s (op_mirror o)) o k since x
flawed_stays Flaw.AllForWrites c s a o xs (Phase.Noted k since q x) h = writes_stays (due_noted s o k since q x) (noted_stays s o k since q x)
flawed_stays Flaw.WalksUnlocked c s a o xs (Phase.Begun k since q) h = tt
flawed_stays Flaw.AnyDevice c s a o xs (Phase.Decide (Touch.Walk k since q)) h = walk_stays c s a o k q (touch_proc s o) (touch_page o (Touch.Walk k since q))
flawed_stays Flaw.BegunAnyway c s a o xs (Phase.Piece k) h = begun_stays (due_phase c s a o xs (Phase.Piece k)) (phase_stays c s a o xs (Phase.Piece k) h)
flawed_stays Flaw.BegunLast c s a o xs (Phase.Piece k) h = walked_stays s (due_phase c s a o xs (Phase.Piece k)) (phase_stays c s a o xs (Phase.Piece k) h)
flawed_stays Flaw.BegunLast c s a o xs (Phase.Decide touch) h = phase_stays c s a o xs (Phase.Decide (unread s o touch)) h
flawed_stays Flaw.BegunLast c s a o xs (Phase.Noted k since q x) h = late_stays s o since (due_phase c s a o xs (Phase.Noted k since q x)) (phase_stays c s a o xs (Phase.Noted k since q x) h)
flawed_stays Flaw.DetachedAtOnce c s a o xs Phase.Begin h = detached_stays (due_phase c s a o xs Phase.Begin) (phase_stays c s a o xs Phase.Begin h)
flawed_stays Flaw.UsedDetached c s a o xs (Phase.Piece k) h = answered_stays (has_usable s o k) s o k (due_phase c s a o xs (Phase.Piece k)) h (phase_stays c s a o xs (Phase.Piece k) h)
flawed_stays Flaw.ReadsWritten c s a o xs (Phase.Piece k) h = answered_stays (has_readable s o k) s o k (due_phase c s a o xs (Phase.Piece k)) h (phase_stays c s a o xs (Phase.Piece k) h)
flawed_stays Flaw.OwnForWrites c s a o xs (Phase.Moves step v) h = writes_stays (due_phase c s a o xs (Phase.Moves step v)) (phase_stays c s a o xs (Phase.Moves step v) h)
flawed_stays Flaw.OwnAnyway c s a o xs (Phase.Moves step v) h = moves_stays c s o xs (coming_anyway s o xs (Phase.Moves step v))
flawed_stays Flaw.WithdrawnTaken c s a o xs (Phase.Moves step v) h = phase_stays c (all_withdrawn false s) a o xs (Phase.Moves step v) h
flawed_stays Flaw.RemovedAtOnce c s a o xs (Phase.Frames v n) h = removed_stays s o n (due_phase c s a o xs (Phase.Frames v n)) (phase_stays c s a o xs (Phase.Frames v n) h)
flawed_stays Flaw.NotWithdrawn c s a o xs (Phase.Frames v n) h = phase_stays c (all_withdrawn true s) a o xs (Phase.Frames v n) h
flawed_stays Flaw.LockedPassed c s a o xs (Phase.Frames v n) h = passed_stays c s a o v (due_phase c s a o xs (Phase.Frames v n)) (phase_stays c s a o xs (Phase.Frames v n) h)
flawed_stays Flaw.SoleAnyway c s a o xs (Phase.Decide touch) h = alone_set_stays s (touch_proc s o) (touch_page o touch) (due_phase c s a o xs (Phase.Decide touch)) (phase_stays c s a o xs (Phase.Decide touch) h)
flawed_stays Flaw.AddedAnyway c s a o xs (Phase.Fetched old) h = added_stays o old (due_phase c s a o xs (Phase.Fetched old)) (phase_stays c s a o xs (Phase.Fetched old) h)
flawed_stays Flaw.ToldLast c s a o xs (Phase.Guard p r met told body) h = told_stays (due_phase c s a o xs (Phase.Guard p r false told body)) (due_phase c s a o xs (Phase.Guard p r met told body)) (phase_stays c s a o xs (Phase.Guard p r false told body) h) (phase_stays c s a o xs (Phase.Guard p r met told body) h)
flawed_stays Flaw.EndedAtOnce c s a o xs (Phase.Guard p r met told body) h = ended_stays s (due_phase c s a o xs (Phase.Guard p r met told body)) (phase_stays c s a o xs (Phase.Guard p r met told body) h)
flawed_stays Flaw.ForkedWhole c s a o xs (Phase.Guard p r met told body) h = forked_stays s o p body (due_phase c s a o xs (Phase.Guard p r met told body)) (phase_stays c s a o xs (Phase.Guard p r met told body) h)
flawed_stays Flaw.ReplacedAnyway c s a o xs (Phase.Guard p r met told body) h = replaced_stays r body (due_phase c s a o xs (Phase.Guard p r met told body)) (phase_stays c s a o xs (Phase.Guard p r met told body) h)
flawed_stays Flaw.DeviceAccessed c s a o xs (Phase.Piece k) h = answered_stays (has_any_place s o k) s o k (due_phase c s a o xs (Phase.Piece k)) h (phase_stays c s a o xs (Phase.Piece k) h)
flawed_stays Flaw.FrozenLate c s a o xs (Phase.Guard p r met told body) h = left_stays s body (due_phase c s a o xs (Phase.Guard p r met told body)) (phase_stays c s a o xs (Phase.Guard p r met told body) h)
flawed_stays Flaw.FrozenLate c s a o xs (Phase.Moves step v) h = frozen_late_stays s (coming s o xs (Phase.Moves step v)) (due_phase c s a o xs (Phase.Moves step v)) (phase_stays c s a o xs (Phase.Moves step v) h)
flawed_stays Flaw.FreshAnyway c s a o xs (Phase.Guard p r met told body) h = fresh_stays s p r body (due_phase c s a o xs (Phase.Guard p r met told body)) (phase_stays c s a o xs (Phase.Guard p r met told body) h)
flawed_stays Flaw.FreshForWrites c s a o xs (Phase.Guard p r met told body) h = fresh_writes_stays body (due_phase c s a o xs (Phase.Guard p r met told body)) (phase_stays c s a o xs (Phase.Guard p r met told body) h)
flawed_stays Flaw.BackForWrites c s a o xs (Phase.Finish f to) h = widened_stays (due_phase c s a o xs (Phase.Finish f to)) (phase_stays c s a o xs (Phase.Finish f to) h)
flawed_stays Flaw.BackForWrites c s a o xs (Phase.Moves step v) h = widened_stays (due_phase c s a o xs (Phase.Moves step v)) (phase_stays c s a o xs (Phase.Moves step v) h)
flawed_stays Flaw.LockedTaken c s a o xs (Phase.Guard p r met told body) h = taken_in_stays s p r body (due_phase c s a o xs (Phase.Guard p r met told body)) (phase_stays c s a o xs (Phase.Guard p r met told body) h)
flawed_stays Flaw.LockedTaken c s a o xs (Phase.Frames v n) h = locked_begun_stays s (due_phase c s a o xs (Phase.Frames v n)) (phase_stays c s a o xs (Phase.Frames v n) h)
flawed_stays Flaw.NotPutBack c s a o xs top h = settled_stays s (settling s o xs top) (due_phase c s a o xs top) (phase_stays c s a o xs top h)
flawed_stays Flaw.UnnamedHeld c s a o xs top h = held_stays (settling s o xs top) (due_phase c s a o xs top) (phase_stays c s a o xs top h)
flawed_stays l c s a o xs top h = phase_stays c s a o xs top h

-- ---- entries that are due

through_stays : (x : Driver) (n : Next) → Stays n → Stays (read_through x n)
through_stays x (Do (Kind.Loaded (Who.Mirror m) at bs)) h = tt
through_stays x (Do (Kind.Fetched m at bs)) h = tt
through_stays x n h = h

read_stays : (l : Flaw) (x : Driver) (n : Next) → Stays n → Stays (as_read l x n)
read_stays Flaw.NoFlaw x n h = h
read_stays l x n h = through_stays x n h

-- the pieces of an operation of a script
pieces_stay : (n : ℕ) (o : Op) → op_fits n o ≡ true → PiecesStay o
pieces_stay n (Op.Store p at bs) f s k = store_in_page p at bs k (few_bytes n p at bs f)
pieces_stay n (Op.DeviceStore m at bs) f s k = device_store_in_page m at bs k (few_device_bytes n m at bs f)
pieces_stay n (Op.Exclusive m v) f s k = omega arith
pieces_stay n (Op.Add m at i) f s k = omega arith
pieces_stay n o f s k = tt

did_stays : (a : ℕ) (n : Next) (e : Entry) → Stays n → progress a n ≡ Progress.Did e → StaysInPage e.kind
did_stays a (Do k) e h is = let same : k ≡ e.kind = cc in subst StaysInPage same h
did_stays a (Wait why) e h is = cc

top_stays : (l : Flaw) (c : Program) (x : Driver) (s : After) (a : ℕ) (o : Option Op) (xs : List Migrating) (st : List Phase) (e : Entry) → ((p : Op) → o ≡ Some p → PiecesStay p)
    → due_flawed_top l c x s a o xs st ≡ Progress.Did e → StaysInPage e.kind
top_stays l c x s a (Some o) xs (top ∷ below) e h is = did_stays a _ e (read_stays l x _ (flawed_stays l c s a o xs top (h o refl))) is
top_stays l c x s a (Some o) xs [] e h is = cc
top_stays l c x s a None xs st e h is = cc

-- what is due to a driver stores in one page
pub due_stays : (l : Flaw) (c : Program) → IsScript c → (t : Flawed) (a : ℕ) (e : Entry) → due_by l c t a ≡ Progress.Did e → StaysInPage e.kind
due_stays l c sc t a e is = top_stays l c t.driver (found l c t) a (op_at c a (t.state.going a).index) (t.state.going a).pages (t.state.going a).stack e (λ o at. pieces_stay (length c.devices) o ((small c sc).ops a (t.state.going a).index o at)) is
