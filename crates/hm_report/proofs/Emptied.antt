-- Entries of guards, of frames that are emptied, and of migrations: the stack fits after them.
use Rattle.std.proofs.Common.{◌≡◌, ℕ, ◌+◌, Bool, true, false, nat_lt, Option, None, Some, List, [], ◌∷◌, refl}
use Rattle.std.specs.Prelude.{if◌then◌else◌}
use Rattle.std.proofs.lemmas.Bool.{false≢true}
use Rattle.hm_base.specs.declared.cause.Cause.{Cause}
use Rattle.hm_base.specs.Pages.{Pages, one_page}
use Rattle.hm_base.specs.Program.{Program}
use Rattle.hm_base.specs.declared.Frame.{Frame}
use Rattle.hm_base.specs.declared.Place.{Place}
use Rattle.hm_base.specs.declared.ops.Op.{Op}
use Rattle.hm_history.specs.Memory.After.{After}
use Rattle.hm_history.specs.Kernel.Operation.{op_mirror, is_to_device, is_evicting, is_migration}
use Rattle.hm_history.specs.Memory.Plain.{rights_of, mirror_dev}
use Rattle.hm_history.specs.Memory.Places.{lowest_named}
use Rattle.hm_history.specs.Memory.Locks.{other_locker}
use Rattle.hm_history.specs.declared.KeptAt.{KeptAt}
use Rattle.hm_history.specs.declared.KeptWhy.{KeptWhy}
use Rattle.hm_history.specs.declared.TableRight.{TableRight}
use Rattle.hm_history.specs.declared.Kind.{Kind}
use Rattle.hm_history.specs.declared.phases.Body.{Body}
use Rattle.hm_history.specs.declared.phases.Migrating.{Migrating}
use Rattle.hm_history.specs.declared.phases.MoveStep.{MoveStep}
use Rattle.hm_history.specs.Kernel.Going.{coming_page}
use Rattle.hm_history.specs.declared.phases.Seen.{Seen}
use Rattle.hm_history.specs.declared.phases.Phase.{Phase}
use Rattle.hm_history.specs.declared.phases.Next.TheVariants.{Do}
use Rattle.hm_history.specs.Kernel.Stacks.{body_next, below_next, caught_next, frames_past, dropping, after_body, guard_goes_on, after_guard, gives_up, after_emptying, with_one_more, after_copy, after_finish, after_frames, after_moves, after_migration, next_cursor, copying, dropping_lost, kept_step, freezing}
use Rattle.hm_history.specs.Kernel.Due.{due_guard, body_or_end, due_body, due_emptying, due_finish, finish_frames, settle, due_frames, due_frames_of, frames_end, frame_at, locked_frame, due_moves, due_step, others_of, fetch_page, commit_page, finish_page, within, if_so, restore_at, select_page, select_to_device, select_to_system, kept_or_frozen, not_here, fork_page, child_of, start_entry}
use Rattle.hm_report.proofs.Fits.{base_fits, fits, goes, NextIs, does, waits, either, either_if, perhaps, fits_push}

-- changes of the stack below
frames_past_fits : (o : Op) (n : ℕ) (f : Frame) (below : List Phase) → fits o n below ≡ true → fits o n (frames_past f below) ≡ true
frames_past_fits o n f (Phase.Frames v m ∷ []) h = h
frames_past_fits o n f (Phase.Frames v m ∷ y ∷ ys) h = h
frames_past_fits o n f below h = h

counted_fits : (o : Op) (n : ℕ) (below : List Phase) → fits o n below ≡ true → fits o n (with_one_more below) ≡ true
counted_fits o n (Phase.Frames v m ∷ []) h = h
counted_fits o n (Phase.Frames v m ∷ y ∷ ys) h = h
counted_fits o n below h = h

frames_give_up : (o : Op) (n v m : ℕ) → is_evicting o ≡ true → fits o n (gives_up o (Phase.Frames v m ∷ [])) ≡ true
frames_give_up (Op.Remove d) n v m h = refl
frames_give_up (Op.Evict d) n v m h = refl
frames_give_up o n v m h = absurd (false≢true h)

gives_up_fits : (o : Op) (n : ℕ) (below : List Phase) → fits o n below ≡ true → fits o n (gives_up o below) ≡ true
gives_up_fits o n [] h = h
gives_up_fits o n (Phase.Decide touch ∷ []) h = h
gives_up_fits o n (Phase.Decide touch ∷ y ∷ ys) h = absurd (false≢true h)
gives_up_fits o n (Phase.Frames v m ∷ []) h = frames_give_up o n v m h
gives_up_fits o n (Phase.Frames v m ∷ y ∷ ys) h = absurd (false≢true h)
gives_up_fits o n (x ∷ below) h = h

dropping_fits : (o : Op) (n : ℕ) (f : Option Frame) (below : List Phase) → fits o n below ≡ true → fits o n (dropping f below) ≡ true
dropping_fits o n None below h = h
dropping_fits o n (Some f) below h = fits_push o n (Phase.Drop f) below refl h

caught_fits : (o : Op) (n : ℕ) (f : Frame) (r : Pages) (below : List Phase) → fits o n below ≡ true → fits o n (caught_next o f r below) ≡ true
caught_fits o n f r below h =
    either_if (λ stack. fits o n stack ≡ true) (is_evicting o) (Phase.Emptying f (KeptAt.Frame f) ∷ frames_past f below) (Phase.Emptying f (KeptAt.Page r.first) ∷ below)
    (fits_push o n (Phase.Emptying f (KeptAt.Frame f)) (frames_past f below) refl (frames_past_fits o n f below h))
    (fits_push o n (Phase.Emptying f (KeptAt.Page r.first)) below refl h)

below_fits : (o : Op) (n : ℕ) (body : Body) (r : Pages) (below : List Phase) → fits o n below ≡ true → fits o n (below_next o body r below) ≡ true
below_fits o n (Body.Catch f) r below h = caught_fits o n f r below h
below_fits o n body r below h = h

ended_fits : (o : Op) (n : ℕ) (body : Body) (r : Pages) (below : List Phase) → fits o n below ≡ true → fits o n (after_body body r below) ≡ true
ended_fits o n (Body.Replace over g) r below h = fits_push o n (Phase.Drop g) below refl h
ended_fits o n (Body.Fresh g) r below h = fits_push o n (Phase.Lost r.first g) below refl h
ended_fits o n body r below h = h

-- guards
pub record GuardKinds (P : Kind → Type 0) : Type 0 where
  pub tells : (m : ℕ) (r : Pages) (q : ℕ) → P (Kind.Told m r q)
  pub ends : (p : ℕ) (r : Pages) (q : ℕ) → P (Kind.End p r q)
  pub places : (p v : ℕ) (x : Place) → P (Kind.Place p v x)
  pub finds : (p v : ℕ) → P (Kind.Fresh p v)
  pub keeps : (at : KeptAt) (why : KeptWhy) → P (Kind.Kept at why)

abbrev MaybePasses : (Kind → Type 0) → Option Kind → Type 0
MaybePasses P None = Unit {0}
MaybePasses P (Some k) = P k

record MaybeIs (P : Kind → Type 0) (x : Option Kind) : Type 0 where
  is : MaybePasses P x

some_is : (P : Kind → Type 0) (k : Kind) → P k → MaybeIs P (Some k)
some_is P k h = record { is = h }

none_is : (P : Kind → Type 0) → MaybeIs P None
none_is P = record { is = tt }

within_is : (P : Kind → Type 0) (r : Pages) (v : Option ℕ) (f : ℕ → Kind) → ((u : ℕ) → P (f u)) → MaybeIs P (within r v f)
within_is P r None f h = none_is P
within_is P r (Some v) f h = either (MaybeIs P) _ _ _ (some_is P _ (h v)) (none_is P)

when_is : (P : Kind → Type 0) (b : Bool) (k : Kind) → P k → MaybeIs P (if_so b k)
when_is P b k h = either (MaybeIs P) _ _ _ (some_is P _ h) (none_is P)

restore_is : (P : Kind → Type 0) (p v : ℕ) (x : Place) → GuardKinds P → MaybeIs P (restore_at p v x)
restore_is P p v (Place.Exclusive n b) h = some_is P _ (h.places _ _ _)
restore_is P p v Place.Empty h = none_is P
restore_is P p v Place.Zero h = none_is P
restore_is P p v (Place.Sys n w) h = none_is P
restore_is P p v (Place.Own d n w) h = none_is P
restore_is P p v (Place.Moving f w) h = none_is P

fork_page_is : (P : Kind → Type 0) (s : After) (p c v : ℕ) → GuardKinds P → P (fork_page s p c v)
fork_page_is P s p c v h = either P _ _ _ (h.places _ _ _) (h.places _ _ _)

frozen_is : (P : Kind → Type 0) (s : After) (a p v : ℕ) (f : Frame) (w : Bool) → GuardKinds P → P (kept_or_frozen s a p v f w)
frozen_is P s a p v f w h = perhaps P _ _ _ (h.places _ _ _) (λ b. h.keeps _ _)

to_device_is : (P : Kind → Type 0) (s : After) (a p v : ℕ) (x : Place) → GuardKinds P → P (select_to_device s a p v x)
to_device_is P s a p v Place.Empty h = h.finds _ _
to_device_is P s a p v Place.Zero h = h.finds _ _
to_device_is P s a p v (Place.Sys n w) h = frozen_is P s a p v _ w h
to_device_is P s a p v (Place.Own d n w) h = h.keeps _ _
to_device_is P s a p v (Place.Moving f w) h = h.keeps _ _
to_device_is P s a p v (Place.Exclusive n b) h = h.keeps _ _

to_system_is : (P : Kind → Type 0) (s : After) (a d p v : ℕ) (x : Place) → GuardKinds P → P (select_to_system s a d p v x)
to_system_is P s a d p v (Place.Own e n w) h = either P _ _ _ (frozen_is P s a p v _ w h) (h.keeps _ _)
to_system_is P s a d p v Place.Empty h = h.keeps _ _
to_system_is P s a d p v Place.Zero h = h.keeps _ _
to_system_is P s a d p v (Place.Sys n w) h = h.keeps _ _
to_system_is P s a d p v (Place.Moving f w) h = h.keeps _ _
to_system_is P s a d p v (Place.Exclusive n b) h = h.keeps _ _

select_is : (P : Kind → Type 0) (s : After) (a : ℕ) (o : Op) (p v : ℕ) → GuardKinds P → P (select_page s a o p v)
select_is P s a o p v h =
    let place = s.places.place p v in
    let device : P (elim (rights_of s.plain p v) [ None ↦ not_here v | Some w ↦ select_to_device s a p v place ]) = perhaps P _ _ _ (h.keeps _ _) (λ w. to_device_is P s a p v place h) in
    either P (is_to_device o) _ _ device (to_system_is P s a (mirror_dev s.plain (op_mirror o)) p v place h)

body_is : (P : Kind → Type 0) (s : After) (a : ℕ) (o : Op) (p : ℕ) (r : Pages) (x : Place) (body : Body) → GuardKinds P → MaybeIs P (due_body s a o p r x body)
body_is P s a o p r x Body.Nothing h = none_is P
body_is P s a o p r x (Body.Zap v) h = within_is P r _ _ (λ u. h.places _ _ _)
body_is P s a o p r x (Body.Narrow v) h = within_is P r _ _ (λ u. h.places _ _ _)
body_is P s a o p r x (Body.Fork v false) h = within_is P r _ (fork_page s p (child_of o)) (λ u. fork_page_is P s p (child_of o) u h)
body_is P s a o p r x (Body.Fork v true) h = some_is P _ (h.places _ _ _)
body_is P s a o p r x (Body.Select v) h = within_is P r (Some v) (select_page s a o p) (λ u. select_is P s a o p u h)
body_is P s a o p r x (Body.Replace over g) h = when_is P _ _ (h.places _ _ _)
body_is P s a o p r x Body.Restore h = restore_is P p _ x h
body_is P s a o p r x (Body.Catch f) h = when_is P _ _ (h.places _ _ _)
body_is P s a o p r x (Body.Freeze f) h = when_is P _ _ (h.places _ _ _)
body_is P s a o p r x (Body.Fresh g) h = when_is P _ _ (h.places _ _ _)
body_is P s a o p r x (Body.Seize f) h = when_is P _ _ (h.places _ _ _)

body_or_end_is : (P : Kind → Type 0) (s : After) (p : ℕ) (r : Pages) (k : Option Kind) → GuardKinds P → MaybeIs P k → P (body_or_end s p r k)
body_or_end_is P s p r None h m = h.ends _ _ _
body_or_end_is P s p r (Some k) h m = m.is

guard_is : (P : Kind → Type 0) (s : After) (a : ℕ) (o : Op) (p : ℕ) (r : Pages) (met : Bool) (told : Option ℕ) (body : Body) → GuardKinds P → P (due_guard s a o p r met told body)
guard_is P s a o p r met told body h = perhaps P _ _ _ (body_or_end_is P s p r _ h (body_is P s a o p r _ body h)) (λ m. h.tells _ _ _)

abbrev Guards : Op → ℕ → ℕ → Pages → Bool → Option ℕ → Body → List Phase → (Kind → Seen) → Kind → Type 0
Guards o n p r met told body below see k = goes o n k (after_guard o p r met told body below k (see k)) ≡ true

pub guard_goes : (s : After) (a : ℕ) (o : Op) (n p : ℕ) (r : Pages) (met : Bool) (told : Option ℕ) (body : Body) (below : List Phase) (see : Kind → Seen) → fits o n below ≡ true → Guards o n p r met told body below see (due_guard s a o p r met told body)
guard_goes s a o n p r met told body below see h =
    let P : Kind → Type 0 = Guards o n p r met told body below see in
    let on : (k : Kind) → fits o n (guard_goes_on o p r met told body below k (see k)) ≡ true =
    λ k. dropping_fits o n (see k).orphan _ (fits_push o n (Phase.Guard p r met told (body_next body p k)) (below_next o body r below) refl (below_fits o n body r below h)) in
    guard_is P s a o p r met told body (record {
      tells = λ m t q. fits_push o n (Phase.Guard p r met (Some m) body) below refl h;
      ends = λ q t w. ended_fits o n body r below h;
      places = λ q v x. on (Kind.Place q v x);
      finds = λ q v. on (Kind.Fresh q v);
      keeps = λ at why. on (Kind.Kept at why);
    })

-- a frame that is emptied
alone_is : (P : Kind → Type 0) (c : Program) (s : After) (f : Frame) (at : KeptAt) → ((p : ℕ) (r : Pages) (q : ℕ) → P (Kind.Start p r q)) → ((g : Frame) → P (Kind.Take g)) → P (Kind.Kept at KeptWhy.NoFrame) → P (due_emptying c s f at)
alone_is P c s f at starts takes keeps = perhaps P _ _ _ (perhaps P _ _ _ keeps (λ g. takes g)) (λ x. starts _ _ _)

pub alone_goes : (c : Program) (s : After) (o : Op) (n : ℕ) (f : Frame) (at : KeptAt) (below : List Phase) (see : Kind → Seen) → fits o n below ≡ true → goes o n (due_emptying c s f at) (after_emptying o f at below (due_emptying c s f at) (see (due_emptying c s f at))) ≡ true
alone_goes c s o n f at below see h =
    let alone = fits_push o n (Phase.Emptying f at) below refl h in
    alone_is (λ k. goes o n k (after_emptying o f at below k (see k)) ≡ true) c s f at
    (λ p r q. fits_push o n (Phase.Guard p r (see (Kind.Start p r q)).overlapped None (Body.Freeze f)) (Phase.Emptying f at ∷ below) refl alone)
    (λ g. fits_push o n (Phase.Copy f g 0) (Phase.Copied f g ∷ below) refl (fits_push o n (Phase.Copied f g) below refl h))
    (fits_push o n (Phase.Finish f None) (gives_up o below) refl (gives_up_fits o n below h))

pub copy_goes : (o : Op) (n : ℕ) (f g : Frame) (k : ℕ) (below : List Phase) → fits o n below ≡ true → fits o n (after_copy f g k below) ≡ true
copy_goes o n f g k below h = either_if (λ stack. fits o n stack ≡ true) (nat_lt k 7) (Phase.Copy f g (k + 1) ∷ below) below (fits_push o n (Phase.Copy f g (k + 1)) below refl h) h

pub copied_goes : (o : Op) (n : ℕ) (f g : Frame) (below : List Phase) → fits o n below ≡ true → fits o n (Phase.Finish f (Some g) ∷ with_one_more below) ≡ true
copied_goes o n f g below h = fits_push o n (Phase.Finish f (Some g)) (with_one_more below) refl (counted_fits o n below h)

-- what a finish may add
pub record FinishKinds (P : Kind → Type 0) : Type 0 where
  pub places : (p v : ℕ) (x : Place) → P (Kind.Place p v x)
  pub frees : (g : Frame) → P (Kind.Done g)
  pub drops : (g : Frame) → P (Kind.Drop g)

settle_is : (P : Kind → Type 0) (s : After) (g : Frame) → FinishKinds P → P (settle s g)
settle_is P s g h = perhaps P _ _ _ (h.drops _) (λ x. h.frees _)

frames_is : (P : Kind → Type 0) (s : After) (f : Frame) (to : Option Frame) → FinishKinds P → P (finish_frames s f to)
frames_is P s f None h = settle_is P s f h
frames_is P s f (Some g) h = h.drops _

finish_is : (P : Kind → Type 0) (s : After) (f : Frame) (to : Option Frame) → FinishKinds P → P (due_finish s f to)
finish_is P s f to h = perhaps P _ _ _ (frames_is P s f to h) (λ x. h.places _ _ _)

abbrev Finishes : Op → ℕ → Frame → Option Frame → List Phase → Kind → Type 0
Finishes o n f to below k = goes o n k (after_finish f to below k) ≡ true

finish_kinds : (o : Op) (n : ℕ) (f : Frame) (to : Option Frame) (below : List Phase) → fits o n below ≡ true → FinishKinds (Finishes o n f to below)
finish_kinds o n f None below h = record { places = λ p v x. fits_push o n (Phase.Finish f None) below refl h; frees = λ g. h; drops = λ g. h }
finish_kinds o n f (Some t) below h = record {
  places = λ p v x. fits_push o n (Phase.Finish f (Some t)) below refl h;
  frees = λ g. h;
  drops = λ g. fits_push o n (Phase.Settle t) below refl h;
}

pub finish_goes : (s : After) (o : Op) (n : ℕ) (f : Frame) (to : Option Frame) (below : List Phase) → fits o n below ≡ true → Finishes o n f to below (due_finish s f to)
finish_goes s o n f to below h = finish_is (Finishes o n f to below) s f to (finish_kinds o n f to below h)

pub settle_goes : (s : After) (o : Op) (n : ℕ) (g : Frame) (below : List Phase) → fits o n below ≡ true → goes o n (settle s g) below ≡ true
settle_goes s o n g below h = settle_is (λ k. goes o n k below ≡ true) s g (record { places = λ p v x. h; frees = λ f. h; drops = λ f. h })

-- evictions
abbrev pub Evicts : Op → ℕ → ℕ → ℕ → (Kind → Seen) → Kind → Type 0
Evicts o n v m see k = goes o n k (after_frames v m k (see k)) ≡ true

record FramesKinds (P : Kind → Type 0) (d m : ℕ) : Type 0 where
  withdraws : P (Kind.Withdrawn d)
  evicts : P (Kind.Evicted m)
  refuses : P (Kind.Refused Cause.Removed)
  removes : P (Kind.Removed d)
  keeps : (f : Frame) (b : ℕ) → P (Kind.Kept (KeptAt.Frame f) (KeptWhy.LockedBy b))
  starts : (p : ℕ) (r : Pages) (q : ℕ) → P (Kind.Start p r q)
  drops : (f : Frame) → P (Kind.Drop f)

locked_frame_is : (P : Kind → Type 0) (remove : Bool) (f : Frame) (b d m : ℕ) → FramesKinds P d m → NextIs P (locked_frame remove f b)
locked_frame_is P remove f b d m h = either (NextIs P) _ _ _ (waits P _) (does P _ (h.keeps f b))

frame_at_is : (P : Kind → Type 0) (s : After) (a : ℕ) (remove : Bool) (f : Frame) (d m : ℕ) → FramesKinds P d m → NextIs P (frame_at s a remove f)
frame_at_is P s a remove f d m h =
    let named : NextIs P (elim (lowest_named s.places f) [ Some x ↦ Do (start_entry s x.0 (one_page x.1)) | None ↦ Do (Kind.Drop f) ]) = perhaps (NextIs P) _ _ _ (does P _ (h.drops f)) (λ x. does P _ (h.starts _ _ _)) in
    perhaps (NextIs P) (other_locker s.locks f a) _ (locked_frame remove f) named (λ b. locked_frame_is P remove f b d m h)

frames_end_is : (P : Kind → Type 0) (s : After) (d : ℕ) (remove : Bool) (m : ℕ) → FramesKinds P d m → P (frames_end s d remove m)
frames_end_is P s d remove m h = either P _ _ _ (either P _ _ _ h.refuses h.removes) h.evicts

frames_of_is : (P : Kind → Type 0) (c : Program) (s : After) (a d : ℕ) (remove : Bool) (v m : ℕ) → FramesKinds P d m → NextIs P (due_frames_of c s a d remove v m)
frames_of_is P c s a d remove v m h =
    either (NextIs P) _ _ _ (does P _ h.withdraws) (perhaps (NextIs P) _ _ _ (does P _ (frames_end_is P s d remove m h)) (λ k. frame_at_is P s a remove _ d m h))

frames_kinds : (o : Op) (n v m : ℕ) (see : Kind → Seen) (d : ℕ) → is_evicting o ≡ true → FramesKinds (Evicts o n v m see) d m
frames_kinds o n v m see d h = record {
  withdraws = h;
  evicts = refl;
  refuses = refl;
  removes = refl;
  keeps = λ f b. h;
  starts = λ p r q. h;
  drops = λ f. h;
}

pub frames_goes : (c : Program) (s : After) (a : ℕ) (o : Op) (n v m : ℕ) (see : Kind → Seen) → base_fits o n (Phase.Frames v m) ≡ true → NextIs (Evicts o n v m see) (due_frames c s a o v m)
frames_goes c s a (Op.Evict d) n v m see h = frames_of_is (Evicts (Op.Evict d) n v m see) c s a d false v m (frames_kinds (Op.Evict d) n v m see d h)
frames_goes c s a (Op.Remove d) n v m see h = frames_of_is (Evicts (Op.Remove d) n v m see) c s a d true v m (frames_kinds (Op.Remove d) n v m see d h)
frames_goes c s a o n v m see h = absurd (false≢true h)

-- migrations
record MoveKinds (P : Kind → Type 0) : Type 0 where
  finish : FinishKinds P
  nothing : P (Kind.Refused Cause.Never)
  starts : (p : ℕ) (r : Pages) (q : ℕ) → P (Kind.Start p r q)
  takes : (g : Frame) → P (Kind.Take g)
  keeps : (at : KeptAt) (why : KeptWhy) → P (Kind.Kept at why)
  commits : (f g : Frame) → P (Kind.Committed f g)
  sets : (m v : ℕ) (f : Option Frame) (w : TableRight) (at : ℕ) → P (Kind.Set m v f w at)

others_is : (P : Kind → Type 0) (s : After) (f : Option Frame) → MoveKinds P → P (others_of s f)
others_is P s None h = h.nothing
others_is P s (Some f) h = perhaps P _ _ _ h.nothing (λ x. h.starts _ _ _)

fetch_is : (P : Kind → Type 0) (c : Program) (s : After) (o : Op) (v : ℕ) → MoveKinds P → P (fetch_page c s o v)
fetch_is P c s o v h = either P _ _ _ (h.keeps _ _) (perhaps P _ _ _ (h.keeps _ _) (λ g. h.takes _))

commit_is : (P : Kind → Type 0) (s : After) (p v : ℕ) (f g : Option Frame) → MoveKinds P → P (commit_page s p v f g)
commit_is P s p v (Some f) (Some g) h = h.commits _ _
commit_is P s p v None (Some g) h = either P _ _ _ (h.starts _ _ _) (h.keeps _ _)
commit_is P s p v None None h = h.nothing
commit_is P s p v (Some f) None h = h.nothing

page_end_is : (P : Kind → Type 0) (s : After) (f g : Option Frame) (moved : Bool) → MoveKinds P → P (finish_page s f g moved)
page_end_is P s (Some f) g moved h = finish_is P s f _ h.finish
page_end_is P s None (Some g) moved h = h.finish.frees _
page_end_is P s None None moved h = h.nothing

step_is : (P : Kind → Type 0) (c : Program) (s : After) (o : Op) (step : MoveStep) (x : Migrating) → MoveKinds P → P (due_step c s o step x)
step_is P c s o MoveStep.FreezeOthers x h = others_is P s x.source h
step_is P c s o MoveStep.TakeAndCopy x h = fetch_is P c s o x.page h
step_is P c s o MoveStep.Commit x h = commit_is P s _ x.page x.source x.dest h
step_is P c s o MoveStep.SetOwnTable x h = h.sets _ _ _ _ _
step_is P c s o MoveStep.Finish x h = page_end_is P s x.source x.dest x.moved h

moves_on_fits : (o : Op) (n : ℕ) (step : MoveStep) (v : ℕ) → is_migration o ≡ true → fits o n (next_cursor step v ∷ []) ≡ true
moves_on_fits o n MoveStep.FreezeOthers v h = h
moves_on_fits o n MoveStep.TakeAndCopy v h = h
moves_on_fits o n MoveStep.Commit v h = h
moves_on_fits o n MoveStep.SetOwnTable v h = h
moves_on_fits o n MoveStep.Finish v h = h

copying_fits : (o : Op) (n : ℕ) (f : Option Frame) (g : Frame) (below : List Phase) → fits o n below ≡ true → fits o n (copying f g below) ≡ true
copying_fits o n None g below h = h
copying_fits o n (Some f) g below h = fits_push o n (Phase.Copy f g 0) below refl h

lost_fits : (o : Op) (n : ℕ) (why : KeptWhy) (to : Option Frame) (below : List Phase) → fits o n below ≡ true → fits o n (dropping_lost why to below) ≡ true
lost_fits o n KeptWhy.Lost to below h = dropping_fits o n to below h
lost_fits o n KeptWhy.NotHere to below h = h
lost_fits o n (KeptWhy.LockedBy b) to below h = h
lost_fits o n KeptWhy.NoFrame to below h = h
lost_fits o n KeptWhy.Skipped to below h = h

finishing_by : (o : Op) (n : ℕ) (f : Option Frame) (to : Option Frame) (v : ℕ) → is_migration o ≡ true → FinishKinds (λ k. goes o n k (elim f [ None ↦ Phase.Moves MoveStep.Finish v ∷ [] | Some g ↦ after_finish g to (Phase.Moves MoveStep.Finish v ∷ []) k ]) ≡ true)
finishing_by o n None to v h = record { places = λ p u x. h; frees = λ g. h; drops = λ g. h }
finishing_by o n (Some f) to v h = finish_kinds o n f to (Phase.Moves MoveStep.Finish v ∷ []) h

nothing_by : (o : Op) (n : ℕ) (f : Option Frame) (to : Option Frame) (v : ℕ) → is_migration o ≡ true → goes o n (Kind.Refused Cause.Never) (elim f [ None ↦ Phase.Moves MoveStep.Finish v ∷ [] | Some g ↦ after_finish g to (Phase.Moves MoveStep.Finish v ∷ []) (Kind.Refused Cause.Never) ]) ≡ true
nothing_by o n None to v h = h
nothing_by o n (Some f) None v h = h
nothing_by o n (Some f) (Some g) v h = h

abbrev Moves : Op → ℕ → MoveStep → Migrating → (Kind → Seen) → Kind → Type 0
Moves o n step x see k = goes o n k (after_moves step x k (see k)) ≡ true

move_kinds : (o : Op) (n : ℕ) (step : MoveStep) (x : Migrating) (see : Kind → Seen) → is_migration o ≡ true → MoveKinds (Moves o n step x see)
move_kinds o n step x see h =
    let by = finishing_by o n x.source (if x.moved then x.dest else None) (x.page + 1) h in
    record {
      finish = record { places = by.places; frees = by.frees; drops = by.drops };
      nothing = nothing_by o n x.source (if x.moved then x.dest else None) (x.page + 1) h;
      starts = λ p r q. fits_push o n (Phase.Guard p r (see (Kind.Start p r q)).overlapped None (freezing step x.source x.dest)) (next_cursor step x.page ∷ []) refl (moves_on_fits o n step x.page h);
      takes = λ g. copying_fits o n x.source g (Phase.Moves MoveStep.TakeAndCopy (x.page + 1) ∷ []) h;
      keeps = λ at why. lost_fits o n why x.dest (Phase.Moves (kept_step why) (x.page + 1) ∷ []) h;
      commits = λ f g. h;
      sets = λ m v f w at. h;
    }

abbrev pub Migrates : Op → ℕ → MoveStep → Option Migrating → (Kind → Seen) → Kind → Type 0
Migrates o n step page see k = goes o n k (after_migration step page k (see k)) ≡ true

pub moves_goes : (c : Program) (s : After) (o : Op) (n : ℕ) (step : MoveStep) (xs : List Migrating) (at : Option (MoveStep × Migrating)) (see : Kind → Seen) →
    is_migration o ≡ true → Migrates o n step (coming_page at) see (due_moves c s o xs at)
moves_goes c s o n step xs None see h = refl
moves_goes c s o n step xs (Some at) see h = step_is (Moves o n step at.1 see) c s o at.0 at.1 (move_kinds o n step at.1 see h)
