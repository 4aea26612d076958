-- The first phases of an operation, before its guard, come back in no stack that has left them.
use Rattle.std.proofs.Common.{◌≡◌, ℕ, ◌+◌, Bool, true, false, if◌then◌else◌, nat_lt, Option, Some, None, List, [], ◌∷◌, length, refl, sym, ◌∙◌}
use Rattle.std.specs.List.{list_any}
use Rattle.hm_base.specs.Pages.{Pages}
use Rattle.hm_base.specs.declared.Frame.{Frame}
use Rattle.hm_base.specs.declared.Place.{Place}
use Rattle.hm_base.specs.declared.ops.Op.{Op}
use Rattle.hm_history.specs.declared.KeptAt.{KeptAt}
use Rattle.hm_history.specs.declared.KeptWhy.{KeptWhy}
use Rattle.hm_history.specs.declared.Kind.{Kind}
use Rattle.hm_history.specs.Kernel.Operation.{op_pieces, is_remove, is_evicting}
use Rattle.hm_history.specs.Kernel.Stacks.{piece_ends, with_guard, after_ready, after_answer, after_pages, after_piece, is_added, after_fetched, after_walk, with_frame_taken, after_decide, after_taken, frames_past, below_next, dropping, after_body, guard_goes_on, told_mirror, is_end, after_guard, gives_up, after_emptying, with_one_more, after_finish, after_give_up, after_frames, next_cursor, copying, dropping_lost, finishing, after_moves, after_migration, after_top, kept_step, first_touch, body_next}
use Rattle.hm_history.specs.declared.phases.Migrating.{Migrating}
use Rattle.hm_history.specs.declared.phases.MoveStep.{MoveStep}
use Rattle.hm_history.specs.declared.phases.Seen.{Seen}
use Rattle.hm_history.specs.declared.phases.Touch.{Touch}
use Rattle.hm_history.specs.declared.phases.Body.{Body}
use Rattle.hm_history.specs.declared.phases.Phase.{Phase}
use Rattle.hm_history.proofs.Tests.{never}

-- the phases before an operation's guard or its number of a child
abbrev pub is_early : Phase → Bool
is_early Phase.Begin = true
is_early Phase.Locked = true
is_early top = false

abbrev pub has_early : List Phase → Bool
has_early st = list_any is_early st

-- the stack has none, and none but what is below
abbrev None_early : List Phase → Type 0
None_early st = has_early st ≡ false

abbrev As_below : List Phase → List Phase → Type 0
As_below below st = has_early st ≡ has_early below

if_none : (b : Bool) (x y : List Phase) → None_early x → None_early y → None_early (if b then x else y)
if_none true x y h k = h
if_none false x y h k = k

if_below : (b : Bool) (below x y : List Phase) → As_below below x → As_below below y → As_below below (if b then x else y)
if_below true below x y h k = h
if_below false below x y h k = k

pieces_none : (o : Op) (k : ℕ) → None_early (piece_ends o k)
pieces_none o k = if_none (nat_lt (k + 1) (length (op_pieces o))) (Phase.Piece (k + 1) ∷ []) [] refl refl

guard_below : (k : Kind) (seen : Seen) (body : Body) (below : List Phase) → As_below below (with_guard k seen body below)
guard_below (Kind.Start p r q) seen body below = refl
guard_below k seen body below = refl

cursor_none : (step : MoveStep) (v : ℕ) → None_early (next_cursor step v ∷ [])
cursor_none MoveStep.FreezeOthers v = refl
cursor_none step v = refl

ready_none : (o : Op) (k : Kind) (seen : Seen) → None_early (after_ready o k seen)
ready_none (Op.Fork p d) k seen = guard_below k seen (Body.Fork 0 false) (Phase.Answer ∷ [])
ready_none (Op.ToDevice m r) k seen = guard_below k seen (Body.Select r.first) (Phase.Moves MoveStep.FreezeOthers r.first ∷ [])
ready_none (Op.ToSystem m r) k seen = guard_below k seen (Body.Select r.first) (Phase.Moves MoveStep.FreezeOthers r.first ∷ [])
ready_none o k seen = refl

answer_none : (k : Kind) → None_early (after_answer k)
answer_none (Kind.Runlock p) = refl
answer_none k = refl

pages_none : (k : Kind) → None_early (after_pages k)
pages_none (Kind.Seen m v i) = refl
pages_none k = refl

piece_none : (o : Op) (n : ℕ) (touch : Touch) (k : Kind) (seen : Seen) → None_early (after_piece o n touch k seen)
piece_none o n touch (Kind.Loaded x at bs) seen = pieces_none o n
piece_none o n touch (Kind.Stored x at bs) seen = pieces_none o n
piece_none o n touch (Kind.Failed x at i why) seen = pieces_none o n
piece_none o n touch (Kind.Begin m q) seen = refl
piece_none o n touch (Kind.Fetched m bs i) seen = refl
piece_none o n touch (Kind.Rlock p) seen = refl
piece_none o n touch k seen = refl

walk_none : (touch : Touch) (x : Place) → None_early (after_walk touch x ∷ [])
walk_none (Touch.Walk k at q) x = refl
walk_none touch x = refl

taken_one : (touch : Touch) (g : Frame) (x : Place) → None_early (with_frame_taken touch g x ∷ [])
taken_one touch g Place.Zero = refl
taken_one touch g x = refl

decide_none : (o : Op) (touch : Touch) (k : Kind) (seen : Seen) → None_early (after_decide o touch k seen)
decide_none o touch (Kind.Failed x at n why) seen = pieces_none o _
decide_none o touch (Kind.Retry m) seen = refl
decide_none o touch (Kind.Runlock p) seen = walk_none touch seen.place
decide_none o touch (Kind.Set m v f w from) seen = refl
decide_none o touch (Kind.Place p v x) seen = refl
decide_none o touch (Kind.Take g) seen = taken_one touch g seen.place
decide_none o touch (Kind.Start p r q) seen = refl
decide_none o touch k seen = refl

taken_none : (touch : Touch) (g : Frame) (x : Place) (k : Kind) → None_early (after_taken touch g x k)
taken_none touch g x (Kind.Copied f h i) = refl
taken_none touch g x k = refl

past_below : (f : Frame) (below : List Phase) → As_below below (frames_past f below)
past_below f [] = refl
past_below f (Phase.Frames v n ∷ below) = refl
past_below f (x ∷ below) = refl

next_below : (o : Op) (body : Body) (r : Pages) (below : List Phase) → As_below below (below_next o body r below)
next_below o (Body.Catch f) r below = if_below (is_evicting o) below (Phase.Emptying f (KeptAt.Frame f) ∷ frames_past f below) (Phase.Emptying f (KeptAt.Page r.first) ∷ below) (past_below f below) refl
next_below o body r below = refl

dropping_below : (x : Option Frame) (below : List Phase) → As_below below (dropping x below)
dropping_below None below = refl
dropping_below (Some f) below = refl

body_below : (body : Body) (r : Pages) (below : List Phase) → As_below below (after_body body r below)
body_below (Body.Replace over g) r below = refl
body_below (Body.Fresh g) r below = refl
body_below body r below = refl

goes_below : (o : Op) (p : ℕ) (r : Pages) (met : Bool) (told : Option ℕ) (body : Body) (below : List Phase) (k : Kind) (seen : Seen) → As_below below (guard_goes_on o p r met told body below k seen)
goes_below o p r met told body below k seen = dropping_below seen.orphan (Phase.Guard p r met told (body_next body p k) ∷ below_next o body r below) ∙ next_below o body r below

guards_below : (o : Op) (p : ℕ) (r : Pages) (met : Bool) (told : Option ℕ) (body : Body) (below : List Phase) (k : Kind) (seen : Seen) → As_below below (after_guard o p r met told body below k seen)
guards_below o p r met told body below k seen = by (told_mirror k)
  where
    by : (x : Option ℕ) → As_below below (elim x as (λ y. List Phase) [ Some m ↦ Phase.Guard p r met (Some m) body ∷ below | None ↦ if is_end k then after_body body r below else guard_goes_on o p r met told body below k seen ])
    by (Some m) = refl
    by None = if_below (is_end k) below (after_body body r below) (guard_goes_on o p r met told body below k seen) (body_below body r below) (goes_below o p r met told body below k seen)

-- giving up takes away what is below, or nothing
abbrev Fewer : List Phase → List Phase → Type 0
Fewer below st = has_early st ≡ true → has_early below ≡ true

gives_fewer : (o : Op) (below : List Phase) → Fewer below (gives_up o below)
gives_fewer o [] h = h
gives_fewer o (Phase.Decide touch ∷ below) h = absurd (clash h)
  where
    clash : false ≡ true → ⊥
    clash i = cc
gives_fewer o (Phase.Frames v n ∷ below) h = by (is_remove o) h
  where
    by : (b : Bool) → has_early (elim (if b then Some (Phase.GiveUp None) else None) as (λ y. List Phase) [ Some y ↦ y ∷ [] | None ↦ Phase.Frames v n ∷ below ]) ≡ true → has_early below ≡ true
    by true i = cc
    by false i = i
gives_fewer o (x ∷ below) h = h

emptying_fewer : (o : Op) (f : Frame) (what : KeptAt) (below : List Phase) (k : Kind) (seen : Seen) → Fewer below (after_emptying o f what below k seen)
emptying_fewer o f what below (Kind.Start p r q) seen h = h
emptying_fewer o f what below (Kind.Take g) seen h = h
emptying_fewer o f what below k seen h = gives_fewer o below h

one_more_below : (below : List Phase) → As_below below (with_one_more below)
one_more_below [] = refl
one_more_below (Phase.Frames v n ∷ below) = refl
one_more_below (x ∷ below) = refl

finish_below : (f : Frame) (to : Option Frame) (below : List Phase) (k : Kind) → As_below below (after_finish f to below k)
finish_below f to below (Kind.Place p v x) = refl
finish_below f (Some g) below (Kind.Drop h) = refl
finish_below f None below (Kind.Drop h) = refl
finish_below f to below k = refl

give_up_none : (o : Op) (touch : Option Touch) (k : Kind) → None_early (after_give_up o touch k)
give_up_none o touch (Kind.Failed x at n why) = pieces_none o _
give_up_none o touch k = refl

frames_none : (v n : ℕ) (k : Kind) (seen : Seen) → None_early (after_frames v n k seen)
frames_none v n (Kind.Start p r q) seen = refl
frames_none v n (Kind.Kept (KeptAt.Frame f) why) seen = refl
frames_none v n (Kind.Drop f) seen = refl
frames_none v n (Kind.Withdrawn d) seen = refl
frames_none v n k seen = refl

copying_below : (x : Option Frame) (g : Frame) (below : List Phase) → As_below below (copying x g below)
copying_below None g below = refl
copying_below (Some f) g below = refl

lost_below : (why : KeptWhy) (to : Option Frame) (below : List Phase) → As_below below (dropping_lost why to below)
lost_below KeptWhy.Lost to below = dropping_below to below
lost_below why to below = refl

finishing_none : (x : Migrating) (k : Kind) → None_early (finishing x k)
finishing_none x k = by x.source
  where
    by : (y : Option Frame) → None_early (elim y as (λ z. List Phase) [ None ↦ Phase.Moves MoveStep.Finish (x.page + 1) ∷ [] | Some f ↦ after_finish f (if x.moved then x.dest else None) (Phase.Moves MoveStep.Finish (x.page + 1) ∷ []) k ])
    by None = refl
    by (Some f) = finish_below f (if x.moved then x.dest else None) (Phase.Moves MoveStep.Finish (x.page + 1) ∷ []) k

moves_none : (step : MoveStep) (x : Migrating) (k : Kind) (seen : Seen) → None_early (after_moves step x k seen)
moves_none step x (Kind.Start p r q) seen = cursor_none step x.page
moves_none step x (Kind.Take g) seen = copying_below x.source g (Phase.Moves MoveStep.TakeAndCopy (x.page + 1) ∷ [])
moves_none step x (Kind.Kept at why) seen = lost_below why x.dest (Phase.Moves (kept_step why) (x.page + 1) ∷ [])
moves_none step x (Kind.Committed f g) seen = refl
moves_none step x (Kind.Set m v f w from) seen = refl
moves_none step x k seen = finishing_none x k

migration_none : (step : MoveStep) (x : Option Migrating) (k : Kind) (seen : Seen) → None_early (after_migration step x k seen)
migration_none step None k seen = refl
migration_none step (Some x) k seen = moves_none step x k seen

fetched_none : (o : Op) (k : Kind) (seen : Seen) → None_early (after_fetched o k seen)
fetched_none o k seen = if_none (is_added k) [] (after_piece o 0 Touch.Sole k seen) refl (piece_none o 0 Touch.Sole k seen)

-- a stack that has one after an entry had one before
pub was_early : (o : Op) (top : Phase) (below : List Phase) (k : Kind) (seen : Seen) → has_early (after_top o top below k seen) ≡ true → has_early (top ∷ below) ≡ true
was_early o Phase.Begin below k seen h = refl
was_early o Phase.Locked below k seen h = refl
was_early o Phase.Ready below k seen h = never _ (ready_none o k seen) h
was_early o Phase.Answer below k seen h = never _ (answer_none k) h
was_early o (Phase.Detaching q) below k seen h = never false refl h
was_early o (Phase.Pages v) below k seen h = never _ (pages_none k) h
was_early o (Phase.Piece n) below k seen h = never _ (piece_none o n (first_touch o n) k seen) h
was_early o (Phase.Fetched old) below k seen h = never _ (fetched_none o k seen) h
was_early o (Phase.Begun n at q) below k seen h = never _ (piece_none o n (Touch.Walk n at q) k seen) h
was_early o (Phase.Decide touch) below k seen h = never _ (decide_none o touch k seen) h
was_early o (Phase.Noted n at q x) below k seen h = never false refl h
was_early o (Phase.Taken touch g x) below k seen h = never _ (taken_none touch g x k) h
was_early o (Phase.Armed touch g x) below k seen h = never _ (guard_below k seen (Body.Replace x g) (Phase.Decide touch ∷ [])) h
was_early o (Phase.Guard p r met told body) below k seen h = sym (guards_below o p r met told body below k seen) ∙ h
was_early o (Phase.Drop f) below k seen h = h
was_early o (Phase.Emptying f what) below k seen h = emptying_fewer o f what below k seen h
was_early o (Phase.Copy f g n) below k seen h = sym (if_below (nat_lt n 7) below (Phase.Copy f g (n + 1) ∷ below) below refl refl) ∙ h
was_early o (Phase.Copied f g) below k seen h = sym (one_more_below below) ∙ h
was_early o (Phase.Finish f to) below k seen h = sym (finish_below f to below k) ∙ h
was_early o (Phase.Settle g) below k seen h = h
was_early o (Phase.GiveUp touch) below k seen h = never _ (give_up_none o touch k) h
was_early o (Phase.Frames v n) below k seen h = never _ (frames_none v n k seen) h
was_early o (Phase.Moves step v) below k seen h = never _ (migration_none step seen.page k seen) h
was_early o (Phase.Lost v g) below k seen h = h
