-- A stack comes to the giving up of a fault or a removal only where no frame was free for an emptied one.
use Rattle.std.proofs.Common.{◌≡◌, ℕ, ◌+◌, ◌⊎◌, inl, inr, Bool, true, false, ◌||◌, nat_lt, if◌then◌else◌, Option, Some, None, List, [], ◌∷◌, refl, sym, ap, ◌∙◌, length}
use Rattle.hm_base.specs.Pages.{Pages}
use Rattle.hm_base.specs.declared.Frame.{Frame}
use Rattle.hm_base.specs.declared.Place.{Place}
use Rattle.hm_base.specs.declared.ops.Op.{Op}
use Rattle.hm_history.specs.Memory.After.{After}
use Rattle.hm_history.specs.Kernel.Operation.{op_pieces, is_evicting}
use Rattle.hm_history.specs.Kernel.Stacks.{read_locked, with_guard, piece_ends, after_walk, with_frame_taken, below_next, frames_past, dropping, after_body, guard_goes_on, is_end, told_mirror, body_next, with_one_more, stack_after, after_begin, after_locked, after_ready, after_answer, after_pages, after_piece, is_added, after_fetched, after_decide, after_taken, after_guard, after_copy, after_finish, after_give_up, after_frames, copying, dropping_lost, kept_step, next_cursor, finishing, after_moves, after_migration}
use Rattle.hm_history.specs.declared.KeptAt.{KeptAt}
use Rattle.hm_history.specs.declared.KeptWhy.{KeptWhy}
use Rattle.hm_history.specs.declared.Kind.{Kind}
use Rattle.hm_history.specs.declared.phases.Seen.{Seen}
use Rattle.hm_history.specs.declared.phases.Touch.{Touch}
use Rattle.hm_history.specs.declared.phases.Body.{Body}
use Rattle.hm_history.specs.declared.phases.Migrating.{Migrating}
use Rattle.hm_history.specs.declared.phases.MoveStep.{MoveStep}
use Rattle.hm_history.specs.declared.phases.MoveStep.TheVariants.{FreezeOthers, TakeAndCopy, Finish}
use Rattle.hm_history.specs.declared.phases.Phase.{Phase}
use Rattle.hm_laws.specs.Past.{Past}
use Rattle.hm_laws.specs.Facts.{facts, HoldsAll}
use Rattle.hm_laws.proofs.Past.Short.{is_given, gives}
use Rattle.hm_history.proofs.Tests.{never}

opens : (k : Kind) (seen : Seen) (body : Body) (st : List Phase) → gives (with_guard k seen body st) ≡ gives st
opens (Kind.Start p r q) seen body st = refl
opens k seen body st = refl

ends : (o : Op) (k : ℕ) → gives (piece_ends o k) ≡ false
ends o k = by (nat_lt (k + 1) (length (op_pieces o)))
  where
    by : (b : Bool) → gives (if b then Phase.Piece (k + 1) ∷ [] else []) ≡ false
    by true = refl
    by false = refl

locks_read : (o : Op) → is_given (read_locked o) ≡ false
locks_read (Op.Snap m r) = refl
locks_read (Op.Exclusive m v) = refl
locks_read o = refl

begin : (o : Op) (k : Kind) → gives (after_begin o k) ≡ false
begin o (Kind.Wlock p) = refl
begin o (Kind.Rlock p) = ap (λ b. b || false) (locks_read o)
begin o (Kind.Detaching m q) = refl
begin o k = refl

locked : (o : Op) (k : Kind) (seen : Seen) → gives (after_locked o k seen) ≡ false
locked o (Kind.Named p c) seen = refl
locked o (Kind.Start p r q) seen = refl
locked o k seen = refl

ready : (o : Op) (k : Kind) (seen : Seen) → gives (after_ready o k seen) ≡ false
ready (Op.Fork p c) k seen = opens k seen (Body.Fork 0 false) (Phase.Answer ∷ [])
ready (Op.ToDevice m r) k seen = opens k seen (Body.Select r.first) (Phase.Moves FreezeOthers r.first ∷ [])
ready (Op.ToSystem m r) k seen = opens k seen (Body.Select r.first) (Phase.Moves FreezeOthers r.first ∷ [])
ready o k seen = refl

answer : (k : Kind) → gives (after_answer k) ≡ false
answer (Kind.Runlock p) = refl
answer k = refl

pages : (k : Kind) → gives (after_pages k) ≡ false
pages (Kind.Seen m v c) = refl
pages k = refl

piece : (o : Op) (n : ℕ) (touch : Touch) (k : Kind) (seen : Seen) → gives (after_piece o n touch k seen) ≡ false
piece o n touch (Kind.Loaded x a bs) seen = ends o n
piece o n touch (Kind.Stored x a bs) seen = ends o n
piece o n touch (Kind.Failed x a m c) seen = ends o n
piece o n touch (Kind.Begin m q) seen = refl
piece o n touch (Kind.Fetched m a bs) seen = refl
piece o n touch (Kind.Rlock p) seen = refl
piece o n touch k seen = refl

fetched : (o : Op) (k : Kind) (seen : Seen) → gives (after_fetched o k seen) ≡ false
fetched o k seen = by (is_added k)
  where
    by : (b : Bool) → gives (if b then [] else after_piece o 0 Touch.Sole k seen) ≡ false
    by true = refl
    by false = piece o 0 Touch.Sole k seen

notes : (touch : Touch) (x : Place) → is_given (after_walk touch x) ≡ false
notes (Touch.Walk k at q) x = refl
notes touch x = refl

takes : (touch : Touch) (g : Frame) (x : Place) → is_given (with_frame_taken touch g x) ≡ false
takes touch g Place.Zero = refl
takes touch g x = refl

decide : (o : Op) (touch : Touch) (k : Kind) (seen : Seen) → gives (after_decide o touch k seen) ≡ false
decide o touch (Kind.Failed x a n c) seen = ends o _
decide o touch (Kind.Retry m) seen = refl
decide o touch (Kind.Runlock p) seen = ap (λ b. b || false) (notes touch seen.place)
decide o touch (Kind.Set m v f w from) seen = refl
decide o touch (Kind.Place p v x) seen = refl
decide o touch (Kind.Take g) seen = ap (λ b. b || false) (takes touch g seen.place)
decide o touch (Kind.Start p r q) seen = refl
decide o touch k seen = refl

takes_on : (touch : Touch) (g : Frame) (over : Place) (k : Kind) → gives (after_taken touch g over k) ≡ false
takes_on touch g over (Kind.Copied f h n) = refl
takes_on touch g over k = refl

past : (f : Frame) (below : List Phase) → gives (frames_past f below) ≡ gives below
past f (Phase.Frames v n ∷ below) = refl
past f below = refl

counts : (below : List Phase) → gives (with_one_more below) ≡ gives below
counts (Phase.Frames v n ∷ below) = refl
counts below = refl

drops : (x : Option Frame) (st : List Phase) → gives (dropping x st) ≡ gives st
drops None st = refl
drops (Some f) st = refl

belows : (o : Op) (body : Body) (r : Pages) (below : List Phase) → gives (below_next o body r below) ≡ gives below
belows o (Body.Catch f) r below = by (is_evicting o)
  where
    by : (b : Bool) → gives (if b then Phase.Emptying f (KeptAt.Frame f) ∷ frames_past f below else (Phase.Emptying f (KeptAt.Page r.first) ∷ below)) ≡ gives below
    by true = past f below
    by false = refl
belows o body r below = refl

ended_gives : (body : Body) (r : Pages) (below : List Phase) → gives (after_body body r below) ≡ gives below
ended_gives (Body.Replace over g) r below = refl
ended_gives (Body.Fresh g) r below = refl
ended_gives body r below = refl

guard : (o : Op) (p : ℕ) (r : Pages) (met : Bool) (told : Option ℕ) (body : Body) (below : List Phase) (k : Kind) (seen : Seen) → gives (after_guard o p r met told body below k seen) ≡ gives below
guard o p r met told body below k seen = by (told_mirror k)
  where
    goes : (b : Bool) → gives (if b then after_body body r below else guard_goes_on o p r met told body below k seen) ≡ gives below
    goes true = ended_gives body r below
    goes false = drops seen.orphan (Phase.Guard p r met told (body_next body p k) ∷ below_next o body r below) ∙ belows o body r below

    by : (x : Option ℕ) → gives (elim x [ Some m ↦ Phase.Guard p r met (Some m) body ∷ below | None ↦ if is_end k then after_body body r below else guard_goes_on o p r met told body below k seen ]) ≡ gives below
    by None = goes (is_end k)
    by (Some m) = refl

copies : (f g : Frame) (k : ℕ) (below : List Phase) → gives (after_copy f g k below) ≡ gives below
copies f g k below = by (nat_lt k 7)
  where
    by : (b : Bool) → gives (if b then Phase.Copy f g (k + 1) ∷ below else below) ≡ gives below
    by true = refl
    by false = refl

finishes : (f : Frame) (to : Option Frame) (below : List Phase) (k : Kind) → gives (after_finish f to below k) ≡ gives below
finishes f to below (Kind.Place p v x) = refl
finishes f (Some g) below (Kind.Drop h) = refl
finishes f to below k = refl

given : (o : Op) (touch : Option Touch) (k : Kind) → gives (after_give_up o touch k) ≡ false
given o touch (Kind.Failed x a n c) = ends o _
given o touch k = refl

frames : (v n : ℕ) (k : Kind) (seen : Seen) → gives (after_frames v n k seen) ≡ false
frames v n (Kind.Start p r q) seen = refl
frames v n (Kind.Kept (KeptAt.Frame f) why) seen = refl
frames v n (Kind.Withdrawn d) seen = refl
frames v n k seen = refl

copies_on : (source : Option Frame) (g : Frame) (below : List Phase) → gives (copying source g below) ≡ gives below
copies_on None g below = refl
copies_on (Some f) g below = refl

drops_lost : (why : KeptWhy) (to : Option Frame) (below : List Phase) → gives (dropping_lost why to below) ≡ gives below
drops_lost KeptWhy.Lost to below = drops to below
drops_lost why to below = refl

moving_on : (step : MoveStep) (v : ℕ) → gives (next_cursor step v ∷ []) ≡ false
moving_on FreezeOthers v = refl
moving_on step v = refl

ends_page : (x : Migrating) (k : Kind) → gives (finishing x k) ≡ false
ends_page x k = by x.source
  where
    by : (y : Option Frame) → gives (elim y [ None ↦ Phase.Moves Finish (x.page + 1) ∷ [] | Some f ↦ after_finish f (if x.moved then x.dest else None) (Phase.Moves Finish (x.page + 1) ∷ []) k ]) ≡ false
    by None = refl
    by (Some f) = finishes f (if x.moved then x.dest else None) (Phase.Moves Finish (x.page + 1) ∷ []) k

moves : (step : MoveStep) (x : Migrating) (k : Kind) (seen : Seen) → gives (after_moves step x k seen) ≡ false
moves step x (Kind.Start p r q) seen = moving_on step x.page
moves step x (Kind.Take g) seen = copies_on x.source g (Phase.Moves TakeAndCopy (x.page + 1) ∷ [])
moves step x (Kind.Kept at why) seen = drops_lost why x.dest (Phase.Moves (kept_step why) (x.page + 1) ∷ [])
moves step x (Kind.Committed f g) seen = refl
moves step x (Kind.Set m v f w from) seen = refl
moves step x k seen = ends_page x k

migration : (step : MoveStep) (page : Option Migrating) (k : Kind) (seen : Seen) → gives (after_migration step page k seen) ≡ false
migration step None k seen = refl
migration step (Some x) k seen = moves step x k seen

abbrev pub is_alone_phase : Phase → Bool
is_alone_phase (Phase.Emptying f at) = true
is_alone_phase top = false

pub moved_gives : (s : After) (t : Past) (a : ℕ) (o : Op) (xs : List Migrating) (top : Phase) (below : List Phase) (k : Kind) (seen : Seen) → HoldsAll s t a (facts o xs (top ∷ below)) → gives (stack_after o (top ∷ below) k seen) ≡ true → (gives below ≡ true) ⊎ (is_alone_phase top ≡ true)
moved_gives s t a o xs Phase.Begin below k seen h g = never _ (begin o k) g
moved_gives s t a o xs Phase.Locked below k seen h g = never _ (locked o k seen) g
moved_gives s t a o xs Phase.Ready below k seen h g = never _ (ready o k seen) g
moved_gives s t a o xs Phase.Answer below k seen h g = never _ (answer k) g
moved_gives s t a o xs (Phase.Detaching q) below k seen h g = cc
moved_gives s t a o xs (Phase.Pages v) below k seen h g = never _ (pages k) g
moved_gives s t a o xs (Phase.Piece n) below k seen h g = never _ (piece o n _ k seen) g
moved_gives s t a o xs (Phase.Fetched old) below k seen h g = never _ (fetched o k seen) g
moved_gives s t a o xs (Phase.Begun n at q) below k seen h g = never _ (piece o n _ k seen) g
moved_gives s t a o xs (Phase.Decide touch) below k seen h g = never _ (decide o touch k seen) g
moved_gives s t a o xs (Phase.Noted n at q x) below k seen h g = cc
moved_gives s t a o xs (Phase.Taken touch f x) below k seen h g = never _ (takes_on touch f x k) g
moved_gives s t a o xs (Phase.Armed touch f x) below k seen h g = never _ (opens k seen (Body.Replace x f) (Phase.Decide touch ∷ [])) g
moved_gives s t a o xs (Phase.Guard p r met told body) below k seen h g = inl (sym (guard o p r met told body below k seen) ∙ g)
moved_gives s t a o xs (Phase.Drop f) below k seen h g = inl g
moved_gives s t a o xs (Phase.Emptying f at) below k seen h g = inr refl
moved_gives s t a o xs (Phase.Copy f i n) below k seen h g = inl (sym (copies f i n below) ∙ g)
moved_gives s t a o xs (Phase.Copied f i) below k seen h g = inl (sym (counts below) ∙ g)
moved_gives s t a o xs (Phase.Finish f to) below k seen h g = inl (sym (finishes f to below k) ∙ g)
moved_gives s t a o xs (Phase.Settle i) below k seen h g = inl g
moved_gives s t a o xs (Phase.GiveUp touch) below k seen h g = never _ (given o touch k) g
moved_gives s t a o xs (Phase.Frames v n) below k seen h g = never _ (frames v n k seen) g
moved_gives s t a o xs (Phase.Moves step v) below k seen h g = never _ (migration step seen.page k seen) g
moved_gives s t a o xs (Phase.Lost v f) below k seen h g = inl g
