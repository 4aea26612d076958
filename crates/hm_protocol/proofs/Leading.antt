-- Where an entry leads at a phase that does not pass on: to a look-up, to a place that it notes, or to a migration.
use Rattle.std.proofs.Common.{refl, ap, sym, subst, ◌∙◌, inl, inr}
use Rattle.std.proofs.lemmas.Bool.{true≢false}
use Rattle.std.specs.Prelude.{◌≡◌, ℕ, ◌+◌, ◌⊎◌, Bool, true, false, nat_lt, if◌then◌else◌, Option, Some, None, length, ⊤}
use Rattle.std.specs.Prelude.{List, [], ◌∷◌}
use Rattle.hm_base.specs.declared.Frame.{Frame}
use Rattle.hm_base.specs.declared.Place.{Place}
use Rattle.hm_base.specs.declared.ops.Op.{Op}
use Rattle.hm_history.specs.Kernel.Operation.{op_pieces, is_migration}
use Rattle.hm_history.specs.Kernel.Stacks.{piece_ends, with_guard, read_locked, after_begin, after_locked}
use Rattle.hm_history.specs.Kernel.Stacks.{after_ready, after_answer, after_pages, first_touch, is_added, after_piece}
use Rattle.hm_history.specs.Kernel.Stacks.{after_fetched, after_walk, with_frame_taken, after_decide}
use Rattle.hm_history.specs.Kernel.Stacks.{after_taken, after_migration}
use Rattle.hm_history.specs.Kernel.Stacks.{after_give_up, after_frames}
use Rattle.hm_history.specs.Kernel.Stacks.{piece_of, piece_of_given_up, stack_after}
use Rattle.hm_history.specs.declared.KeptAt.{KeptAt}
use Rattle.hm_history.specs.declared.Kind.{Kind}
use Rattle.hm_history.specs.declared.phases.Migrating.{Migrating}
use Rattle.hm_history.specs.declared.phases.MoveStep.{MoveStep}
use Rattle.hm_history.specs.declared.phases.Seen.{Seen}
use Rattle.hm_history.specs.declared.phases.Touch.{Touch}
use Rattle.hm_history.specs.declared.phases.Body.{Body}
use Rattle.hm_history.specs.declared.phases.Phase.{Phase}
use Rattle.hm_protocol.proofs.Stands.{Stand, of_touch, is_passing, is_moves, stand, has_noted, turns}

-- where it leads: a look-up goes on or begins, it notes a place where a walk ends, and a migration begins
abbrev pub Leads : Op → Phase → List Phase → Kind → Stand → Type 0
Leads o top below k Stand.Rests = ⊤
Leads o top below k (Stand.Walks q) = (stand (top ∷ below) ≡ Stand.Walks q) ⊎ ((m : ℕ) × (k ≡ Kind.Begin m q))
Leads o top below k (Stand.Notes q n x) =
    (since p : ℕ) × ((top ≡ Phase.Decide (Touch.Walk n since q)) × (k ≡ Kind.Runlock p))
Leads o top below k (Stand.Moves step) =
    (top ≡ Phase.Ready) × ((step ≡ MoveStep.FreezeOthers) × (is_migration o ≡ true))

by_stand : (o : Op) (top : Phase) (below : List Phase) (k : Kind) (x : Stand) (st : List Phase) → stand st ≡ x
    → Leads o top below k x → Leads o top below k (stand st)
by_stand o top below k x st e h = subst (Leads o top below k) (sym e) h

ends : (o : Op) (n : ℕ) → stand (piece_ends o n) ≡ Stand.Rests
ends o n = by (nat_lt (n + 1) (length (op_pieces o)))
  where
    by : (b : Bool) → stand (if b then Phase.Piece (n + 1) ∷ [] else []) ≡ Stand.Rests
    by true = refl
    by false = refl

pub guarded : (k : Kind) (seen : Seen) (body : Body) (below : List Phase)
    → stand (with_guard k seen body below) ≡ stand below
guarded (Kind.Start p r q) seen body below = refl
guarded k seen body below = refl

-- the look-up goes on
goes_on : (o : Op) (top : Phase) (below : List Phase) (k : Kind) (touch : Touch) → stand (top ∷ below) ≡ of_touch touch
    → Leads o top below k (of_touch touch)
goes_on o top below k (Touch.Walk n since q) e = inl e
goes_on o top below k (Touch.Cpu n) e = tt
goes_on o top below k Touch.Sole e = tt

begin_leads : (o : Op) (below : List Phase) (k : Kind) → Leads o Phase.Begin below k (stand (after_begin o k))
begin_leads o below (Kind.Rlock p) = by o
  where
    by : (i : Op) → Leads o Phase.Begin below (Kind.Rlock p) (stand (read_locked i ∷ []))
    by (Op.Snap m r) = tt
    by (Op.Exclusive m v) = tt
    by i = tt
begin_leads o below k = tt

locked_leads : (o : Op) (below : List Phase) (k : Kind) (seen : Seen)
    → Leads o Phase.Locked below k (stand (after_locked o k seen))
locked_leads o below (Kind.Named p child) seen = tt
locked_leads o below (Kind.Start p r q) seen = tt
locked_leads o below k seen = tt

ready_leads : (o : Op) (below : List Phase) (k : Kind) (seen : Seen)
    → Leads o Phase.Ready below k (stand (after_ready o k seen))
ready_leads (Op.Fork p child) below k seen = by_stand (Op.Fork p child) Phase.Ready below k Stand.Rests
    (with_guard k seen (Body.Fork 0 false) (Phase.Answer ∷ [])) (guarded k seen (Body.Fork 0 false) (Phase.Answer ∷ []))
    tt
ready_leads (Op.ToDevice m r) below k seen =
    by_stand (Op.ToDevice m r) Phase.Ready below k (Stand.Moves MoveStep.FreezeOthers)
    (with_guard k seen (Body.Select r.first) (Phase.Moves MoveStep.FreezeOthers r.first ∷ []))
    (guarded k seen (Body.Select r.first) (Phase.Moves MoveStep.FreezeOthers r.first ∷ [])) (refl, (refl, refl))
ready_leads (Op.ToSystem m r) below k seen =
    by_stand (Op.ToSystem m r) Phase.Ready below k (Stand.Moves MoveStep.FreezeOthers)
    (with_guard k seen (Body.Select r.first) (Phase.Moves MoveStep.FreezeOthers r.first ∷ []))
    (guarded k seen (Body.Select r.first) (Phase.Moves MoveStep.FreezeOthers r.first ∷ [])) (refl, (refl, refl))
ready_leads o below k seen = tt

answer_leads : (o : Op) (below : List Phase) (k : Kind) → Leads o Phase.Answer below k (stand (after_answer k))
answer_leads o below (Kind.Runlock p) = tt
answer_leads o below k = tt

pages_leads : (o : Op) (v : ℕ) (below : List Phase) (k : Kind) → Leads o (Phase.Pages v) below k (stand (after_pages k))
pages_leads o v below (Kind.Seen m u c) = tt
pages_leads o v below k = tt

piece_leads : (o : Op) (top : Phase) (below : List Phase) (n : ℕ) (touch : Touch) (k : Kind) (seen : Seen)
    → Leads o top below k (of_touch touch) → Leads o top below k (stand (after_piece o n touch k seen))
piece_leads o top below n touch (Kind.Loaded x at bs) seen h =
    by_stand o top below (Kind.Loaded x at bs) Stand.Rests (piece_ends o n) (ends o n) tt
piece_leads o top below n touch (Kind.Stored x at bs) seen h =
    by_stand o top below (Kind.Stored x at bs) Stand.Rests (piece_ends o n) (ends o n) tt
piece_leads o top below n touch (Kind.Failed x at c why) seen h =
    by_stand o top below (Kind.Failed x at c why) Stand.Rests (piece_ends o n) (ends o n) tt
piece_leads o top below n touch (Kind.Begin m q) seen h = inr (m, refl)
piece_leads o top below n touch (Kind.Fetched m at bs) seen h = tt
piece_leads o top below n touch (Kind.Rlock p) seen h = h
piece_leads o top below n touch k seen h = tt

first_leads : (o : Op) (n : ℕ) (below : List Phase) (k : Kind) (i : Op)
    → Leads o (Phase.Piece n) below k (of_touch (first_touch i n))
first_leads o n below k (Op.Add m at z) = tt
first_leads o n below k i = tt

fetched_leads : (o : Op) (old : ℕ) (below : List Phase) (k : Kind) (seen : Seen)
    → Leads o (Phase.Fetched old) below k (stand (after_fetched o k seen))
fetched_leads o old below k seen = by (is_added k)
  where
    by : (b : Bool) → Leads o (Phase.Fetched old) below k (stand (if b then [] else after_piece o 0 Touch.Sole k seen))
    by true = tt
    by false = piece_leads o (Phase.Fetched old) below 0 Touch.Sole k seen tt

walk_leads : (o : Op) (touch : Touch) (below : List Phase) (p : ℕ) (x : Place)
    → Leads o (Phase.Decide touch) below (Kind.Runlock p) (stand (after_walk touch x ∷ []))
walk_leads o (Touch.Walk n since q) below p x = (since, p, (refl, refl))
walk_leads o (Touch.Cpu n) below p x = tt
walk_leads o Touch.Sole below p x = tt

pub framed : (touch : Touch) (g : Frame) (x : Place) → stand (with_frame_taken touch g x ∷ []) ≡ of_touch touch
framed touch g Place.Zero = refl
framed touch g x = refl

decide_leads : (o : Op) (touch : Touch) (below : List Phase) (k : Kind) (seen : Seen)
    → Leads o (Phase.Decide touch) below k (stand (after_decide o touch k seen))
decide_leads o touch below (Kind.Failed x at n c) seen = by_stand o (Phase.Decide touch) below (Kind.Failed x at n c)
    Stand.Rests (piece_ends o (piece_of touch)) (ends o (piece_of touch)) tt
decide_leads o touch below (Kind.Retry m) seen = tt
decide_leads o touch below (Kind.Runlock p) seen = walk_leads o touch below p seen.place
decide_leads o touch below (Kind.Set m v f w from) seen = tt
decide_leads o touch below (Kind.Place p v x) seen =
    goes_on o (Phase.Decide touch) below (Kind.Place p v x) touch refl
decide_leads o touch below (Kind.Take g) seen = by_stand o (Phase.Decide touch) below (Kind.Take g) (of_touch touch)
    (with_frame_taken touch g seen.place ∷ []) (framed touch g seen.place)
    (goes_on o (Phase.Decide touch) below (Kind.Take g) touch refl)
decide_leads o touch below (Kind.Start p r q) seen =
    goes_on o (Phase.Decide touch) below (Kind.Start p r q) touch refl
decide_leads o touch below k seen = tt

taken_leads : (o : Op) (touch : Touch) (g : Frame) (x : Place) (below : List Phase) (k : Kind)
    → Leads o (Phase.Taken touch g x) below k (stand (after_taken touch g x k))
taken_leads o touch g x below (Kind.Copied f h n) =
    goes_on o (Phase.Taken touch g x) below (Kind.Copied f h n) touch refl
taken_leads o touch g x below k = goes_on o (Phase.Taken touch g x) below k touch refl

give_up_leads : (o : Op) (touch : Option Touch) (below : List Phase) (k : Kind)
    → Leads o (Phase.GiveUp touch) below k (stand (after_give_up o touch k))
give_up_leads o touch below (Kind.Failed x at n c) = by_stand o (Phase.GiveUp touch) below (Kind.Failed x at n c)
    Stand.Rests (piece_ends o (piece_of_given_up touch)) (ends o (piece_of_given_up touch)) tt
give_up_leads o touch below k = tt

frames_leads : (o : Op) (v n : ℕ) (below : List Phase) (k : Kind) (seen : Seen)
    → Leads o (Phase.Frames v n) below k (stand (after_frames v n k seen))
frames_leads o v n below (Kind.Start p r q) seen = tt
frames_leads o v n below (Kind.Kept (KeptAt.Frame f) why) seen = tt
frames_leads o v n below (Kind.Drop f) seen = tt
frames_leads o v n below (Kind.Withdrawn d) seen = tt
frames_leads o v n below k seen = tt

-- so each entry leads on, at a phase that does not pass on and is none of a migration's cursor
pub leads : (o : Op) (top : Phase) (below : List Phase) (k : Kind) (seen : Seen) → is_passing top ≡ false
    → is_moves top ≡ false → Leads o top below k (stand (stack_after o (top ∷ below) k seen))
leads o Phase.Begin below k seen h g = begin_leads o below k
leads o Phase.Locked below k seen h g = locked_leads o below k seen
leads o Phase.Ready below k seen h g = ready_leads o below k seen
leads o Phase.Answer below k seen h g = answer_leads o below k
leads o (Phase.Detaching q) below k seen h g = tt
leads o (Phase.Pages v) below k seen h g = pages_leads o v below k
leads o (Phase.Piece n) below k seen h g =
    piece_leads o (Phase.Piece n) below n (first_touch o n) k seen (first_leads o n below k o)
leads o (Phase.Fetched old) below k seen h g = fetched_leads o old below k seen
leads o (Phase.Begun n since q) below k seen h g =
    piece_leads o (Phase.Begun n since q) below n (Touch.Walk n since q) k seen (inl refl)
leads o (Phase.Decide touch) below k seen h g = decide_leads o touch below k seen
leads o (Phase.Noted n since q x) below k seen h g = tt
leads o (Phase.Taken touch f x) below k seen h g = taken_leads o touch f x below k
leads o (Phase.Armed touch f x) below k seen h g = by_stand o (Phase.Armed touch f x) below k (of_touch touch)
    (with_guard k seen (Body.Replace x f) (Phase.Decide touch ∷ []))
    (guarded k seen (Body.Replace x f) (Phase.Decide touch ∷ [])) (goes_on o (Phase.Armed touch f x) below k touch refl)
leads o (Phase.GiveUp touch) below k seen h g = give_up_leads o touch below k
leads o (Phase.Frames v n) below k seen h g = frames_leads o v n below k seen
leads o (Phase.Moves step v) below k seen h g = absurd (true≢false g)
leads o top below k seen h g = absurd (true≢false h)

-- ---- where a place is noted

-- a walk has found its place
abbrev pub notes_now : Phase → Kind → Bool
notes_now (Phase.Decide (Touch.Walk n since q)) (Kind.Runlock p) = true
notes_now top k = false

migrates_on : (step : MoveStep) (x : Option Migrating) (k : Kind) (seen : Seen)
    → has_noted (stand (after_migration step x k seen)) ≡ false
migrates_on step None k seen = refl
migrates_on step (Some x) k seen = ap has_noted (turns step x k seen)

-- no other entry leads there
pub notes_none : (o : Op) (top : Phase) (below : List Phase) (k : Kind) (seen : Seen) → is_passing top ≡ false
    → notes_now top k ≡ false → has_noted (stand (stack_after o (top ∷ below) k seen)) ≡ false
notes_none o (Phase.Moves step v) below k seen h e = migrates_on step seen.page k seen
notes_none o top below k seen h e = pick (stand (stack_after o (top ∷ below) k seen)) (leads o top below k seen h refl)
  where
    pick : (x : Stand) → Leads o top below k x → has_noted x ≡ false
    pick (Stand.Notes q n x) (since, p, (i, j)) = absurd (true≢false
        (sym (ap (λ y. notes_now y k) i ∙ ap (notes_now (Phase.Decide (Touch.Walk n since q))) j) ∙ e))
    pick x l = refl
