-- Where an actor is, and what is seen of its migrations: which it has, and which of their pages stayed.
use Rattle.std.proofs.Common.{refl}
use Rattle.std.proofs.lemmas.Bool.{true≢false, false≢true}
use Rattle.std.specs.Prelude.{◌≡◌, ℕ, ◌+◌, Bool, true, false, not, nat_lt, if◌then◌else◌, Option, Some, None, is_some}
use Rattle.std.specs.Prelude.{⊤, List, [], ◌∷◌, ◌++◌, length}
use Rattle.std.specs.List.{list_any}
use Rattle.hm_base.specs.Pages.{Pages}
use Rattle.hm_base.specs.declared.Frame.{Frame}
use Rattle.hm_base.specs.declared.Place.{Place}
use Rattle.hm_base.specs.declared.ops.Op.{Op}
use Rattle.hm_history.specs.Kernel.Operation.{op_pieces, is_to_device, is_evicting}
use Rattle.hm_history.specs.Kernel.Stacks.{piece_ends, with_guard, read_locked, after_begin, after_locked}
use Rattle.hm_history.specs.Kernel.Stacks.{after_answer, after_pages, after_piece, after_walk}
use Rattle.hm_history.specs.Kernel.Stacks.{with_frame_taken, after_decide, after_taken, frames_past, below_next}
use Rattle.hm_history.specs.Kernel.Stacks.{dropping, after_body, guard_goes_on, told_mirror, is_end, after_guard}
use Rattle.hm_history.specs.Kernel.Stacks.{after_give_up, after_frames, after_top, is_added, first_touch}
use Rattle.hm_history.specs.declared.KeptAt.{KeptAt}
use Rattle.hm_history.specs.declared.Kind.{Kind}
use Rattle.hm_history.specs.declared.phases.Body.{Body}
use Rattle.hm_history.specs.declared.phases.Migrating.{Migrating}
use Rattle.hm_history.specs.declared.phases.MoveStep.{MoveStep}
use Rattle.hm_history.specs.declared.phases.Seen.{Seen}
use Rattle.hm_history.specs.declared.phases.Touch.{Touch}
use Rattle.hm_history.specs.declared.phases.Phase.{Phase}
use Rattle.hm_laws.specs.Records.{Among}
use Rattle.hm_protocol.specs.declared.events.TraceFrame.{TraceFrame}
use Rattle.hm_protocol.specs.Words.{is_same, is_empty}
use Rattle.hm_protocol.specs.Projection.{in_trace, is_home, owner_of}
use Rattle.hm_protocol.proofs.MigrationViews.{View}

-- ---- a page that stayed

-- a migration that has come to a page in a step has committed what it commits of another page, or has not
abbrev pub gone_by : MoveStep → ℕ → ℕ → Bool
gone_by MoveStep.FreezeOthers v u = false
gone_by MoveStep.TakeAndCopy v u = false
gone_by MoveStep.Commit v u = nat_lt u v
gone_by MoveStep.SetOwnTable v u = true
gone_by MoveStep.Finish v u = true

-- no record of this page was moved
abbrev pub Unmoved : List Migrating → ℕ → Type 0
Unmoved xs u = (x : Migrating) → Among xs x → x.moved ≡ true → x.page ≡ u → ⊥

-- a page that stayed is past its commit and did not move, and of a migration to a device its frame is among these
pub record Stay (o : Op) (xs : List Migrating) (step : MoveStep) (v : ℕ) (frames : List TraceFrame)
    (u : ℕ × TraceFrame) : Type 0 where
  pub past : gone_by step v u.0 ≡ true
  pub unmoved : Unmoved xs u.0
  pub freed : is_to_device o ≡ true → list_any (is_same u.1) frames ≡ true

-- so it is of each
abbrev pub AllOf : {X : Type 0} → (X → Type 0) → List X → Type 0
AllOf P [] = ⊤
AllOf P (x ∷ xs) = P x × AllOf P xs

pub all_more : {X : Type 0} (P Q : X → Type 0) → ((x : X) → P x → Q x) → (xs : List X) → AllOf P xs → AllOf Q xs
all_more P Q h [] g = tt
all_more P Q h (x ∷ xs) g = (h x g.0, all_more P Q h xs g.1)

-- what is seen of a migration that has come to a page in a step; some frames will be freed next
abbrev pub Good : Op → List Migrating → MoveStep → ℕ → List TraceFrame → View → Type 0
Good o xs step v pending y =
    (y.to_device ≡ is_to_device o) × AllOf (Stay o xs step v (pending ++ y.freed)) y.stayed

-- there is one migration
abbrev pub One : (View → Type 0) → List View → Type 0
One P [] = ⊥
One P (y ∷ []) = P y
One P (y ∷ z ∷ ys) = ⊥

-- the frame is a device's, if the migration goes there
abbrev pub Given : Op → Frame → Type 0
Given o g = is_to_device o ≡ true → is_some (owner_of g) ≡ true

-- an actor is in a step of a migration
abbrev pub Stays : Op → List Migrating → MoveStep → ℕ → List View → Type 0
Stays o xs MoveStep.FreezeOthers v vs = vs ≡ []
Stays o xs step v vs = One (Good o xs step v []) vs

-- its pages were collected
abbrev pub is_later : MoveStep → Bool
is_later MoveStep.FreezeOthers = false
is_later step = true

-- or at a phase above it
abbrev pub Over : Op → List Migrating → MoveStep → Phase → ℕ → List View → Type 0
Over o xs step (Phase.Guard q r met told (Body.Fresh g)) v vs = One (Good o xs MoveStep.Commit r.first []) vs
Over o xs step (Phase.Lost u g) v vs =
    Stays o xs step v vs × ((gone_by step v u ≡ true) × (Unmoved xs u × Given o g))
Over o xs step (Phase.Drop g) v vs =
    (is_later step ≡ true) × (One (Good o xs step v (in_trace g ∷ [])) vs × Given o g)
Over o xs step top v vs = Stays o xs step v vs

-- ---- a stack of phases

-- a phase at which an actor has no migration
abbrev pub is_plain : Phase → Bool
is_plain (Phase.Moves step v) = false
is_plain (Phase.Copy f g k) = false
is_plain (Phase.Copied f g) = false
is_plain (Phase.Finish f to) = false
is_plain (Phase.Settle g) = false
is_plain top = true

abbrev pub AllPlain : List Phase → Type 0
AllPlain stack = AllOf (λ x. is_plain x ≡ true) stack

-- a page that is brought home has one migration, and that is not to a device
abbrev pub homes : Bool → List View → Bool
homes true [] = false
homes true (y ∷ []) = not y.to_device
homes true (y ∷ z ∷ ys) = false
homes false vs = is_empty vs

abbrev pub Homes : Op → List View → Type 0
Homes o vs = homes (is_home o) vs ≡ true

-- what stands below a copy
abbrev pub CopiedOn : List Phase → Type 0
CopiedOn [] = ⊥
CopiedOn (Phase.Copied f g ∷ below) = AllPlain below
CopiedOn (x ∷ below) = ⊥

-- a migration that stands at the top of these phases
abbrev pub moves_in : List Phase → Option (MoveStep × ℕ)
moves_in [] = None
moves_in (Phase.Moves step v ∷ below) = Some (step, v)
moves_in (x ∷ below) = None

-- an actor is at a phase that stands on no migration
abbrev pub Single : Op → List Migrating → Phase → List Phase → List View → Type 0
Single o xs (Phase.Moves step v) below vs = Stays o xs step v vs
Single o xs (Phase.Copy f g k) below vs = Homes o vs × CopiedOn below
Single o xs (Phase.Copied f g) below vs = Homes o vs × AllPlain below
Single o xs (Phase.Finish f to) below vs = Homes o vs × AllPlain below
Single o xs (Phase.Settle g) below vs = Homes o vs × AllPlain below
Single o xs top below vs = (vs ≡ []) × AllPlain (top ∷ below)

-- what is seen of its migrations at a stack of phases
abbrev pub Sits : Op → List Migrating → List Phase → List View → Type 0
Sits o xs [] vs = vs ≡ []
Sits o xs (top ∷ below) vs = elim (moves_in below) [
  | Some at ↦ Over o xs at.0 top at.1 vs
  | None ↦ Single o xs top below vs
]

pub single_sits : (o : Op) (xs : List Migrating) (top : Phase) (below : List Phase) (vs : List View) → AllPlain below
    → Single o xs top below vs → Sits o xs (top ∷ below) vs
single_sits o xs top [] vs p h = h
single_sits o xs top (Phase.Moves step v ∷ below) vs p h = absurd (false≢true p.0)
single_sits o xs top (x ∷ below) vs p h = h

plain_single : (o : Op) (xs : List Migrating) (top : Phase) (below : List Phase) → AllPlain (top ∷ below)
    → Single o xs top below []
plain_single o xs (Phase.Moves step v) below h = absurd (false≢true h.0)
plain_single o xs (Phase.Copy f g k) below h = absurd (false≢true h.0)
plain_single o xs (Phase.Copied f g) below h = absurd (false≢true h.0)
plain_single o xs (Phase.Finish f to) below h = absurd (false≢true h.0)
plain_single o xs (Phase.Settle g) below h = absurd (false≢true h.0)
plain_single o xs top below h = (refl, h)

-- plain phases are so without a migration
pub plain_sits : (o : Op) (xs : List Migrating) (stack : List Phase) → AllPlain stack → Sits o xs stack []
plain_sits o xs [] h = refl
plain_sits o xs (top ∷ below) h = single_sits o xs top below [] h.1 (plain_single o xs top below h)

-- ---- from a plain phase an actor comes to plain phases

plain_if : (b : Bool) (xs ys : List Phase) → AllPlain xs → AllPlain ys → AllPlain (if b then xs else ys)
plain_if true xs ys h g = h
plain_if false xs ys h g = g

pub plain_guard : (k : Kind) (seen : Seen) (body : Body) (below : List Phase) → AllPlain below
    → AllPlain (with_guard k seen body below)
plain_guard (Kind.Start p r q) seen body below h = (refl, h)
plain_guard k seen body below h = h

plain_begin : (o : Op) (k : Kind) → AllPlain (after_begin o k)
plain_begin o (Kind.Wlock p) = (refl, tt)
plain_begin o (Kind.Rlock p) = (by_op o, tt)
  where
    by_op : (o : Op) → is_plain (read_locked o) ≡ true
    by_op (Op.Snap m r) = refl
    by_op (Op.Exclusive m v) = refl
    by_op o = refl
plain_begin o (Kind.Detaching m q) = (refl, tt)
plain_begin o k = tt

plain_locked : (o : Op) (k : Kind) (seen : Seen) → AllPlain (after_locked o k seen)
plain_locked o (Kind.Named p child) seen = (refl, tt)
plain_locked o (Kind.Start p r q) seen = (refl, (refl, tt))
plain_locked o k seen = tt

plain_answer : (k : Kind) → AllPlain (after_answer k)
plain_answer (Kind.Runlock p) = (refl, tt)
plain_answer k = tt

plain_pages : (k : Kind) → AllPlain (after_pages k)
plain_pages (Kind.Seen m v c) = (refl, tt)
plain_pages k = tt

plain_ends : (o : Op) (k : ℕ) → AllPlain (piece_ends o k)
plain_ends o k = plain_if (nat_lt (k + 1) (length (op_pieces o))) (Phase.Piece (k + 1) ∷ []) [] (refl, tt) tt

plain_piece : (o : Op) (n : ℕ) (touch : Touch) (k : Kind) (seen : Seen) → AllPlain (after_piece o n touch k seen)
plain_piece o n touch (Kind.Loaded x at bs) seen = plain_ends o n
plain_piece o n touch (Kind.Stored x at bs) seen = plain_ends o n
plain_piece o n touch (Kind.Failed x at i c) seen = plain_ends o n
plain_piece o n touch (Kind.Begin m q) seen = (refl, tt)
plain_piece o n touch (Kind.Fetched m at bs) seen = (refl, tt)
plain_piece o n touch (Kind.Rlock p) seen = (refl, tt)
plain_piece o n touch k seen = (refl, tt)

plain_walk : (touch : Touch) (x : Place) → is_plain (after_walk touch x) ≡ true
plain_walk (Touch.Walk k since q) x = refl
plain_walk touch x = refl

plain_frame : (touch : Touch) (g : Frame) (x : Place) → is_plain (with_frame_taken touch g x) ≡ true
plain_frame touch g Place.Zero = refl
plain_frame touch g x = refl

plain_decide : (o : Op) (touch : Touch) (k : Kind) (seen : Seen) → AllPlain (after_decide o touch k seen)
plain_decide o touch (Kind.Failed x at n c) seen = plain_ends o _
plain_decide o touch (Kind.Retry m) seen = (refl, tt)
plain_decide o touch (Kind.Runlock p) seen = (plain_walk touch seen.place, tt)
plain_decide o touch (Kind.Set m v f w from) seen = (refl, tt)
plain_decide o touch (Kind.Place p v x) seen = (refl, tt)
plain_decide o touch (Kind.Take g) seen = (plain_frame touch g seen.place, tt)
plain_decide o touch (Kind.Start p r q) seen = (refl, (refl, tt))
plain_decide o touch k seen = tt

plain_taken : (touch : Touch) (g : Frame) (x : Place) (k : Kind) → AllPlain (after_taken touch g x k)
plain_taken touch g x (Kind.Copied f h n) = (refl, tt)
plain_taken touch g x k = (refl, tt)

plain_drop : (x : Option Frame) (below : List Phase) → AllPlain below → AllPlain (dropping x below)
plain_drop None below h = h
plain_drop (Some f) below h = (refl, h)

plain_past : (f : Frame) (below : List Phase) → AllPlain below → AllPlain (frames_past f below)
plain_past f [] h = h
plain_past f (Phase.Frames v n ∷ below) h = (refl, h.1)
plain_past f (x ∷ below) h = h

plain_below : (o : Op) (body : Body) (r : Pages) (below : List Phase) → AllPlain below
    → AllPlain (below_next o body r below)
plain_below o (Body.Catch f) r below h = plain_if (is_evicting o)
    (Phase.Emptying f (KeptAt.Frame f) ∷ frames_past f below) (Phase.Emptying f (KeptAt.Page r.first) ∷ below)
    (refl, plain_past f below h) (refl, h)
plain_below o body r below h = h

plain_body : (body : Body) (r : Pages) (below : List Phase) → AllPlain below → AllPlain (after_body body r below)
plain_body (Body.Replace over g) r below h = (refl, h)
plain_body (Body.Fresh g) r below h = (refl, h)
plain_body body r below h = h

plain_guarded : (o : Op) (p : ℕ) (r : Pages) (met : Bool) (told : Option ℕ) (body : Body) (below : List Phase)
    (k : Kind)
    (seen : Seen) → AllPlain below → AllPlain (after_guard o p r met told body below k seen)
plain_guarded o p r met told body below k seen h = by_told (told_mirror k)
  where
    by_told : (x : Option ℕ) → AllPlain (elim x [
      | Some m ↦ Phase.Guard p r met (Some m) body ∷ below
      | None ↦ if is_end k then after_body body r below else guard_goes_on o p r met told body below k seen
    ])
    by_told (Some m) = (refl, h)
    by_told None = plain_if (is_end k) (after_body body r below) (guard_goes_on o p r met told body below k seen)
        (plain_body body r below h) (plain_drop seen.orphan _ (refl, plain_below o body r below h))

plain_given_up : (o : Op) (touch : Option Touch) (k : Kind) → AllPlain (after_give_up o touch k)
plain_given_up o touch (Kind.Failed x at n c) = plain_ends o _
plain_given_up o touch k = tt

plain_frames : (v n : ℕ) (k : Kind) (seen : Seen) → AllPlain (after_frames v n k seen)
plain_frames v n (Kind.Start p r q) seen = (refl, (refl, tt))
plain_frames v n (Kind.Kept (KeptAt.Frame f) why) seen = (refl, tt)
plain_frames v n (Kind.Drop f) seen = (refl, tt)
plain_frames v n (Kind.Withdrawn d) seen = (refl, tt)
plain_frames v n k seen = tt

-- a migration begins here, or a frame is emptied
abbrev pub is_special : Phase → Bool
is_special Phase.Ready = true
is_special (Phase.Emptying f at) = true
is_special top = false

pub plain_after : (o : Op) (top : Phase) (below : List Phase) (k : Kind) (seen : Seen) → AllPlain (top ∷ below)
    → is_special top ≡ false → AllPlain (after_top o top below k seen)
plain_after o Phase.Begin below k seen h e = plain_begin o k
plain_after o Phase.Locked below k seen h e = plain_locked o k seen
plain_after o Phase.Ready below k seen h e = absurd (true≢false e)
plain_after o Phase.Answer below k seen h e = plain_answer k
plain_after o (Phase.Detaching q) below k seen h e = tt
plain_after o (Phase.Pages v) below k seen h e = plain_pages k
plain_after o (Phase.Piece n) below k seen h e = plain_piece o n (first_touch o n) k seen
plain_after o (Phase.Fetched old) below k seen h e =
    plain_if (is_added k) [] (after_piece o 0 Touch.Sole k seen) tt (plain_piece o 0 Touch.Sole k seen)
plain_after o (Phase.Begun n since q) below k seen h e = plain_piece o n (Touch.Walk n since q) k seen
plain_after o (Phase.Decide touch) below k seen h e = plain_decide o touch k seen
plain_after o (Phase.Noted n since q x) below k seen h e = (refl, tt)
plain_after o (Phase.Taken touch g x) below k seen h e = plain_taken touch g x k
plain_after o (Phase.Armed touch g x) below k seen h e =
    plain_guard k seen (Body.Replace x g) (Phase.Decide touch ∷ []) (refl, tt)
plain_after o (Phase.Guard p r met told body) below k seen h e = plain_guarded o p r met told body below k seen h.1
plain_after o (Phase.Drop f) below k seen h e = h.1
plain_after o (Phase.Emptying f what) below k seen h e = absurd (true≢false e)
plain_after o (Phase.Copy f g n) below k seen h e = absurd (false≢true h.0)
plain_after o (Phase.Copied f g) below k seen h e = absurd (false≢true h.0)
plain_after o (Phase.Finish f to) below k seen h e = absurd (false≢true h.0)
plain_after o (Phase.Settle g) below k seen h e = absurd (false≢true h.0)
plain_after o (Phase.GiveUp touch) below k seen h e = plain_given_up o touch k
plain_after o (Phase.Frames v n) below k seen h e = plain_frames v n k seen
plain_after o (Phase.Moves step v) below k seen h e = absurd (false≢true h.0)
plain_after o (Phase.Lost v g) below k seen h e = (refl, h.1)
