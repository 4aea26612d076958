-- What an actor's stack says of its look-up and of its migration, and which entries leave that.
use Rattle.std.proofs.Common.{refl, ◌∙◌}
use Rattle.std.proofs.lemmas.Bool.{false≢true}
use Rattle.std.specs.Prelude.{◌≡◌, ℕ, ◌+◌, Bool, true, false, nat_lt, if◌then◌else◌, Option, Some, None}
use Rattle.std.specs.Prelude.{List, [], ◌∷◌}
use Rattle.hm_base.specs.Pages.{Pages}
use Rattle.hm_base.specs.declared.Frame.{Frame}
use Rattle.hm_base.specs.declared.Place.{Place}
use Rattle.hm_base.specs.declared.ops.Op.{Op}
use Rattle.hm_history.specs.Kernel.Operation.{is_evicting, is_remove}
use Rattle.hm_history.specs.Kernel.Stacks.{body_next, frames_past, below_next, dropping, after_body}
use Rattle.hm_history.specs.Kernel.Stacks.{guard_goes_on, told_mirror, is_end, after_guard, gives_up, after_emptying}
use Rattle.hm_history.specs.Kernel.Stacks.{with_one_more, after_copy, after_finish}
use Rattle.hm_history.specs.Kernel.Stacks.{kept_step, dropping_lost, copying, finishing, after_moves}
use Rattle.hm_history.specs.Kernel.Stacks.{stack_after}
use Rattle.hm_history.specs.declared.KeptAt.{KeptAt}
use Rattle.hm_history.specs.declared.KeptWhy.{KeptWhy}
use Rattle.hm_history.specs.declared.Kind.{Kind}
use Rattle.hm_history.specs.declared.phases.Migrating.{Migrating}
use Rattle.hm_history.specs.declared.phases.MoveStep.{MoveStep}
use Rattle.hm_history.specs.declared.phases.Seen.{Seen}
use Rattle.hm_history.specs.declared.phases.Touch.{Touch}
use Rattle.hm_history.specs.declared.phases.Body.{Body}
use Rattle.hm_history.specs.declared.phases.Phase.{Phase}

-- its look-up has read this sequence and walks, or has noted a place for a piece; or its migration is at this step
pub data Stand : Type 0 where
  Rests : Stand
  Walks : (seq : ℕ) → Stand
  Notes : (seq piece : ℕ) → (place : Place) → Stand
  Moves : (step : MoveStep) → Stand

-- the fault is that of a look-up
abbrev pub of_touch : Touch → Stand
of_touch (Touch.Walk k since q) = Stand.Walks q
of_touch touch = Stand.Rests

-- so it was, if one was given up
abbrev pub of_given_up : Option Touch → Stand
of_given_up None = Stand.Rests
of_given_up (Some touch) = of_touch touch

-- the phase passes on to what stands below it
abbrev pub is_passing : Phase → Bool
is_passing (Phase.Guard p r met told body) = true
is_passing (Phase.Drop f) = true
is_passing (Phase.Emptying f what) = true
is_passing (Phase.Copy f g n) = true
is_passing (Phase.Copied f g) = true
is_passing (Phase.Finish f to) = true
is_passing (Phase.Settle g) = true
is_passing (Phase.Lost v g) = true
is_passing top = false

-- the phase is that of a migration
abbrev pub is_moves : Phase → Bool
is_moves (Phase.Moves step v) = true
is_moves top = false

-- where an actor stands: the first phase says it that does not pass on
abbrev pub stand : List Phase → Stand
stand [] = Stand.Rests
stand (Phase.Begun k since q ∷ below) = Stand.Walks q
stand (Phase.Noted k since q x ∷ below) = Stand.Notes q k x
stand (Phase.Decide touch ∷ below) = of_touch touch
stand (Phase.Taken touch g x ∷ below) = of_touch touch
stand (Phase.Armed touch g x ∷ below) = of_touch touch
stand (Phase.GiveUp touch ∷ below) = of_given_up touch
stand (Phase.Moves step v ∷ below) = Stand.Moves step
stand (Phase.Guard p r met told body ∷ below) = stand below
stand (Phase.Drop f ∷ below) = stand below
stand (Phase.Emptying f what ∷ below) = stand below
stand (Phase.Copy f g n ∷ below) = stand below
stand (Phase.Copied f g ∷ below) = stand below
stand (Phase.Finish f to ∷ below) = stand below
stand (Phase.Settle g ∷ below) = stand below
stand (Phase.Lost v g ∷ below) = stand below
stand (top ∷ below) = Stand.Rests

-- the sequence of a look-up
abbrev pub seq_of : Stand → Option ℕ
seq_of (Stand.Walks q) = Some q
seq_of (Stand.Notes q n x) = Some q
seq_of x = None

-- that of an actor's
abbrev pub seq_at : List Phase → Option ℕ
seq_at st = seq_of (stand st)

-- a look-up that walks
abbrev pub is_walking : Stand → Bool
is_walking (Stand.Walks q) = true
is_walking x = false

-- an actor whose look-up walks
abbrev pub walks : List Phase → Bool
walks st = is_walking (stand st)

-- a look-up that has noted a place
abbrev pub has_noted : Stand → Bool
has_noted (Stand.Notes q n x) = true
has_noted x = false

-- ---- an entry at a phase that passes on

past : (f : Frame) (below : List Phase) → stand (frames_past f below) ≡ stand below
past f (Phase.Frames v n ∷ below) = refl
past f below = refl

counts : (below : List Phase) → stand (with_one_more below) ≡ stand below
counts (Phase.Frames v n ∷ below) = refl
counts below = refl

drops : (x : Option Frame) (st : List Phase) → stand (dropping x st) ≡ stand st
drops None st = refl
drops (Some f) st = refl

belows : (o : Op) (body : Body) (r : Pages) (below : List Phase) → stand (below_next o body r below) ≡ stand below
belows o (Body.Catch f) r below = by (is_evicting o)
  where
    by : (b : Bool) → stand (if b then Phase.Emptying f (KeptAt.Frame f) ∷ frames_past f below
        else (Phase.Emptying f (KeptAt.Page r.first) ∷ below)) ≡ stand below
    by true = past f below
    by false = refl
belows o body r below = refl

ended : (body : Body) (r : Pages) (below : List Phase) → stand (after_body body r below) ≡ stand below
ended (Body.Replace over g) r below = refl
ended (Body.Fresh g) r below = refl
ended body r below = refl

guard : (o : Op) (p : ℕ) (r : Pages) (met : Bool) (told : Option ℕ) (body : Body) (below : List Phase) (k : Kind)
    (seen : Seen) → stand (after_guard o p r met told body below k seen) ≡ stand below
guard o p r met told body below k seen = by (told_mirror k)
  where
    goes : (b : Bool) → stand (if b then after_body body r below
        else guard_goes_on o p r met told body below k seen) ≡ stand below
    goes true = ended body r below
    goes false = drops seen.orphan (Phase.Guard p r met told (body_next body p k) ∷ below_next o body r below)
        ∙ belows o body r below

    by : (x : Option ℕ) → stand (elim x [
      | Some m ↦ Phase.Guard p r met (Some m) body ∷ below
      | None ↦ if is_end k then after_body body r below else guard_goes_on o p r met told body below k seen
    ]) ≡ stand below
    by None = goes (is_end k)
    by (Some m) = refl

gives : (o : Op) (below : List Phase) → stand (gives_up o below) ≡ stand below
gives o [] = refl
gives o (Phase.Decide touch ∷ below) = refl
gives o (Phase.Frames v n ∷ below) = by (is_remove o)
  where
    by : (b : Bool) → stand (elim (if b then Some (Phase.GiveUp None) else None) [
      | Some y ↦ y ∷ []
      | None ↦ Phase.Frames v n ∷ below
    ]) ≡ Stand.Rests
    by true = refl
    by false = refl
gives o (x ∷ below) = refl

emptying : (o : Op) (f : Frame) (what : KeptAt) (below : List Phase) (k : Kind) (seen : Seen)
    → stand (after_emptying o f what below k seen) ≡ stand below
emptying o f what below (Kind.Start p r q) seen = refl
emptying o f what below (Kind.Take g) seen = refl
emptying o f what below k seen = gives o below

copies : (f g : Frame) (k : ℕ) (below : List Phase) → stand (after_copy f g k below) ≡ stand below
copies f g k below = by (nat_lt k 7)
  where
    by : (b : Bool) → stand (if b then Phase.Copy f g (k + 1) ∷ below else below) ≡ stand below
    by true = refl
    by false = refl

finishes : (f : Frame) (to : Option Frame) (below : List Phase) (k : Kind)
    → stand (after_finish f to below k) ≡ stand below
finishes f to below (Kind.Place p v x) = refl
finishes f (Some g) below (Kind.Drop h) = refl
finishes f to below k = refl

-- the actor stands where it stood
pub passes : (o : Op) (top : Phase) (below : List Phase) (k : Kind) (seen : Seen) → is_passing top ≡ true
    → stand (stack_after o (top ∷ below) k seen) ≡ stand below
passes o (Phase.Guard p r met told body) below k seen h = guard o p r met told body below k seen
passes o (Phase.Drop f) below k seen h = refl
passes o (Phase.Emptying f what) below k seen h = emptying o f what below k seen
passes o (Phase.Copy f g n) below k seen h = copies f g n below
passes o (Phase.Copied f g) below k seen h = counts below
passes o (Phase.Finish f to) below k seen h = finishes f to below k
passes o (Phase.Settle g) below k seen h = refl
passes o (Phase.Lost v g) below k seen h = refl
passes o top below k seen h = absurd (false≢true h)

-- which is what stands below
pub passing : (top : Phase) (below : List Phase) → is_passing top ≡ true → stand (top ∷ below) ≡ stand below
passing (Phase.Guard p r met told body) below h = refl
passing (Phase.Drop f) below h = refl
passing (Phase.Emptying f what) below h = refl
passing (Phase.Copy f g n) below h = refl
passing (Phase.Copied f g) below h = refl
passing (Phase.Finish f to) below h = refl
passing (Phase.Settle g) below h = refl
passing (Phase.Lost v g) below h = refl
passing top below h = absurd (false≢true h)

-- ---- an entry of a migration at its cursor

-- the step to which an entry leads
abbrev pub turned : MoveStep → Kind → MoveStep
turned MoveStep.FreezeOthers (Kind.Start p r q) = MoveStep.FreezeOthers
turned step (Kind.Start p r q) = MoveStep.Commit
turned step (Kind.Take g) = MoveStep.TakeAndCopy
turned step (Kind.Kept at why) = kept_step why
turned step (Kind.Committed f g) = MoveStep.Commit
turned step (Kind.Set m v f w from) = MoveStep.SetOwnTable
turned step k = MoveStep.Finish

last : (x : Option Frame) (y : Option Frame) (n : ℕ) (k : Kind) → stand (elim x [
  | None ↦ Phase.Moves MoveStep.Finish n ∷ []
  | Some f ↦ after_finish f y (Phase.Moves MoveStep.Finish n ∷ []) k
]) ≡ Stand.Moves MoveStep.Finish
last None y n k = refl
last (Some f) y n k = finishes f y (Phase.Moves MoveStep.Finish n ∷ []) k

finished : (x : Migrating) (k : Kind) → stand (finishing x k) ≡ Stand.Moves MoveStep.Finish
finished x k = last x.source (if x.moved then x.dest else None) (x.page + 1) k

copied : (x : Option Frame) (g : Frame) (below : List Phase) → stand (copying x g below) ≡ stand below
copied None g below = refl
copied (Some f) g below = refl

lost : (why : KeptWhy) (x : Option Frame) (below : List Phase) → stand (dropping_lost why x below) ≡ stand below
lost KeptWhy.Lost x below = drops x below
lost why x below = refl

pub turns : (step : MoveStep) (x : Migrating) (k : Kind) (seen : Seen)
    → stand (after_moves step x k seen) ≡ Stand.Moves (turned step k)
turns MoveStep.FreezeOthers x (Kind.Start p r q) seen = refl
turns step x (Kind.Start p r q) seen = refl
turns step x (Kind.Take g) seen = copied x.source g (Phase.Moves MoveStep.TakeAndCopy (x.page + 1) ∷ [])
turns step x (Kind.Kept at why) seen = lost why x.dest (Phase.Moves (kept_step why) (x.page + 1) ∷ [])
turns step x (Kind.Committed f g) seen = refl
turns step x (Kind.Set m v f w from) seen = refl
turns step x k seen = finished x k
