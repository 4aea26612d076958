-- The states after a history, with each actor's place in its operations.
use Rattle.std.specs.Prelude.{◌≡◌, ℕ, ◌+◌, Bool, true, false, not, ◌&&◌, ◌||◌, nat_le, ◌==◌, if◌then◌else◌, Option}
use Rattle.std.specs.Prelude.{Some, None, is_some, List, [], ◌∷◌, ◌++◌, fold, slice_get, find, map}
use Rattle.std.proofs.lemmas.List.Sums.{fold-append}
use Rattle.hm_base.specs.Program.{Program}
use Rattle.hm_base.specs.declared.Frame.{Frame}
use Rattle.hm_base.specs.declared.Place.{Place}
use Rattle.hm_base.specs.declared.ops.Op.{Op}
use Rattle.hm_history.specs.Memory.Words.{with_at, page_of, moving_frame}
use Rattle.hm_history.specs.Memory.Plain.{is_attached, mirror_proc, proc_of}
use Rattle.hm_history.specs.Memory.Places.{lowest_direct}
use Rattle.hm_history.specs.Memory.Sequences.{some_overlap, interval_seq}
use Rattle.hm_history.specs.Memory.Locks.{orphan}
use Rattle.hm_history.specs.Memory.After.{After, after_nothing, after_entry}
use Rattle.hm_history.specs.declared.Kind.{Kind}
use Rattle.hm_history.specs.declared.Entry.{Entry}
use Rattle.hm_history.specs.Kernel.Operation.{op_piece, op_who, op_mirror, is_to_device}
use Rattle.hm_history.specs.Kernel.Stacks.{first_phase, piece_of, stack_after}
use Rattle.hm_history.specs.declared.phases.Migrating.{Migrating}
use Rattle.hm_history.specs.declared.phases.MoveStep.{MoveStep}
use Rattle.hm_history.specs.declared.phases.Seen.{Seen}
use Rattle.hm_history.specs.declared.phases.Touch.{Touch}
use Rattle.hm_history.specs.declared.phases.Body.{Body}
use Rattle.hm_history.specs.declared.phases.Phase.{Phase}

-- how far an actor is: its operation's number, the stack of phases, and the pages of a migration
pub record Going : Type 0 where
  pub index : ℕ
  pub stack : List Phase
  pub pages : List Migrating

-- the state of the memory, and how far each actor is
pub record State : Type 0 where
  pub after : After
  pub going : ℕ → Going

-- the operations of an actor; one that the script does not have has none
abbrev pub ops_of : Program → ℕ → List Op
ops_of c a = elim (slice_get c.actors a) [ None ↦ [] | Some os ↦ os ]

-- an actor's operation of a number
abbrev pub op_at : Program → ℕ → ℕ → Option Op
op_at c a i = slice_get (ops_of c a) i

-- the stack with which an operation begins
abbrev pub first_stack : Option Op → List Phase
first_stack None = []
first_stack (Some o) = first_phase o ∷ []

-- an actor at the beginning of an operation
abbrev pub going_from : Program → ℕ → ℕ → Going
going_from c a i = record { index = i; stack = first_stack (op_at c a i); pages = [] }

-- before the first entry each actor is at its first operation
abbrev pub state_start : Program → State
state_start c = record { after = after_nothing; going = λ a. going_from c a 0 }

-- the page of a fault
abbrev pub touch_page : Op → Touch → ℕ
touch_page (Op.Exclusive m v) touch = v
touch_page o touch = page_of (op_piece o (piece_of touch)).0

-- the process whose fault it is
abbrev pub touch_proc : After → Op → ℕ
touch_proc s o = proc_of s.plain (op_who o)

-- whether a step of a migration has an entry for a page of the migration now
abbrev pub is_direct : After → Option Frame → Bool
is_direct s None = false
is_direct s (Some f) = is_some (lowest_direct s.places f)

-- whether the driver may set its own table: its interval is not being invalidated
abbrev pub sets_now : After → ℕ → Bool
sets_now s m = is_attached s.plain m && not (interval_seq s.sequences m == s.sequences.seq (mirror_proc s.plain m))

-- whether a step has something to do for a page now
abbrev pub concerns : After → Op → MoveStep → Migrating → Bool
concerns s o MoveStep.FreezeOthers x = is_direct s x.source
concerns s o MoveStep.TakeAndCopy x = true
concerns s o MoveStep.Commit x = is_some x.dest
concerns s o MoveStep.SetOwnTable x = is_to_device o && (x.moved && sets_now s (op_mirror o))
concerns s o MoveStep.Finish x = is_some x.source || x.moved

-- the steps from one on, in their order
abbrev pub steps_from : MoveStep → List MoveStep
steps_from MoveStep.FreezeOthers =
    MoveStep.FreezeOthers ∷ MoveStep.TakeAndCopy ∷ MoveStep.Commit ∷ MoveStep.SetOwnTable ∷ MoveStep.Finish ∷ []
steps_from MoveStep.TakeAndCopy = MoveStep.TakeAndCopy ∷ MoveStep.Commit ∷ MoveStep.SetOwnTable ∷ MoveStep.Finish ∷ []
steps_from MoveStep.Commit = MoveStep.Commit ∷ MoveStep.SetOwnTable ∷ MoveStep.Finish ∷ []
steps_from MoveStep.SetOwnTable = MoveStep.SetOwnTable ∷ MoveStep.Finish ∷ []
steps_from MoveStep.Finish = MoveStep.Finish ∷ []

-- the first of these steps, the first one from a page on, that has something to do, and its page's record
abbrev pub come_to : After → Op → List Migrating → List MoveStep → ℕ → Option (MoveStep × Migrating)
come_to s o xs [] next = None
come_to s o xs (step ∷ steps) next = elim (find (λ x. nat_le next x.page && concerns s o step x) xs) [
  | Some x ↦ Some (step, x)
  | None ↦ come_to s o xs steps 0
]

-- the step and the page to which a migration has come; none at its end
abbrev pub coming : After → Op → List Migrating → Phase → Option (MoveStep × Migrating)
coming s o xs (Phase.Moves step next) = come_to s o xs (steps_from step) next
coming s o xs _ = None

-- that page's record
abbrev pub coming_page : Option (MoveStep × Migrating) → Option Migrating
coming_page None = None
coming_page (Some at) = Some at.1

-- the place of the page that the step is about
abbrev pub seen_place : After → Op → Phase → Kind → Place
seen_place s o top (Kind.Start p r q) = s.places.place p r.first
seen_place s o top (Kind.Place p v x) = s.places.place p v
seen_place s o (Phase.Decide touch) k = s.places.place (touch_proc s o) (touch_page o touch)
seen_place s o top k = Place.Empty

-- whether the invalidation that starts meets an interval
abbrev pub seen_overlap : After → Kind → Bool
seen_overlap s (Kind.Start p r q) = some_overlap s.sequences p r
seen_overlap s _ = false

-- what is seen at an entry, before it
abbrev pub seen_at : After → Op → List Migrating → Phase → Kind → Seen
seen_at s o xs top k = record {
  at = s.length;
  overlapped = seen_overlap s k;
  place = seen_place s o top k;
  orphan = orphan s.locks s.places k;
  page = coming_page (coming s o xs top);
}

-- the pages of a migration after an entry
abbrev pub with_record : Migrating → List Migrating → List Migrating
with_record x xs = map (λ y. if y.page == x.page then x else y) xs

-- a destination was taken for the page, or its copy was committed
abbrev pub recorded_at : Option Migrating → List Migrating → Kind → List Migrating
recorded_at (Some x) xs (Kind.Take g) = with_record (record x { dest = Some g }) xs
recorded_at (Some x) xs (Kind.Committed f g) = with_record (record x { moved = true }) xs
recorded_at _ xs _ = xs

-- a page was selected, or a fresh page got its frame
abbrev pub recorded_body : Body → List Migrating → Kind → List Migrating
recorded_body (Body.Select n) xs (Kind.Fresh p v) =
    xs ++ (record { page = v; source = None; dest = None; moved = false } ∷ [])
recorded_body (Body.Select n) xs (Kind.Place p v x) =
    xs ++ (record { page = v; source = moving_frame x; dest = None; moved = false } ∷ [])
recorded_body (Body.Fresh g) xs (Kind.Place p v x) =
    with_record (record { page = v; source = None; dest = Some g; moved = true }) xs
recorded_body _ xs _ = xs

-- the records of a migration after an entry at this phase
abbrev pub recorded : Phase → Option Migrating → List Migrating → Kind → List Migrating
recorded (Phase.Guard p r met told body) page xs k = recorded_body body xs k
recorded (Phase.Moves step v) page xs k = recorded_at page xs k
recorded _ page xs k = xs

-- an actor after its entry: on in the operation, or at the next
abbrev pub going_on : Program → ℕ → ℕ → List Phase → List Migrating → Going
going_on c a i [] xs = going_from c a (i + 1)
going_on c a i (top ∷ below) xs = record { index = i; stack = top ∷ below; pages = xs }

-- an actor after its entry, by what was seen before it
abbrev pub going_seen : Program → ℕ → Going → Op → Phase → Kind → Seen → Going
going_seen c a g o top k seen = going_on c a g.index (stack_after o g.stack k seen) (recorded top seen.page g.pages k)

-- an actor after its entry at the top of its stack
abbrev pub going_top : Program → After → ℕ → Going → Op → List Phase → Kind → Going
going_top c s a g o [] k = g
going_top c s a g o (top ∷ below) k = going_seen c a g o top k (seen_at s o g.pages top k)

-- an actor after its entry; without an operation it stays
abbrev pub going_next : Program → After → ℕ → Going → Kind → Going
going_next c s a g k = elim (op_at c a g.index) [ None ↦ g | Some o ↦ going_top c s a g o g.stack k ]

-- the state after one entry more
abbrev pub state_next : Program → State → Entry → State
state_next c s e = record {
  after = after_entry s.after e;
  going = with_at s.going e.actor (going_next c s.after e.actor (s.going e.actor) e.kind);
}

-- the state after a history
abbrev pub state_of : Program → List Entry → State
state_of c h = fold (state_next c) (state_start c) h

-- the state after one entry more is that of the longer history
pub state_of-snoc : (c : Program) (h : List Entry) (e : Entry)
    → state_of c (h ++ e ∷ []) ≡ state_next c (state_of c h) e
state_of-snoc c h e = fold-append (state_next c) (state_start c) h (e ∷ [])
