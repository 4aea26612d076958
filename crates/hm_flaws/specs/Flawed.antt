-- The states of a driver with a flaw, and what is due in them.
use Rattle.std.specs.Prelude.{ℕ, ◌+◌, ◌%◌, Bool, true, false, ◌==◌, if◌then◌else◌, Option, Some, None, List, [], ◌∷◌}
use Rattle.std.specs.Prelude.{fold, length, map, find}
use Rattle.hm_base.specs.Program.{Program}
use Rattle.hm_base.specs.declared.Frame.{Frame}
use Rattle.hm_base.specs.declared.ops.Op.{Op}
use Rattle.hm_history.specs.Memory.Words.{with_at, page_of, bytes_from}
use Rattle.hm_history.specs.Memory.Places.{Places}
use Rattle.hm_history.specs.Memory.Sequences.{Interval, with_seq}
use Rattle.hm_history.specs.declared.locks.MapLock.{MapLock}
use Rattle.hm_history.specs.Memory.Contents.{contents_of, shown_by}
use Rattle.hm_history.specs.Memory.After.{After, after_entry}
use Rattle.hm_history.specs.Kernel.Going.{State, Going, op_at, state_of, going_next}
use Rattle.hm_history.specs.Kernel.Due.{progress}
use Rattle.hm_history.specs.Kernel.Stacks.{freezing}
use Rattle.hm_history.specs.declared.KeptAt.{KeptAt}
use Rattle.hm_history.specs.declared.KeptWhy.{KeptWhy}
use Rattle.hm_history.specs.declared.Kind.{Kind}
use Rattle.hm_history.specs.declared.Who.{Who}
use Rattle.hm_history.specs.declared.Entry.{Entry}
use Rattle.hm_history.specs.declared.Progress.{Progress}
use Rattle.hm_history.specs.declared.phases.Body.{Body}
use Rattle.hm_history.specs.declared.phases.Migrating.{Migrating}
use Rattle.hm_history.specs.declared.phases.MoveStep.{MoveStep}
use Rattle.hm_history.specs.declared.phases.Touch.TheVariants.{Walk}
use Rattle.hm_history.specs.declared.phases.Phase.{Phase}
use Rattle.hm_history.specs.declared.phases.Next.{Next}
use Rattle.hm_history.specs.declared.phases.Next.TheVariants.{Do}
use Rattle.hm_flaws.specs.declared.flaws.Flaw.{Flaw}
use Rattle.hm_flaws.specs.Drivers.{Driver, driver_of, driver_next, tells_own, target_at}
use Rattle.hm_flaws.specs.Overrides.{due_flawed, is_device_access, frozen}

-- the state that the history gives, by which legality judges, with how far each actor is; and what the driver has of
-- its own
pub record Flawed : Type 0 where
  pub state : State
  pub driver : Driver

-- a state to which a right driver came
abbrev pub flawed_from : State → Flawed
flawed_from u = record { state = u; driver = driver_of u.after }

-- ---- the state as actors find it

-- the bytes that pages show, by the bytes of frames
abbrev pub shown_bytes : Places → (Frame → ℕ → ℕ) → ℕ → ℕ → ℕ
shown_bytes t contents p at = contents_of t contents (t.place p (page_of at)) (at % 4096)

-- the intervals with these sequences
abbrev pub with_seqs : (ℕ → ℕ) → (ℕ → Option Interval) → ℕ → Option Interval
with_seqs seq interval m = with_seq (seq m) (interval m)

-- the operation is a load or a store through a mirror
abbrev pub some_device_access : Option Op → Bool
some_device_access None = false
some_device_access (Some o) = is_device_access o

-- the mmap locks that are held: the walks of a driver that walks without the lock have none, whatever their entries say
abbrev pub locks_held : Flaw → Program → State → ℕ → Option MapLock
locks_held Flaw.WalksUnlocked c u a =
    if some_device_access (op_at c a (u.going a).index) then None else u.after.locks.map a
locks_held l c u a = u.after.locks.map a

-- a state with the bytes, the table and the sequences that the driver has, and with the mmap locks that are held
abbrev pub found_with : Flaw → Program → State → Driver → After
found_with l c u x = let s = u.after in record s {
  plain = record s.plain { bytes = shown_bytes s.places x.contents };
  places = record s.places { table = x.table };
  sequences = record s.sequences { interval = with_seqs x.seq s.sequences.interval };
  locks = record s.locks { map = locks_held l c u };
}

-- the state as actors find it; with a right driver it is the one that the history gives
abbrev pub found : Flaw → Program → Flawed → After
found Flaw.NoFlaw c t = t.state.after
found l c t = found_with l c t.state t.driver

-- ---- what is due

-- the bytes that a device reads: those of the frames of the driver's own table entries
abbrev pub device_bytes : Driver → ℕ → ℕ → ℕ → List ℕ
device_bytes x m at n = bytes_from (λ i. shown_by x.contents (target_at x m i) (i % 4096)) at n

-- an answer to a device with the bytes that it reads, in place of its process's plain bytes
abbrev pub read_through : Driver → Next → Next
read_through x (Do (Kind.Loaded (Who.Mirror m) at bs)) =
    Do (Kind.Loaded (Who.Mirror m) at (device_bytes x m at (length bs)))
read_through x (Do (Kind.Fetched m at bs)) = Do (Kind.Fetched m at (device_bytes x m at 1))
read_through x n = n

-- what is due with the bytes that are read; with a right driver they are the plain bytes
abbrev pub as_read : Flaw → Driver → Next → Next
as_read Flaw.NoFlaw x n = n
as_read l x n = read_through x n

-- what is due to an actor at this stack; without an operation it is idle
abbrev pub due_flawed_top : Flaw → Program → Driver → After → ℕ → Option Op → List Migrating → List Phase → Progress
due_flawed_top l c x s a (Some o) xs (top ∷ below) = progress a (as_read l x (due_flawed l c s a o xs top))
due_flawed_top l c x s a o xs stack = Progress.Idle

-- what is due to an actor if the driver has this flaw
abbrev pub due_by : Flaw → Program → Flawed → ℕ → Progress
due_by l c t a = let g = t.state.going a in
    due_flawed_top l c t.driver (found l c t) a (op_at c a g.index) g.pages g.stack

-- ---- the next state

-- what an actor goes on from: a page that its setup left as it was counts as frozen
abbrev pub taken_for : Flaw → List Phase → Kind → Kind
taken_for Flaw.FrozenLate (Phase.Guard p r met told (Body.Select u) ∷ below) (Kind.Place q v x) =
    Kind.Place q v (frozen x)
taken_for l stack k = k

-- the stack without a step that is left out: the last part of a copy, the drop of a lost page's frame, or the freezing
-- of a frame's mappings before it is copied
abbrev pub without_step : Flaw → List Phase → List Phase
without_step Flaw.PartCopied (Phase.Copy f g k ∷ below) = if k == 7 then below else (Phase.Copy f g k ∷ below)
without_step Flaw.LostHeld (Phase.Drop g ∷ Phase.Moves step v ∷ below) = Phase.Moves step v ∷ below
without_step Flaw.OthersLeft (Phase.Moves MoveStep.FreezeOthers v ∷ below) = Phase.Moves MoveStep.TakeAndCopy v ∷ below
without_step Flaw.FrozenLate (Phase.Moves MoveStep.FreezeOthers v ∷ below) = Phase.Moves MoveStep.TakeAndCopy v ∷ below
without_step l stack = stack

-- the page whose frame a migration is about to freeze, if it has begun a guard for that at its commit
abbrev pub page_to_freeze : List Migrating → Phase → Phase → Option Migrating
page_to_freeze xs (Phase.Guard p r met told Body.Nothing) (Phase.Moves step n) = find (λ x. x.page + 1 == n) xs
page_to_freeze xs top second = None

-- a guard with another body
abbrev pub with_body : Body → Phase → Phase
with_body body (Phase.Guard p r met told was) = Phase.Guard p r met told body
with_body body top = top

-- that guard freezes a mapping of the frame, and then the page comes again
abbrev pub freezing_late : List Migrating → List Phase → List Phase
freezing_late xs (top ∷ second ∷ below) = elim (page_to_freeze xs top second) [
  | None ↦ top ∷ second ∷ below
  | Some x ↦ with_body (freezing MoveStep.FreezeOthers x.source None) top ∷ Phase.Moves MoveStep.Commit x.page ∷ below
]
freezing_late xs stack = stack

-- a migration goes on after the page that it has set, wherever the right one has come to
abbrev pub set_on : ℕ → List Phase → List Phase
set_on v (Phase.Moves step n ∷ below) = Phase.Moves step (v + 1) ∷ below
set_on v stack = stack

-- the stack of a look-up that reads its sequence after the walk, given the one before the entry: the lock is that of a
-- walk, and the begin, which has this position, goes to the commit
abbrev pub led_on : Option Op → ℕ → List Phase → Kind → List Phase → List Phase
led_on o at (Phase.Piece k ∷ before) (Kind.Rlock p) stack =
    if some_device_access o then Phase.Decide (Walk k 0 0) ∷ [] else stack
led_on o at (Phase.Noted k since q x ∷ before) (Kind.Begin m n) stack = Phase.Noted k at n x ∷ []
led_on o at before k stack = stack

-- the stack after an entry, given the operation, the entry's position, the stack before it, and the pages after it
abbrev pub stack_by : Flaw → Option Op → ℕ → List Phase → Kind → List Migrating → List Phase → List Phase
stack_by Flaw.BegunLast o at before k xs stack = led_on o at before k stack
stack_by Flaw.OwnAnyway o at before (Kind.Set m v f w from) xs stack = set_on v stack
stack_by Flaw.FrozenLate o at before (Kind.Start p r q) xs stack = freezing_late xs stack
stack_by l o at before k xs stack = without_step l stack

-- the record counts as moved, if it is that of the page
abbrev pub as_moved : ℕ → Migrating → Migrating
as_moved v x = if x.page == v then record x { moved = true } else x

-- the records of a migration after an entry
abbrev pub recorded_by : Flaw → Kind → List Migrating → List Migrating
recorded_by Flaw.LostAsMoved (Kind.Kept (KeptAt.Page v) KeptWhy.Lost) xs = map (as_moved v) xs
recorded_by l k xs = xs

-- how far an actor is after its entry, given the operation, the entry's position, and the stack before it
abbrev pub going_by : Flaw → Option Op → ℕ → List Phase → Kind → Going → Going
going_by Flaw.NoFlaw o at before k g = g
going_by l o at before k g =
    record { index = g.index; stack = stack_by l o at before k g.pages g.stack; pages = recorded_by l k g.pages }

-- the state after one entry more
abbrev pub flawed_next : Flaw → Program → Flawed → Entry → Flawed
flawed_next l c t e = let g = t.state.going e.actor in let k = taken_for l g.stack e.kind in record {
  state = record {
    after = after_entry t.state.after e;
    going =
        with_at t.state.going e.actor
        (going_by l (op_at c e.actor g.index) t.state.after.length g.stack k
        (going_next c (found l c t) e.actor g k));
  };
  driver =
      driver_next l t.state.after (tells_own t.state.after (op_at c e.actor g.index) g.stack e.kind) t.driver e.actor
      e.kind;
}

-- the state after a set-up by a right driver, and then these entries
abbrev pub flawed_after : Flaw → Program → List Entry → List Entry → Flawed
flawed_after l c h es = fold (flawed_next l c) (flawed_from (state_of c h)) es
