-- How far each actor is: its operation's number, the stack of phases and the records of a migration, with the room that
-- was made for more records.
use Rattle.std.specs.Prelude.{◌≡◌, ℕ, zero, suc, ◌-◌, ◌<◌, ◌≤◌, Bool, true, false, if◌then◌else◌, Some, None, List, []}
use Rattle.std.specs.Prelude.{◌∷◌, ◌++◌, length, map, slice_set, slice_index_or, IsTrue}
use Rattle.hm_base.specs.Program.{Program}
use Rattle.hm_base.specs.declared.ops.Op.{Op}
use Rattle.hm_history.specs.Memory.After.{After}
use Rattle.hm_history.specs.Kernel.Stacks.{stack_after}
use Rattle.hm_history.specs.Kernel.Going.{Going, going_from, going_seen, op_at, seen_at}
use Rattle.hm_history.specs.declared.Kind.{Kind}
use Rattle.hm_history.specs.declared.phases.Migrating.{Migrating}
use Rattle.hm_history.specs.declared.phases.Seen.{Seen}
use Rattle.hm_history.specs.declared.phases.Body.{Body}
use Rattle.hm_history.specs.declared.phases.Phase.{Phase}
use Rattle.hm_phases.specs.Items.{below_takes_count}

-- the records, and the room for more
pub record RecordsValue : Type 0 where
  pub items : List Migrating
  pub spare : ℕ

-- how far an actor is, and for how many more records there is room
pub record TaskValue : Type 0 where
  pub going : Going
  pub spare : ℕ

-- what is read if there is no such actor
abbrev pub nobody : TaskValue
nobody = record { going = record { index = 0; stack = []; pages = [] }; spare = 0 }

-- how far an actor is, with its room; one that the script has not is nobody
abbrev pub task_of : List TaskValue → ℕ → TaskValue
task_of x a = slice_index_or x a nobody

-- how far an actor is
abbrev pub going_of : List TaskValue → ℕ → Going
going_of x a = (task_of x a).going

-- it is what the function gives for the first n actors
pub record ActorsShown (n : ℕ) (going : ℕ → Going) (x : List TaskValue) : Type 0 where
  pub len : length x ≡ n
  pub at : (a : ℕ) → a < n → going_of x a ≡ going a

-- the same without the room
abbrev pub goings : List TaskValue → List Going
goings x = map (λ d. d.going) x

-- at the start each actor is at its first operation
abbrev pub task_start : Program → ℕ → TaskValue
task_start c a = record { going = going_from c a 0; spare = 0 }

-- the first n actors before their first entries
abbrev pub first_tasks : Program → ℕ → List TaskValue
first_tasks c zero = []
first_tasks c (suc n) = first_tasks c n ++ (task_start c n ∷ [])

-- all actors before the first entry
abbrev pub actors_start : Program → List TaskValue
actors_start c = first_tasks c (length c.actors)

-- an entry that adds a record to a migration
abbrev pub adds_to : Body → Kind → Bool
adds_to (Body.Select v) (Kind.Fresh p u) = true
adds_to (Body.Select v) (Kind.Place p u x) = true
adds_to b k = false

-- the entry adds a record, at this phase
abbrev pub adds_at : Phase → Kind → Bool
adds_at (Phase.Guard p r met told body) k = adds_to body k
adds_at top k = false

-- the entry adds a record, at this stack
abbrev pub adds_record : List Phase → Kind → Bool
adds_record [] k = false
adds_record (top ∷ below) k = adds_at top k

-- the room after an entry; a record that was added has used one
abbrev pub spare_next : Phase → Kind → ℕ → ℕ
spare_next top k n = if adds_at top k then n - 1 else n

-- the room goes with the operation
abbrev pub spare_on : List Phase → ℕ → ℕ
spare_on [] n = 0
spare_on (top ∷ below) n = n

-- an actor after its entry
abbrev pub task_seen : Program → ℕ → TaskValue → Op → Phase → Kind → Seen → TaskValue
task_seen c a d o top k seen =
    record {
      going = going_seen c a d.going o top k seen;
      spare = spare_on (stack_after o d.going.stack k seen) (spare_next top k d.spare);
    }

-- the actor after its entry, by the top phase of its stack
abbrev pub task_top : Program → ℕ → TaskValue → Op → List Phase → Kind → Seen → TaskValue
task_top c a d o [] k seen = d
task_top c a d o (top ∷ below) k seen = task_seen c a d o top k seen

-- the actor after its entry; one with no operation left stays as it is
abbrev pub task_next : Program → ℕ → TaskValue → Kind → Seen → TaskValue
task_next c a d k seen = elim (op_at c a d.going.index) [ None ↦ d | Some o ↦ task_top c a d o d.going.stack k seen ]

-- all actors after an entry of one of them
abbrev pub actors_next : Program → ℕ → Kind → Seen → List TaskValue → List TaskValue
actors_next c a k seen x = slice_set x a (task_next c a (task_of x a) k seen)

-- what was seen is what the state has, for an actor in an operation
abbrev pub IsSeen : Program → After → ℕ → Going → Kind → Seen → Type 0
IsSeen c s a g k seen =
    (o : Op) (top : Phase) (below : List Phase) → op_at c a g.index ≡ Some o → g.stack ≡ top
    ∷ below → seen ≡ seen_at s o g.pages top k

-- what a step asks: the stack has room for what the entry puts on it, and a count of frames for one more
pub record StackFits (o : Op) (st : List Phase) (k : Kind) (seen : Seen) : Type 0 where
  pub few : length (stack_after o st k seen) ≤ 3
  pub counted : IsTrue (below_takes_count st)

-- what a step asks of the actor's stack, if it has an operation
abbrev pub ActorsFit : Program → ℕ → Going → Kind → Seen → Type 0
ActorsFit c a g k seen = (o : Op) → op_at c a g.index ≡ Some o → StackFits o g.stack k seen

-- room for the entry's record
abbrev pub HasRoom : Kind → TaskValue → Type 0
HasRoom k d = adds_record d.going.stack k ≡ true → 1 ≤ d.spare

-- there is room for the record that the entry adds, if it adds one
abbrev pub ActorsRoom : ℕ → Kind → List TaskValue → Type 0
ActorsRoom a k x = HasRoom k (task_of x a)
