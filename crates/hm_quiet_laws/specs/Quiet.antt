-- What is claimed of operations that meet nobody, and of a drain.
use Rattle.std.specs.Prelude.{◌≡◌, ℕ, zero, suc, ◌+◌, ◌≤◌, true, false, Some, List, [], ◌∷◌, ◌++◌, length, drop, sum_by}
use Rattle.std.specs.Prelude.{count_by, All, ◌⊎◌}
use Rattle.std.specs.List.{list_all}
use Rattle.hm_base.specs.Program.{Program, IsScript}
use Rattle.hm_base.specs.declared.cause.Cause.{Cause}
use Rattle.hm_base.specs.declared.ops.Op.{Op}
use Rattle.hm_base.specs.declared.ops.ScheduleLine.{ScheduleLine}
use Rattle.hm_history.specs.Kernel.Quiet.{quiet_bound, sum_of_bounds}
use Rattle.hm_history.specs.Kernel.Going.{State, ops_of, op_at, going_from, state_of}
use Rattle.hm_history.specs.Kernel.Run.{turns}
use Rattle.hm_history.specs.Kernel.Overrun.{overruns_line, overruns}
use Rattle.hm_history.specs.Laws.{DueFrom}
use Rattle.hm_history.specs.declared.Entry.{Entry}
use Rattle.hm_history.specs.declared.Kind.{Kind}
use Rattle.hm_history.specs.declared.phases.Migrating.{Migrating}
use Rattle.hm_history.specs.Kernel.Operation.{is_migration}
use Rattle.hm_quiet_laws.specs.Keeping.{keeps_well, IsThere, WasDealt}
use Rattle.hm_quiet_laws.specs.Rest.{IsAtRest, OthersRest}

-- an operation of an actor that begins while nobody has one under way: the history has entries that were due, the
-- operation is the actor's next, and neither the actor nor another is in the midst of one
pub record BeginsAlone (c : Program) (h : List Entry) (a : ℕ) (o : Op) : Type 0 where
  pub script : IsScript c
  pub were_due : DueFrom c [] h
  pub is_next : op_at c a ((state_of c h).going a).index ≡ Some o
  pub rests : IsAtRest c (state_of c h) a
  pub others : OthersRest c (state_of c h) a

-- it ends within n entries, all of its actor, each of which was due: so the actor never waits, and as long as
-- there is room each turn of it adds one. After the last one the actor is at its next operation
pub record EndsSoon (c : Program) (h : List Entry) (a n : ℕ) : Type 0 where
  pub entries : List Entry
  pub few : length entries ≤ n
  pub are_due : DueFrom c h entries
  pub own : All (λ e. e.actor ≡ a) entries
  pub by_turns : length h + length entries ≤ 2000000 → turns c h a (length entries) ≡ h ++ entries
  pub ended : (state_of c (h ++ entries)).going a ≡ going_from c a (((state_of c h).going a).index + 1)

-- every operation that begins alone, of whatever kind, ends within its bound
abbrev pub QuietEnds : Type 0
QuietEnds = (c : Program) (h : List Entry) (a : ℕ) (o : Op) → BeginsAlone c h a o → EndsSoon c h a (quiet_bound c o)

-- a migration that ends so, and no entry of it keeps a page because another actor has its frame locked, or because it
-- was lost
pub record EndsWithAll (c : Program) (h : List Entry) (a n : ℕ) : Type 0 where
  pub soon : EndsSoon c h a n
  pub well : list_all (λ e. keeps_well e.kind) soon.entries ≡ true

-- every migration that begins alone does
abbrev pub QuietMoves : Type 0
QuietMoves = (c : Program) (h : List Entry) (a : ℕ) (o : Op) → is_migration o ≡ true → BeginsAlone c h a o
    → EndsWithAll c h a (quiet_bound c o)

-- the records of the actor's migration, one for each page that it selected, as long as it is under way
abbrev pub selected : Program → List Entry → ℕ → List Migrating
selected c h a = ((state_of c h).going a).pages

-- a migration that ends so, and before its last entry each page that it selected has moved, or the script skips it, or
-- an entry says that no frame was free for it; a page that has moved is in a frame of the pool that it was to go to;
-- and the last entry tells how many have moved, or that the operation is refused, since its pages lie outside the
-- window or the mirror is not attached
pub record EndsMoving (c : Program) (o : Op) (h : List Entry) (a n : ℕ) : Type 0 where
  pub all : EndsWithAll c h a n
  pub front : List Entry
  pub last : Entry
  pub split : all.soon.entries ≡ front ++ last ∷ []
  pub each : All (WasDealt c o front) (selected c (h ++ front) a)
  pub there : All (λ x. x.moved ≡ true → IsThere (state_of c (h ++ front)).after o x.page) (selected c (h ++ front) a)
  pub tells : (last.kind ≡ Kind.Migrated (count_by (λ x. x.moved) (selected c (h ++ front) a)))
      ⊎ (last.kind ≡ Kind.Refused Cause.Outside)

-- every migration that begins alone does
abbrev pub SelectedMove : Type 0
SelectedMove = (c : Program) (h : List Entry) (a : ℕ) (o : Op) → is_migration o ≡ true → BeginsAlone c h a o
    → EndsMoving c o h a (quiet_bound c o)

-- the sum of the bounds of an actor's operations that have not ended
abbrev pub bounds_left : Program → State → ℕ → ℕ
bounds_left c s a = sum_by (quiet_bound c) (drop (s.going a).index (ops_of c a))

-- and of n actors, from one on
abbrev pub all_bounds : Program → State → ℕ → ℕ → ℕ
all_bounds c s from zero = 0
all_bounds c s from (suc n) = bounds_left c s from + all_bounds c s (from + 1) n

-- a drain begins while no operation is under way, with room for the bounds of all operations that have not ended
pub record DrainsAlone (c : Program) (h : List Entry) : Type 0 where
  pub script : IsScript c
  pub were_due : DueFrom c [] h
  pub rest : (b : ℕ) → IsAtRest c (state_of c h) b
  pub room : length h + all_bounds c (state_of c h) 0 (length c.actors) ≤ 2000000

-- then it does not find the history full and an entry due
abbrev pub DrainsHaveRoom : Type 0
DrainsHaveRoom = (c : Program) (h : List Entry) → DrainsAlone c h → overruns_line c h ScheduleLine.Drain ≡ false

-- the schedule is `drain` alone, and a history has room for the bounds of all operations
pub record IsDrainAlone (c : Program) : Type 0 where
  pub schedule : c.schedule ≡ ScheduleLine.Drain ∷ []
  pub room : sum_of_bounds c ≤ 2000000

-- no turn of such a schedule finds the history full and an entry due
abbrev pub DrainAloneHasRoom : Type 0
DrainAloneHasRoom = (c : Program) → IsScript c → IsDrainAlone c → overruns c ≡ false
