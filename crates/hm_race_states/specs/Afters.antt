-- Parts of a state after an entry.
use Rattle.std.specs.Prelude.{◌≡◌, ℕ, ◌<◌, Option, Some, List, ◌∷◌, length, slice_get, IsTrue, ⊤}
use Rattle.hm_base.specs.Program.{Program}
use Rattle.hm_base.specs.declared.ops.Op.{Op}
use Rattle.hm_history.specs.Memory.Plain.{MirrorState, plain_start, plain_next}
use Rattle.hm_history.specs.Memory.Sequences.{Sequences}
use Rattle.hm_history.specs.Kernel.Stacks.{stack_after}
use Rattle.hm_history.specs.Kernel.Going.{Going, State, op_at}
use Rattle.hm_history.specs.declared.Kind.{Kind}
use Rattle.hm_history.specs.declared.Entry.{Entry}
use Rattle.hm_history.specs.declared.phases.Seen.{Seen}
use Rattle.hm_history.specs.declared.phases.Phase.{Phase}
use Rattle.hm_laws.specs.Allowed.{InPage}
use Rattle.hm_reads.specs.Ranges.{top_in_range}
use Rattle.hm_actors.specs.Actors.{IsSeen, StackFits}
use Rattle.hm_spaces.specs.Spaces.{SpacesFit}

-- the bytes after an entry, by the mirrors before it
abbrev pub bytes_next : (ℕ → ℕ → ℕ) → (ℕ → Option MirrorState) → Kind → ℕ → ℕ → ℕ
bytes_next f mirrors k = (plain_next (record plain_start { bytes = f; mirrors = mirrors }) k).bytes

-- what a stack asks of an entry: it has room for what the entry puts on it, a count of frames has room for one more,
-- and after it a fork between the two halves of a page is at a page
pub record StackTakes (o : Op) (st : List Phase) (k : Kind) (seen : Seen) : Type 0 where
  pub fits : StackFits o st k seen
  pub ranged : IsTrue (top_in_range (slice_get (stack_after o st k seen) 0))

-- the same of an actor's stack, if it has an operation
abbrev pub TaskTakes : Program → ℕ → Going → Kind → Seen → Type 0
TaskTakes c a g k seen = (o : Op) → op_at c a g.index ≡ Some o → StackTakes o g.stack k seen

-- the same at a state, by what the actor sees there
abbrev pub ActorTakes : Program → State → Entry → Type 0
ActorTakes c u e = (seen : Seen) → IsSeen c u.after e.actor (u.going e.actor) e.kind seen
    → TaskTakes c e.actor (u.going e.actor) e.kind seen

-- what counts of invalidations under way ask of an entry: one more that starts can be counted
abbrev pub SeqsTake : Sequences → Kind → Type 0
SeqsTake s (Kind.Start p r q) = s.active p < 255
SeqsTake s k = ⊤

-- what the bytes of the processes ask of an entry: those that it writes lie in one page
abbrev pub BytesTake : Kind → Type 0
BytesTake (Kind.Stored x at bs) = InPage at (length bs)
BytesTake k = ⊤

-- what all but its actor ask of an entry
pub record PartsTake (u : State) (k : Kind) : Type 0 where
  pub areas : SpacesFit u.after.plain k
  pub bytes : BytesTake k
  pub seqs : SeqsTake u.after.sequences k

-- an actor in an operation, at the top of its stack
abbrev pub AtPhase : Program → ℕ → Going → (Op → Phase → Type 0) → Type 0
AtPhase c a g Holds =
    (o : Op) (top : Phase) (below : List Phase) → op_at c a g.index ≡ Some o → g.stack ≡ top ∷ below → Holds o top
