-- States without absolute sequences: of a process's sequence it is asked whether it is odd, of an interval's whether it
-- is the process's, of a noted one whether it is the interval's. 3 and 2 stand for odd and even; an interval's is 3
-- if it is the process's, and else 1; a noted one is the interval's, or 5 if it is not.
use Rattle.std.specs.Prelude.{ℕ, Bool, ◌==◌, if◌then◌else◌, Option, Some, None, List, [], ◌∷◌}
use Rattle.hm_base.specs.Program.{Program}
use Rattle.hm_base.specs.declared.ops.Op.{Op}
use Rattle.hm_history.specs.Memory.Sequences.{Sequences, Interval, is_odd, interval_seq}
use Rattle.hm_history.specs.Memory.After.{After}
use Rattle.hm_history.specs.Kernel.Operation.{op_mirror}
use Rattle.hm_history.specs.Kernel.Going.{State, Going, op_at}
use Rattle.hm_history.specs.declared.Why.{Why}
use Rattle.hm_history.specs.declared.Kind.{Kind}
use Rattle.hm_history.specs.declared.Entry.{Entry}
use Rattle.hm_history.specs.declared.Progress.{Progress}
use Rattle.hm_history.specs.declared.phases.Touch.{Touch}
use Rattle.hm_history.specs.declared.phases.Touch.TheVariants.{Cpu, Walk, Sole}
use Rattle.hm_history.specs.declared.phases.Phase.{Phase}
use Rattle.hm_history.specs.declared.phases.Next.{Next}
use Rattle.hm_history.specs.declared.phases.Next.TheVariants.{Do, Wait}

-- a process's sequence, of which only its parity matters
abbrev pub small : ℕ → ℕ
small n = if is_odd n then 3 else 2

-- an interval's sequence, of which only matters whether it is its process's
abbrev pub small_of : Bool → ℕ
small_of b = if b then 3 else 1

-- an interval with a small sequence; `f` has the sequences of the processes
abbrev pub small_interval : (ℕ → ℕ) → Option Interval → Option Interval
small_interval f None = None
small_interval f (Some x) = Some (record x { seq = small_of (x.seq == f x.proc) })

-- the part of the state that has sequences, with small ones
abbrev pub small_sequences : Sequences → Sequences
small_sequences s = record s { seq = λ p. small (s.seq p); interval = λ m. small_interval s.seq (s.interval m) }

-- the state after a history, with small sequences
abbrev pub small_after : After → After
small_after s = record s { sequences = small_sequences s.sequences }

-- a noted sequence, of a look-up through mirror m
abbrev pub small_noted : Sequences → ℕ → ℕ → ℕ
small_noted s m q = if interval_seq s m == q then interval_seq (small_sequences s) m else 5

-- a fault with a small sequence, if it is that of a look-up, which noted one
abbrev pub small_touch : Sequences → ℕ → Touch → Touch
small_touch s m (Cpu k) = Cpu k
small_touch s m (Walk k at q) = Walk k at (small_noted s m q)
small_touch s m Sole = Sole

-- the same of a fault that may be none
abbrev pub small_option : Sequences → ℕ → Option Touch → Option Touch
small_option s m None = None
small_option s m (Some touch) = Some (small_touch s m touch)

-- a phase with a small sequence, if it is one that noted one. A detach waits for an odd one to pass, which the state
-- tells
abbrev pub small_phase : Sequences → ℕ → Phase → Phase
small_phase s m (Phase.Detaching q) = Phase.Detaching 0
small_phase s m (Phase.Begun k at q) = Phase.Begun k at (small_noted s m q)
small_phase s m (Phase.Decide touch) = Phase.Decide (small_touch s m touch)
small_phase s m (Phase.Noted k at q x) = Phase.Noted k at (small_noted s m q) x
small_phase s m (Phase.Taken touch g x) = Phase.Taken (small_touch s m touch) g x
small_phase s m (Phase.Armed touch g x) = Phase.Armed (small_touch s m touch) g x
small_phase s m (Phase.GiveUp touch) = Phase.GiveUp (small_option s m touch)
small_phase s m x = x

-- a stack of such phases
abbrev pub small_stack : Sequences → ℕ → List Phase → List Phase
small_stack s m [] = []
small_stack s m (x ∷ xs) = small_phase s m x ∷ small_stack s m xs

-- the mirror of the operation that an actor is at
abbrev pub mirror_of : Option Op → ℕ
mirror_of None = 0
mirror_of (Some o) = op_mirror o

-- how far an actor is, with small sequences on its stack
abbrev pub small_going : Program → Sequences → ℕ → Going → Going
small_going c s a g =
    record { index = g.index; stack = small_stack s (mirror_of (op_at c a g.index)) g.stack; pages = g.pages }

-- a state with small sequences everywhere
abbrev pub small_state : Program → State → State
small_state c u = record { after = small_after u.after; going = λ a. small_going c u.after.sequences a (u.going a) }

-- entries without sequences; a look-up begins where its interval's is not the process's
abbrev pub small_kind : Kind → Kind
small_kind (Kind.Attached m d p r q) = Kind.Attached m d p r 0
small_kind (Kind.Detaching m q) = Kind.Detaching m 0
small_kind (Kind.Start p r q) = Kind.Start p r 0
small_kind (Kind.Told m r q) = Kind.Told m r 0
small_kind (Kind.End p r q) = Kind.End p r 0
small_kind (Kind.Begin m q) = Kind.Begin m 1
small_kind k = k

-- an entry whose kind has no sequences
abbrev pub small_entry : Entry → Entry
small_entry e = record { actor = e.actor; kind = small_kind e.kind }

-- a reason to wait, without the sequence that is waited for
abbrev pub small_why : Why → Why
small_why (Why.Invalidating m q) = Why.Invalidating m 0
small_why y = y

-- what is due at a phase, without sequences
abbrev pub small_next : Next → Next
small_next (Do k) = Do (small_kind k)
small_next (Wait y) = Wait (small_why y)

-- what a turn comes to, without sequences
abbrev pub small_progress : Progress → Progress
small_progress (Progress.Did e) = Progress.Did (small_entry e)
small_progress (Progress.Waiting y) = Progress.Waiting (small_why y)
small_progress Progress.Idle = Progress.Idle
