-- States without positions: the history's length, where a look-up began, and the FROM of table entries; and without
-- what only laws ask of: the contents of frames, where they were committed to, which processes were ever there,
-- mirrors' devices as of their tables, and guards' told mirrors. What is due, and what is answered, does not depend on
-- them.
use Rattle.std.specs.Prelude.{false, Option, Some, None, List, [], ◌∷◌}
use Rattle.hm_history.specs.Memory.Places.{Places, TableEntry}
use Rattle.hm_history.specs.Memory.Contents.{zeros}
use Rattle.hm_history.specs.Memory.After.{After}
use Rattle.hm_history.specs.Kernel.Going.{State, Going}
use Rattle.hm_history.specs.declared.Kind.{Kind}
use Rattle.hm_history.specs.declared.Entry.{Entry}
use Rattle.hm_history.specs.declared.Progress.{Progress}
use Rattle.hm_history.specs.declared.phases.Seen.{Seen}
use Rattle.hm_history.specs.declared.phases.Touch.{Touch}
use Rattle.hm_history.specs.declared.phases.Touch.TheVariants.{Cpu, Walk, Sole}
use Rattle.hm_history.specs.declared.phases.Phase.{Phase}
use Rattle.hm_history.specs.declared.phases.Next.{Next}
use Rattle.hm_history.specs.declared.phases.Next.TheVariants.{Do, Wait}

-- a table entry without the position of its look-up
abbrev pub placeless : Option TableEntry → Option TableEntry
placeless None = None
placeless (Some x) = Some (record { target = x.target; right = x.right; from = 0 })

-- the places and tables, without positions and without what only laws ask of
abbrev pub forget_places : Places → Places
forget_places t = record t { table = λ m v. placeless (t.table m v); committed_to = λ f. None; device = λ m. None }

-- the state after a history, without positions and without what only laws ask of
abbrev pub forget_after : After → After
forget_after s =
    record s {
      length = 0;
      plain = record s.plain { been = λ p. false };
      places = forget_places s.places;
      sequences = record s.sequences { guard = λ a. None };
      contents = λ f. zeros;
    }

-- a fault without the position of its look-up
abbrev pub forget_touch : Touch → Touch
forget_touch (Cpu k) = Cpu k
forget_touch (Walk k at q) = Walk k 0 q
forget_touch Sole = Sole

-- the same of a fault that may be none
abbrev pub forget_option : Option Touch → Option Touch
forget_option None = None
forget_option (Some touch) = Some (forget_touch touch)

-- a phase without the position of its look-up
abbrev pub forget_phase : Phase → Phase
forget_phase (Phase.Begun k at q) = Phase.Begun k 0 q
forget_phase (Phase.Decide touch) = Phase.Decide (forget_touch touch)
forget_phase (Phase.Noted k at q x) = Phase.Noted k 0 q x
forget_phase (Phase.Taken touch g x) = Phase.Taken (forget_touch touch) g x
forget_phase (Phase.Armed touch g x) = Phase.Armed (forget_touch touch) g x
forget_phase (Phase.GiveUp touch) = Phase.GiveUp (forget_option touch)
forget_phase x = x

-- a stack of such phases
abbrev pub forget_stack : List Phase → List Phase
forget_stack [] = []
forget_stack (x ∷ xs) = forget_phase x ∷ forget_stack xs

-- how far an actor is, without positions
abbrev pub forget_going : Going → Going
forget_going g = record { index = g.index; stack = forget_stack g.stack; pages = g.pages }

-- a state without positions and without what only laws ask of
abbrev pub forget_state : State → State
forget_state u = record { after = forget_after u.after; going = λ a. forget_going (u.going a) }

-- what an actor sees at its entry, without the position of that
abbrev pub forget_seen : Seen → Seen
forget_seen x = record x { at = 0 }

-- a kind of entry without the position that a `set` has
abbrev pub forget_kind : Kind → Kind
forget_kind (Kind.Set m v f w from) = Kind.Set m v f w 0
forget_kind k = k

-- an entry without it
abbrev pub forget_entry : Entry → Entry
forget_entry e = record { actor = e.actor; kind = forget_kind e.kind }

-- what is due at a phase, without positions
abbrev pub forget_next : Next → Next
forget_next (Do k) = Do (forget_kind k)
forget_next (Wait y) = Wait y

-- what a turn comes to, without positions
abbrev pub forget_progress : Progress → Progress
forget_progress (Progress.Did e) = Progress.Did (forget_entry e)
forget_progress (Progress.Waiting y) = Progress.Waiting y
forget_progress Progress.Idle = Progress.Idle
