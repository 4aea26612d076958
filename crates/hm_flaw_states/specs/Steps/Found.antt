-- What is due to an actor of a driver with a flaw, in a state as it finds it.
use Rattle.std.specs.Prelude.{ℕ, Bool, true, false, ◌&&◌, ◌==◌, Option, Some, None}
use Rattle.hm_base.specs.Program.{Program}
use Rattle.hm_base.specs.declared.ops.Op.{Op}
use Rattle.hm_history.specs.Kernel.Going.{State, op_at}
use Rattle.hm_history.specs.Memory.Words.{page_of}
use Rattle.hm_history.specs.Memory.Plain.{mirror_dev}
use Rattle.hm_history.specs.Memory.After.{After}
use Rattle.hm_history.specs.Kernel.Operation.{op_writes, op_piece}
use Rattle.hm_history.specs.Kernel.Due.{due_phase, due_decide}
use Rattle.hm_history.specs.declared.Kind.{Kind}
use Rattle.hm_history.specs.declared.KeptWhy.{KeptWhy}
use Rattle.hm_history.specs.declared.Progress.{Progress}
use Rattle.hm_history.specs.declared.phases.Migrating.{Migrating}
use Rattle.hm_history.specs.declared.phases.MoveStep.{MoveStep}
use Rattle.hm_history.specs.declared.phases.Touch.{Touch}
use Rattle.hm_history.specs.declared.phases.Touch.TheVariants.{Walk}
use Rattle.hm_history.specs.declared.phases.Phase.{Phase}
use Rattle.hm_history.specs.declared.phases.Next.{Next}
use Rattle.hm_history.specs.declared.phases.Next.TheVariants.{Do, Wait}
use Rattle.hm_flaws.specs.declared.flaws.Flaw.{Flaw}
use Rattle.hm_flaws.specs.Drivers.{Driver, is_own_body}
use Rattle.hm_flaws.specs.Overrides.{due_flawed, walk_any, suits_any}
use Rattle.hm_flaws.specs.Flawed.{due_flawed_top}

-- what is due at a phase to the right driver
abbrev pub right_at : Program → State → ℕ → Op → Phase → Next
right_at c u a o top = due_phase c u.after a o (u.going a).pages top

-- what is due at a phase to a driver with the flaw, before its device has read
abbrev pub flawed_at : Flaw → Program → State → ℕ → Op → Phase → Next
flawed_at l c u a o top = due_flawed l c u.after a o (u.going a).pages top

-- what is due to an actor in a state as it finds it; x is what the driver has of its own
abbrev pub due_found : Flaw → Program → Driver → State → ℕ → Progress
due_found l c x u a = let g = u.going a in due_flawed_top l c x u.after a (op_at c a g.index) g.pages g.stack

-- the entry or the wait that a turn comes to; an idle actor has none
abbrev pub next_of : Progress → Option Next
next_of (Progress.Did e) = Some (Do e.kind)
next_of (Progress.Waiting why) = Some (Wait why)
next_of Progress.Idle = None

-- a page or a frame is kept for want of a frame
abbrev pub is_wanting : Next → Bool
is_wanting (Do (Kind.Kept what KeptWhy.NoFrame)) = true
is_wanting n = false

-- the page that a step of a migration sets in the driver's own table
abbrev pub page_set_at : MoveStep → Migrating → Option Migrating
page_set_at MoveStep.SetOwnTable x = Some x
page_set_at step x = None

-- the same, by what the migration has come to
abbrev pub page_to_set : Option (MoveStep × Migrating) → Option Migrating
page_to_set None = None
page_to_set (Some at) = page_set_at at.0 at.1

-- a fault decides, if any device's memory is no fault to a walk
abbrev pub any_decides : Program → After → ℕ → Op → Touch → ℕ → ℕ → Next
any_decides c s a o (Walk k since q) p v = walk_any c s a o k q p v
any_decides c s a o touch p v = due_decide c s a o touch p v

-- the process is there, and its place for the piece allows the access, a device's memory among others
abbrev pub any_place : After → Op → ℕ → ℕ → Bool
any_place s o k p = s.plain.there p && suits_any (op_writes o) (s.places.place p (page_of (op_piece o k).0))

-- it is the first of what was found
abbrev pub is_first : ℕ → Option ℕ → Bool
is_first n None = false
is_first n (Some k) = k == n

-- an operation at this phase tells the mirror of an invalidation for a migration of the mirror's own device
abbrev pub top_is_own : After → Op → Phase → ℕ → Bool
top_is_own s o (Phase.Guard p r met told body) m = is_own_body s o body (mirror_dev s.plain m)
top_is_own s o top m = false
