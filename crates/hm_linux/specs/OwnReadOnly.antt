-- own-read-only: a look-up takes a page of its own device as it is, and a write to a read-only one then fails.
use Rattle.std.specs.Prelude.{ℕ, Bool, not, ◌&&◌, is_some, if◌then◌else◌, Option, Some, List, ◌∷◌, []}
use Rattle.hm_base.specs.Program.{Program}
use Rattle.hm_base.specs.declared.Place.{Place}
use Rattle.hm_base.specs.declared.cause.Cause.{Cause}
use Rattle.hm_base.specs.declared.ops.Op.{Op}
use Rattle.hm_history.specs.Memory.Words.{writable}
use Rattle.hm_history.specs.Memory.Plain.{rights_of, mirror_dev}
use Rattle.hm_history.specs.Memory.After.{After}
use Rattle.hm_history.specs.Kernel.Operation.{op_mirror, op_writes}
use Rattle.hm_history.specs.Kernel.Stacks.{piece_ends}
use Rattle.hm_history.specs.Kernel.Legal.{is_own_of}
use Rattle.hm_history.specs.Kernel.Going.{Going, touch_page, touch_proc, going_on}
use Rattle.hm_history.specs.Kernel.Due.{repeats, failed}
use Rattle.hm_history.specs.declared.Kind.{Kind}
use Rattle.hm_history.specs.declared.phases.Touch.{Touch}
use Rattle.hm_history.specs.declared.phases.Touch.TheVariants.{Walk}
use Rattle.hm_history.specs.declared.phases.Phase.{Phase}
use Rattle.hm_history.specs.declared.phases.Next.{Next}
use Rattle.hm_history.specs.declared.phases.Next.TheVariants.{Do}

-- ---- what is due

-- the page has an area, and lies in the memory of the operation's device
abbrev pub is_own_page : After → Op → ℕ → ℕ → Bool
is_own_page s o p v =
    is_some (rights_of s.plain p v) && is_own_of (s.places.place p v) (mirror_dev s.plain (op_mirror o))

-- a walk releases its lock at a page of its own device, before anybody asks for a right
abbrev pub takes_own : After → Op → Touch → Next → Next
takes_own s o (Walk k since q) next =
    if not (repeats s (op_mirror o) q) && is_own_page s o (touch_proc s o) (touch_page o (Walk k since q))
    then Do (Kind.Runlock (touch_proc s o)) else next
takes_own s o touch next = next

-- where a look-up would commit the place, a write to one that may not be written fails
abbrev pub set_fails : Op → ℕ → Place → Next → Next
set_fails o k x (Do (Kind.Set m v f w from)) =
    if op_writes o && not (writable x) then Do (failed o k Cause.Unmapped) else Do (Kind.Set m v f w from)
set_fails o k x next = next

-- ---- where it leads

-- such a failure answers the piece; i is the operation's number, and g where the definitions lead
abbrev pub led_failed : Program → ℕ → ℕ → Option Op → List Phase → Kind → Going → Going
led_failed c a i (Some o) (Phase.Noted k since q x ∷ below) (Kind.Failed w at n why) g =
    going_on c a i (piece_ends o k) []
led_failed c a i o before k g = g
