-- unmap-lets-in: from its first invalidation on an unmap has the lock for reading alone, and its areas are gone.
use Rattle.std.specs.Prelude.{ℕ, Bool, not, ◌&&◌, ◌==◌, is_some, is_none, if◌then◌else◌, Option, Some, None, List, ◌∷◌}
use Rattle.std.specs.Prelude.{fold}
use Rattle.hm_base.specs.Pages.{Pages}
use Rattle.hm_base.specs.Program.{Program}
use Rattle.hm_base.specs.declared.area.Area.{Area}
use Rattle.hm_base.specs.declared.cause.Cause.{Cause}
use Rattle.hm_base.specs.declared.ops.Op.{Op}
use Rattle.hm_history.specs.Memory.Words.{numbers}
use Rattle.hm_history.specs.Memory.Plain.{without, rights_of, is_attached, mirror_proc}
use Rattle.hm_history.specs.Memory.After.{After}
use Rattle.hm_history.specs.Kernel.Operation.{op_mirror}
use Rattle.hm_history.specs.Kernel.Going.{State, op_at, touch_page, touch_proc}
use Rattle.hm_history.specs.Kernel.Due.{fails, not_here}
use Rattle.hm_history.specs.declared.locks.MapLock.{MapLock}
use Rattle.hm_history.specs.declared.Kind.{Kind}
use Rattle.hm_history.specs.declared.phases.Body.{Body}
use Rattle.hm_history.specs.declared.phases.Touch.{Touch}
use Rattle.hm_history.specs.declared.phases.Touch.TheVariants.{Sole}
use Rattle.hm_history.specs.declared.phases.Phase.{Phase}
use Rattle.hm_history.specs.declared.phases.Next.{Next}
use Rattle.hm_history.specs.declared.phases.Next.TheVariants.{Do}

-- ---- the state as actors find it

-- the process and the span whose areas the operation has taken away so far, if it is an unmap past its first lock
abbrev pub span_gone : Option Op → List Phase → Option (ℕ × Pages)
span_gone (Some (Op.Unmap p r)) (Phase.Begin ∷ below) = None
span_gone (Some (Op.Unmap p r)) (Phase.Locked ∷ below) = None
span_gone (Some (Op.Unmap p r)) stack = Some (p, r)
span_gone o stack = None

-- what an actor has taken away so far
abbrev pub gone_by : Program → State → ℕ → Option (ℕ × Pages)
gone_by c u a = let g = u.going a in span_gone (op_at c a g.index) g.stack

-- the areas of a process without what was taken away
abbrev pub without_gone : ℕ → List Area → Option (ℕ × Pages) → List Area
without_gone p xs None = xs
without_gone p xs (Some x) = if x.0 == p then without x.1 xs else xs

-- the areas that are left of a process
abbrev pub areas_left : Program → State → ℕ → List Area
areas_left c u p = fold (λ xs a. without_gone p xs (gone_by c u a)) (u.after.plain.areas p) (numbers 0 16)

-- a lock, for reading alone if that holds
abbrev pub for_reading : Bool → Option MapLock → Option MapLock
for_reading b None = None
for_reading b (Some x) = Some (record x { writes = x.writes && not b })

-- the mmap locks as they are held
abbrev pub map_left : Program → State → ℕ → Option MapLock
map_left c u a = for_reading (is_some (gone_by c u a)) (u.after.locks.map a)

-- ---- what is due: a page without an area may still have a place

-- who wants such a page alone fails
abbrev pub area_first : After → Op → Touch → Next → Next
area_first s o Sole next =
    if is_attached s.plain (op_mirror o) && is_none (rights_of s.plain (touch_proc s o) (touch_page o Sole))
    then Do (fails o 0 Cause.Unmapped) else next
area_first s o touch next = next

-- a migration selects none
abbrev pub selects_mapped : After → Body → Next → Next
selects_mapped s (Body.Select n) (Do (Kind.Place p v x)) =
    if is_none (rights_of s.plain p v) then Do (not_here v) else Do (Kind.Place p v x)
selects_mapped s body next = next

-- a snapshot sees nothing there
abbrev pub sees_mapped : After → Next → Next
sees_mapped s (Do (Kind.Seen m v x)) =
    if is_none (rights_of s.plain (mirror_proc s.plain m) v) then Do (Kind.Seen m v 0) else Do (Kind.Seen m v x)
sees_mapped s next = next
