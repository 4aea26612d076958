-- exclusive-busy, with exclusive-taken-away: who wants a page alone does not wait for its frame, and then has it locked
-- until the table is set.
use Rattle.std.specs.Prelude.{ℕ, Bool, true, false, ◌&&◌, ◌||◌, ◌==◌, is_some, if◌then◌else◌, Option, Some, None}
use Rattle.hm_base.specs.Pages.{Pages}
use Rattle.hm_base.specs.declared.Frame.{Frame}
use Rattle.hm_base.specs.declared.Place.{Place}
use Rattle.hm_base.specs.declared.cause.Cause.{Cause}
use Rattle.hm_base.specs.declared.ops.Op.{Op}
use Rattle.hm_history.specs.Memory.Words.{least, is_frame, sys_frame, names}
use Rattle.hm_history.specs.Memory.Plain.{is_attached}
use Rattle.hm_history.specs.Memory.Places.{cpu_writes}
use Rattle.hm_history.specs.Memory.Locks.{releases}
use Rattle.hm_history.specs.Memory.After.{After}
use Rattle.hm_history.specs.Kernel.Operation.{op_mirror}
use Rattle.hm_history.specs.Kernel.Going.{touch_page, touch_proc}
use Rattle.hm_history.specs.Kernel.Due.{fails, body_or_end}
use Rattle.hm_history.specs.declared.Kind.{Kind}
use Rattle.hm_history.specs.declared.Why.{Why}
use Rattle.hm_history.specs.declared.phases.Body.{Body}
use Rattle.hm_history.specs.declared.phases.Touch.{Touch}
use Rattle.hm_history.specs.declared.phases.Touch.TheVariants.{Sole}
use Rattle.hm_history.specs.declared.phases.Phase.{Phase}
use Rattle.hm_history.specs.declared.phases.Next.{Next}
use Rattle.hm_history.specs.declared.phases.Next.TheVariants.{Do, Wait}
use Rattle.hm_linux.specs.Noted.{Noted}

-- ---- locks

-- who has the frame locked, be it as the frame of an exclusive page
abbrev pub locker_of : Noted → After → Frame → Option ℕ
locker_of n s f = elim (s.locks.frame f) [ Some b ↦ Some b | None ↦ least (λ a. is_frame (n.locks a) f) 0 16 ]

-- another actor than this one
abbrev pub other_than : ℕ → Option ℕ → Option ℕ
other_than a x = elim x [ None ↦ None | Some b ↦ if a == b then None else Some b ]

-- the other actor that has the frame of this place locked
abbrev pub place_locker : Noted → After → ℕ → Place → Option ℕ
place_locker n s a x = elim (names x) [ None ↦ None | Some f ↦ other_than a (locker_of n s f) ]

-- ---- what is due

-- an exclusive page whose frame another actor has locked is waited for
abbrev pub waits_for_locked : Noted → After → ℕ → Place → Next → Next
waits_for_locked n s a (Place.Exclusive i b) next = elim (place_locker n s a (Place.Exclusive i b)) [
  | None ↦ next
  | Some d ↦ Wait (Why.FrameLocked (sys_frame i) d)
]
waits_for_locked n s a x next = next

-- the page that an actor wants alone was changed, or another actor has its frame locked
abbrev pub is_busy : Noted → After → ℕ → Place → Bool
is_busy n s a x = n.busy a || (cpu_writes x && is_some (place_locker n s a x))

-- who wants a page alone fails at a busy one
abbrev pub busy_fails : Noted → After → ℕ → Op → Place → Next → Next
busy_fails n s a o x next =
    if is_attached s.plain (op_mirror o) && is_busy n s a x then Do (fails o 0 Cause.Never) else next

-- what is due to a fault, by whose touch it is
abbrev pub decides_busy : Noted → After → ℕ → Op → Touch → Next → Next
decides_busy n s a o Sole next = let x = s.places.place (touch_proc s o) (touch_page o Sole) in
    busy_fails n s a o x (waits_for_locked n s a x next)
decides_busy n s a o touch next =
    waits_for_locked n s a (s.places.place (touch_proc s o) (touch_page o touch)) next

-- the guard makes a page exclusive, or an ordinary page of it
abbrev pub is_of_exclusive : Body → Bool
is_of_exclusive Body.Restore = true
is_of_exclusive (Body.Seize f) = true
is_of_exclusive body = false

-- such a guard leaves a page as it is whose frame another actor has locked
abbrev pub spares_locked : Noted → After → ℕ → ℕ → Pages → Body → Next → Next
spares_locked n s a p r body (Do (Kind.Place q v x)) =
    if is_of_exclusive body && is_some (place_locker n s a (s.places.place p r.first))
    then Do (body_or_end s p r None) else Do (Kind.Place q v x)
spares_locked n s a p r body next = next

-- ---- what is noted

-- the exclusive page's frame that an actor has locked after its entry: from the place to the table entry, or to the
-- release of the mmap lock
abbrev pub locked_after : Option Frame → Kind → Option Frame
locked_after f (Kind.Place p v (Place.Exclusive n b)) = names (Place.Exclusive n b)
locked_after f (Kind.Set m v g w from) = None
locked_after f k = if releases k then None else f

-- the actor's page was changed: its guard came to the end and did not place it
abbrev pub busy_after : Phase → Kind → Bool
busy_after (Phase.Guard p r met told (Body.Seize f)) (Kind.End q e n) = true
busy_after top k = false
