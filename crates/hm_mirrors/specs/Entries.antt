-- An entry of a mirror's table as it is kept, and as a history has it.
use Rattle.std.specs.Prelude.{ℕ, Bool, true, false, if◌then◌else◌, Option, Some, None}
use Rattle.hm_base.specs.declared.Frame.{Frame}
use Rattle.hm_base.specs.declared.PoolId.{PoolId}
use Rattle.hm_base.specs.PlaceWords.{sys_frame}
use Rattle.hm_history.specs.Memory.Places.{TableEntry, may_write}
use Rattle.hm_history.specs.declared.TableRight.{TableRight}
use Rattle.mirror_tables.specs.declared.entry.MirrorEntry.{MirrorEntry}
use Rattle.mirror_tables.specs.declared.entry.Target.{Target}

-- the entry that is kept
abbrev pub target_for : Option Frame → TableRight → Target
target_for None w = Target.Zero
target_for (Some f) TableRight.Read = Target.At f
target_for (Some f) TableRight.Write = Target.At f
target_for (Some f) TableRight.Sole = Target.Sole f.number

-- the entry that a `set` leaves in the table
abbrev pub entry_for : Option Frame → TableRight → ℕ → MirrorEntry
entry_for f w from = record { target = target_for f w; writable = may_write w; from = from }

-- the entry as a history has it
abbrev pub frame_of : Target → Option Frame
frame_of Target.Zero = None
frame_of (Target.At f) = Some f
frame_of (Target.Sole n) = Some (sys_frame n)

-- the right of an entry; one that is an actor's alone has a right of its own
abbrev pub right_of : Target → Bool → TableRight
right_of Target.Zero w = if w then TableRight.Write else TableRight.Read
right_of (Target.At f) w = if w then TableRight.Write else TableRight.Read
right_of (Target.Sole n) w = TableRight.Sole

-- the entry of the definitions that a kept one stands for
abbrev pub shown_entry : MirrorEntry → TableEntry
shown_entry e = record { target = frame_of e.target; right = right_of e.target e.writable; from = e.from }

-- what one actor has alone is a frame of the system
abbrev pub is_system_frame : Option Frame → Bool
is_system_frame None = false
is_system_frame (Some f) = elim f.pool [ PoolId.System ↦ true | PoolId.Device d ↦ false ]

-- the right can be kept with the frame: only a system frame is kept as one actor's alone
abbrev pub is_kept_right : Option Frame → TableRight → Bool
is_kept_right f TableRight.Read = true
is_kept_right f TableRight.Write = true
is_kept_right f TableRight.Sole = is_system_frame f
