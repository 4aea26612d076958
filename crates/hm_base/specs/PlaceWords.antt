-- Frames and places: which frame a place names, what is the same, and what becomes of the write right.
use Rattle.std.specs.Prelude.{ℕ, ◌+◌, Bool, true, false, not, ◌&&◌, ◌==◌, if◌then◌else◌, Option, Some, None}
use Rattle.hm_base.specs.declared.PoolId.{PoolId}
use Rattle.hm_base.specs.declared.PoolId.TheVariants.{System, Device}
use Rattle.hm_base.specs.declared.Frame.{Frame}
use Rattle.hm_base.specs.declared.Place.{Place}
use Rattle.hm_base.specs.declared.Place.TheVariants.{Empty, Zero, Sys, Own, Moving, Exclusive}

-- the system's frame of this number
abbrev pub sys_frame : ℕ → Frame
sys_frame n = record { pool = System; number = n }

-- the device's frame of this number
abbrev pub dev_frame : ℕ → ℕ → Frame
dev_frame d n = record { pool = Device d; number = n }

-- the two are one pool
abbrev pub same_pool : PoolId → PoolId → Bool
same_pool System System = true
same_pool (Device d) (Device e) = d == e
same_pool _ _ = false

-- the two are one frame
abbrev pub same_frame : Frame → Frame → Bool
same_frame f g = same_pool f.pool g.pool && (f.number == g.number)

-- there is a frame, and it is this one
abbrev pub is_frame : Option Frame → Frame → Bool
is_frame None f = false
is_frame (Some g) f = same_frame g f

-- where a pool stands among all: the system first, then the devices
abbrev pub pool_index : PoolId → ℕ
pool_index System = 0
pool_index (Device d) = d + 1

-- f, but x at the frame
abbrev pub with_frame : {X : Type 0} → (Frame → X) → Frame → X → Frame → X
with_frame f k x q = if same_frame q k then x else f q

-- the frame that a place names (include/linux/swapops.h)
abbrev pub names : Place → Option Frame
names Empty = None
names Zero = None
names (Sys n w) = Some (sys_frame n)
names (Own d n w) = Some (dev_frame d n)
names (Moving f w) = Some f
names (Exclusive n a) = Some (sys_frame n)

-- the frame that a place names, but for that of a migration entry
abbrev pub names_directly : Place → Option Frame
names_directly Empty = None
names_directly Zero = None
names_directly (Sys n w) = Some (sys_frame n)
names_directly (Own d n w) = Some (dev_frame d n)
names_directly (Moving f w) = None
names_directly (Exclusive n a) = Some (sys_frame n)

-- the frame of a migration entry
abbrev pub moving_frame : Place → Option Frame
moving_frame (Moving f w) = Some f
moving_frame _ = None

-- there is no entry
abbrev pub is_empty_place : Place → Bool
is_empty_place Empty = true
is_empty_place _ = false

-- the place has the write right; an exclusive page has it for its actor
abbrev pub writable : Place → Bool
writable Empty = false
writable Zero = false
writable (Sys n w) = w
writable (Own d n w) = w
writable (Moving f w) = w
writable (Exclusive n a) = true

-- the same place without the write right
abbrev pub narrowed : Place → Place
narrowed Empty = Empty
narrowed Zero = Zero
narrowed (Sys n w) = Sys n false
narrowed (Own d n w) = Own d n false
narrowed (Moving f w) = Moving f false
narrowed (Exclusive n a) = Sys n false

-- the place that names the frame directly
abbrev pub place_in : Frame → Bool → Place
place_in f w = elim f.pool [ System ↦ Sys f.number w | Device d ↦ Own d f.number w ]

-- the two are one place
abbrev pub same_place : Place → Place → Bool
same_place Empty Empty = true
same_place Zero Zero = true
same_place (Sys n w) (Sys k x) = (n == k) && (if w then x else not x)
same_place (Own d n w) (Own e k x) = (d == e) && ((n == k) && (if w then x else not x))
same_place (Moving f w) (Moving g x) = same_frame f g && (if w then x else not x)
same_place (Exclusive n a) (Exclusive k b) = (n == k) && (a == b)
same_place _ _ = false

-- what a snapshot for device d tells of a place (as dmirror_mkentry of lib/test_hmm.c, but for an exclusive page, which
-- is 00 there, and a page without area, ff)
abbrev pub snap_code : Place → ℕ → ℕ
snap_code Empty d = 0
snap_code Zero d = 0x11
snap_code (Sys n w) d = if w then 0x02 else 0x01
snap_code (Own e n w) d = if d == e then (if w then 0x22 else 0x21) else 0
snap_code (Moving f w) d = 0
snap_code (Exclusive n b) d = 0x31
