-- Operations and places by their shape.
use Rattle.std.specs.Prelude.{ℕ, Bool, true, false, ◌||◌, nat_lt, length}
use Rattle.hm_base.specs.Pages.{Pages, all_pages}
use Rattle.hm_base.specs.declared.PoolId.{PoolId}
use Rattle.hm_base.specs.declared.Frame.{Frame}
use Rattle.hm_base.specs.declared.Place.{Place}
use Rattle.hm_base.specs.declared.ops.Op.{Op}
use Rattle.hm_base.specs.declared.ops.Rights.{Rights}
use Rattle.hm_history.specs.Memory.Words.{page_of, same_pool}
use Rattle.hm_history.specs.Kernel.Operation.{op_piece, op_pieces, is_migration, is_exclusive_op}

-- an access by the CPU
abbrev pub is_cpu : Op → Bool
is_cpu (Op.Load p a n) = true
is_cpu (Op.Store p a bs) = true
is_cpu o = false

-- a load or a store through a mirror
abbrev pub is_device_access : Op → Bool
is_device_access (Op.DeviceLoad m a n) = true
is_device_access (Op.DeviceStore m a bs) = true
is_device_access o = false

-- the access has a piece of this number
abbrev pub has_piece : Op → ℕ → Bool
has_piece o k = nat_lt k (length (op_pieces o))

-- operations that take the mmap lock for writing, since they change areas or processes
abbrev pub takes_lock : Op → Bool
takes_lock (Op.Map p r w) = true
takes_lock (Op.Unmap p r) = true
takes_lock (Op.Protect p r w) = true
takes_lock (Op.Exit p) = true
takes_lock (Op.Fork p c) = true
takes_lock o = false

-- a detach
abbrev pub is_detach : Op → Bool
is_detach (Op.Detach m) = true
is_detach o = false

-- a snapshot
abbrev pub is_snap : Op → Bool
is_snap (Op.Snap m r) = true
is_snap o = false

-- an attach
abbrev pub is_attach : Op → Bool
is_attach (Op.Attach m d p r) = true
is_attach o = false

-- the operation takes a page for its actor alone
abbrev pub takes_exclusive : Op → Bool
takes_exclusive (Op.Exclusive m v) = true
takes_exclusive (Op.Add m a n) = true
takes_exclusive o = false

-- an atomic addition through a mirror
abbrev pub is_add : Op → Bool
is_add (Op.Add m a n) = true
is_add o = false

-- operations whose first turn looks at the process, or at the mirror
abbrev pub begins : Op → Bool
begins o = takes_lock o || (is_attach o || (is_detach o || (is_snap o || (is_migration o || is_exclusive_op o))))

-- a fork
abbrev pub is_fork : Op → Bool
is_fork (Op.Fork p c) = true
is_fork o = false

-- operations that take pages away
abbrev pub zaps : Op → Bool
zaps (Op.Unmap p r) = true
zaps (Op.Exit p) = true
zaps o = false

-- a protection that takes the write right away
abbrev pub narrows : Op → Bool
narrows (Op.Protect p r Rights.Read) = true
narrows o = false

-- a protection that gives the write right
abbrev pub widens : Op → Bool
widens (Op.Protect p r Rights.ReadWrite) = true
widens o = false

-- the pages that the operation's guard spans
abbrev pub op_span : Op → Pages
op_span (Op.Unmap p r) = r
op_span (Op.Protect p r w) = r
op_span o = all_pages

-- the page of a piece
abbrev pub at_page : Op → ℕ → ℕ
at_page o k = page_of (op_piece o k).0

-- a place that the CPU can read, or an empty one
abbrev pub is_core : Place → Bool
is_core Place.Empty = true
is_core Place.Zero = true
is_core (Place.Sys n w) = true
is_core x = false

-- the frame is the system's
abbrev pub of_system : Frame → Bool
of_system f = same_pool f.pool PoolId.System

-- the place is the zero page
abbrev pub is_zero_place : Place → Bool
is_zero_place Place.Zero = true
is_zero_place x = false
