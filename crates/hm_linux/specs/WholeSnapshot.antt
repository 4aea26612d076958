-- whole-snapshot: a snapshot begins inside no invalidation, and is repeated if one of its pages has begun since.
use Rattle.std.specs.Prelude.{ℕ, Bool, false, not, ◌&&◌, ◌||◌, ◌==◌, nat_lt, if◌then◌else◌, Option, Some}
use Rattle.std.specs.Prelude.{List, [], ◌∷◌}
use Rattle.hm_base.specs.Pages.{overlap}
use Rattle.hm_base.specs.Program.{Program}
use Rattle.hm_base.specs.declared.ops.Op.{Op}
use Rattle.hm_history.specs.Memory.Plain.{mirror_proc}
use Rattle.hm_history.specs.Memory.After.{After}
use Rattle.hm_history.specs.Kernel.Operation.{op_mirror}
use Rattle.hm_history.specs.Kernel.Going.{Going, op_at, going_on}
use Rattle.hm_history.specs.declared.Kind.{Kind}
use Rattle.hm_history.specs.declared.Why.{Why}
use Rattle.hm_history.specs.declared.phases.Phase.{Phase}
use Rattle.hm_history.specs.declared.phases.Next.{Next}
use Rattle.hm_history.specs.declared.phases.Next.TheVariants.{Do, Wait}
use Rattle.hm_linux.specs.Noted.{Noted, Varied}

-- ---- what is due

-- the lock of a snapshot is taken once nobody invalidates its process
abbrev pub begins_snap : After → Op → Next → Next
begins_snap s (Op.Snap m r) (Do (Kind.Rlock p)) =
    if nat_lt 0 (s.sequences.active p) then Wait (Why.Invalidating m (s.sequences.seq p)) else Do (Kind.Rlock p)
begins_snap s o next = next

-- after the last page an invalidation that met the snapshot makes it a retry
abbrev pub ends_snap : Noted → ℕ → Op → Next → Next
ends_snap n a o (Do (Kind.Runlock p)) = if n.torn a then Do (Kind.Retry (op_mirror o)) else Do (Kind.Runlock p)
ends_snap n a o next = next

-- ---- where it leads

-- such a retry begins the snapshot anew; i is the operation's number, and g where the definitions lead
abbrev pub led_anew : Program → ℕ → ℕ → List Phase → Kind → Going → Going
led_anew c a i (Phase.Pages v ∷ below) (Kind.Retry m) g = going_on c a i (Phase.Begin ∷ []) []
led_anew c a i before k g = g

-- ---- what is noted

-- the entry starts an invalidation of pages of this snapshot, which is under way
abbrev pub tears : After → Kind → Option Op → List Phase → Bool
tears s (Kind.Start p r q) (Some (Op.Snap m e)) (Phase.Pages v ∷ below) = (mirror_proc s.plain m == p) && overlap r e
tears s k o stack = false

-- the snapshot of actor b is torn after an entry of actor a; that of a begins with its lock
abbrev pub torn_after : Program → Varied → ℕ → Kind → ℕ → Bool
torn_after c t a (Kind.Rlock p) b = not (a == b) && t.noted.torn b
torn_after c t a k b =
    t.noted.torn b || tears t.state.after k (op_at c b (t.state.going b).index) (t.state.going b).stack
