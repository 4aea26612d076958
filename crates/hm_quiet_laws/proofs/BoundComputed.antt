-- The bound along runs of one actor, computed: it is at most `quiet_bound` where an operation begins, and falls at each entry.
use Rattle.std.specs.Prelude.{◌≡◌, ℕ, zero, suc, Bool, true, false, ◌&&◌, ◌==◌, nat_lt, nat_le, if◌then◌else◌, Option, Some, None, [], ◌∷◌, refl}
use Rattle.hm_base.specs.Program.{Program}
use Rattle.hm_base.specs.declared.ops.Version.{Version}
use Rattle.hm_base.specs.declared.ops.Rights.{Rights}
use Rattle.hm_base.specs.declared.ops.Op.{Op}
use Rattle.hm_base.specs.declared.ops.ScheduleLine.{ScheduleLine}
use Rattle.hm_history.specs.Kernel.Quiet.{quiet_bound}
use Rattle.hm_history.specs.Kernel.Going.{State, op_at, state_start, state_next}
use Rattle.hm_history.specs.Kernel.Due.{due_in}
use Rattle.hm_history.specs.declared.Entry.{Entry}
use Rattle.hm_history.specs.declared.Progress.{Progress}
use Rattle.hm_quiet_laws.proofs.measure.Left.{left}

abbrev left_of : Program → State → ℕ → Option Op → ℕ
left_of c u i None = 0
left_of c u i (Some o) = if i == (u.going 0).index then left c u.after 0 o (u.going 0).pages (u.going 0).stack else 0

abbrev bounded : Program → ℕ → Option Op → Bool
bounded c n None = true
bounded c n (Some o) = nat_le n (quiet_bound c o)

abbrev step_falls : Program → State → Entry → Bool
step_falls c u e = let i = (u.going 0).index in let n = left_of c u i (op_at c 0 i) in
    nat_lt (left_of c (state_next c u e) i (op_at c 0 i)) n && bounded c n (op_at c 0 i)

-- so many entries, each of which lowers it, and then idle
abbrev falls_along : Program → State → ℕ → Bool
falls_along c u zero = false
falls_along c u (suc n) = elim (due_in c u 0) [
  | Progress.Did e ↦ step_falls c u e && falls_along c (state_next c u e) n
  | Progress.Waiting why ↦ false
  | Progress.Idle ↦ true
]

abbrev script : Program
script = record {
  version = Version.Two;
  frames = 12;
  devices = 4 ∷ 4 ∷ [];
  skip = 0;
  actors = (Op.Map 0 (record { first = 16; count = 2 }) Rights.ReadWrite ∷
      Op.Attach 0 0 0 (record { first = 16; count = 2 }) ∷ Op.Attach 1 1 0 (record { first = 16; count = 1 }) ∷
      Op.Store 0 0x10fff (1 ∷ 2 ∷ []) ∷ Op.ToDevice 0 (record { first = 16; count = 2 }) ∷ Op.Fork 0 1 ∷ Op.DeviceStore 1 0x10000 (3 ∷ []) ∷
      Op.Attach 2 0 1 (record { first = 16; count = 2 }) ∷ Op.DeviceLoad 2 0x11000 1 ∷ Op.Store 1 0x11000 (4 ∷ []) ∷
      Op.ToDevice 0 (record { first = 16; count = 2 }) ∷ Op.Exclusive 1 16 ∷ Op.Add 0 0x10000 5 ∷ Op.Load 0 0x10000 1 ∷
      Op.ToDevice 0 (record { first = 16; count = 2 }) ∷ Op.Fork 0 2 ∷ Op.ToSystem 0 (record { first = 16; count = 1 }) ∷ Op.Evict 0 ∷
      Op.ToDevice 2 (record { first = 16; count = 2 }) ∷ Op.Snap 2 (record { first = 16; count = 2 }) ∷ Op.Remove 0 ∷
      Op.Protect 0 (record { first = 16; count = 2 }) Rights.Read ∷ Op.Unmap 0 (record { first = 17; count = 1 }) ∷ Op.Exit 0 ∷ Op.Detach 0 ∷ Op.Exit 1 ∷ []) ∷ [];
  schedule = ScheduleLine.Drain ∷ [];
}

tried : falls_along script (state_start script) 400 ≡ true
tried = refl
