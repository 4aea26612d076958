-- After a history where every operation has ended, nobody has an mmap lock for writing.
use Rattle.std.proofs.Common.{◌≡◌, ℕ, ◌+◌, ◌==◌, ◌&&◌, Bool, Option, None, List, [], ap}
use Rattle.hm_base.specs.Program.{Program, IsScript}
use Rattle.hm_history.specs.Memory.After.{after}
use Rattle.hm_history.specs.Kernel.Going.{op_at, state_of}
use Rattle.hm_history.specs.Laws.{DueFrom}
use Rattle.hm_history.specs.Memory.Locks.{lock_passes, writer}
use Rattle.hm_history.specs.declared.Entry.{Entry}
use Rattle.hm_history.specs.declared.locks.MapLock.{MapLock}
use Rattle.hm_laws.specs.Stands.{Stands}
use Rattle.hm_laws.proofs.Histories.Stands.{history_stands, idle_lock}
use Rattle.hm_history.proofs.Least.{none_least}

pub nobody_writes : (c : Program) → IsScript c → (h : List Entry) → DueFrom c [] h → ((a : ℕ) → op_at c a ((state_of c h).going a).index ≡ None) → (p : ℕ) → writer (after h).locks p ≡ None
nobody_writes c script h due ended p =
    let stands : Stands c h = history_stands c script h due in
    none_least (λ a. passes ((after h).locks.map a)) (λ a. ap passes (idle_lock c (after h) stands.past a ((state_of c h).going a) (ended a) (stands.known a))) 0 16
  where
    passes : Option MapLock → Bool
    passes x = lock_passes (λ l. (l.proc == p) && l.writes) x
