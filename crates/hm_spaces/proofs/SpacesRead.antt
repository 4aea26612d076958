-- What is read of the processes and locks is what the state has.
use Rattle.std.proofs.Common.{◌≡◌, ℕ, ◌&&◌, ◌==◌, not, Bool, List, ap, arith}
use Rattle.hm_base.specs.declared.area.Area.{Area}
use Rattle.hm_history.specs.Memory.Locks.{Locks, writer, lowest_other, lock_passes}
use Rattle.hm_spaces.specs.Spaces.{SpacesValue, SpacesShown, locks_of}
use Rattle.hm_spaces.specs.Holders.{is_writer, is_other}
use Rattle.hm_spaces.proofs.Least.{least_same}

pub writer_shown : (s : Locks) (there named : ℕ → Bool) (areas : ℕ → List Area) (x : SpacesValue) (p : ℕ) → SpacesShown there named areas s.map x → writer (locks_of x) p ≡ writer s p
writer_shown s there named areas x p h = least_same (is_writer x.map_locks p) (λ a. lock_passes (λ y. (y.proc == p) && y.writes) (s.map a)) 0 16 (λ a l. ap (lock_passes (λ y. (y.proc == p) && y.writes)) (h.map_at a (omega arith)))

pub lowest_other_shown : (s : Locks) (there named : ℕ → Bool) (areas : ℕ → List Area) (x : SpacesValue) (p b : ℕ) → SpacesShown there named areas s.map x → lowest_other (locks_of x) p b ≡ lowest_other s p b
lowest_other_shown s there named areas x p b h =
    least_same (is_other x.map_locks p b) (λ a. not (a == b) && lock_passes (λ y. y.proc == p) (s.map a)) 0 16
    (λ a l. ap (λ y. not (a == b) && lock_passes (λ z. z.proc == p) y) (h.map_at a (omega arith)))
