-- Who else has an mmap lock, as actors find it.
use Rattle.std.proofs.Common.{◌≡◌, ℕ, Bool, true, false, not, ◌&&◌, ◌==◌, if◌then◌else◌, Option, Some, None, refl, ap}
use Rattle.hm_base.specs.Program.{Program}
use Rattle.hm_history.specs.Memory.Locks.{lock_passes, lowest_other}
use Rattle.hm_history.specs.Kernel.Going.{State}
use Rattle.hm_history.specs.declared.locks.MapLock.{MapLock}
use Rattle.hm_linux.specs.declared.variant.Variant.{Variant}
use Rattle.hm_linux.specs.UnmapLetsIn.{for_reading, map_left}
use Rattle.hm_linux.specs.Instead.{locks_found}
use Rattle.hm_spaces.proofs.Least.{least_same}

on_same : (b : Bool) (p : ℕ) (x : Option MapLock) → lock_passes (λ z. z.proc == p) x ≡ lock_passes (λ z. z.proc == p) (for_reading b x)
on_same b p None = refl
on_same b p (Some z) = refl

pub other_same : (l : Variant) (c : Program) (u : State) (p b : ℕ) → lowest_other u.after.locks p b ≡ lowest_other (locks_found l c u) p b
other_same l c u p b =
    least_same (λ a. not (a == b) && lock_passes (λ z. z.proc == p) (u.after.locks.map a)) (λ a. not (a == b) && lock_passes (λ z. z.proc == p) ((locks_found l c u).map a)) 0 16 (λ a m. ap (λ (t : Bool). not (a == b) && t) (by a l.unmap_lets_in))
  where
    by : (a : ℕ) (t : Bool) → lock_passes (λ z. z.proc == p) (u.after.locks.map a) ≡ lock_passes (λ z. z.proc == p) ((if t then map_left c u else u.after.locks.map) a)
    by a true = on_same _ p (u.after.locks.map a)
    by a false = refl
