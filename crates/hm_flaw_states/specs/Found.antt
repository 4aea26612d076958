-- A state as the actors of a driver with a flaw find it.
use Rattle.std.specs.Prelude.{ℕ, Bool, not, ◌&&◌, ◌==◌, Option}
use Rattle.hm_base.specs.Program.{Program}
use Rattle.hm_history.specs.Memory.Locks.{lock_passes}
use Rattle.hm_history.specs.Kernel.Going.{State}
use Rattle.hm_history.specs.declared.locks.MapLock.{MapLock}
use Rattle.hm_flaws.specs.Drivers.{Driver}
use Rattle.hm_flaws.specs.Flawed.{found_with}
use Rattle.hm_flaws.specs.declared.flaws.Flaw.{Flaw}

-- the state with what the driver has of its own in it
abbrev pub found_in : Flaw → Program → State → Driver → State
found_in l c u x = record { after = found_with l c u x; going = u.going }

-- the actor has the process's mmap lock for writing
abbrev pub is_writer : (ℕ → Option MapLock) → ℕ → ℕ → Bool
is_writer map p a = lock_passes (λ x. (x.proc == p) && x.writes) (map a)

-- the actor is another one, and has the process's mmap lock
abbrev pub is_other : (ℕ → Option MapLock) → ℕ → ℕ → ℕ → Bool
is_other map p b a = not (a == b) && lock_passes (λ x. x.proc == p) (map a)
