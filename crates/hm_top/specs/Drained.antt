-- What a `drain` leaves: no actor has an operation left.
use Rattle.std.specs.Prelude.{◌≡◌, ℕ, true, None, List}
use Rattle.hm_base.specs.Program.{Program}
use Rattle.hm_history.specs.Kernel.Due.{due}
use Rattle.hm_history.specs.Kernel.Going.{op_at, state_of}
use Rattle.hm_history.specs.declared.Entry.{Entry}
use Rattle.hm_history.specs.declared.Progress.{Progress}
use Rattle.hm_script.specs.Built.{has_drain}

-- the actor's operations have all ended, and it is idle
abbrev pub IsDone : Program → List Entry → ℕ → Type 0
IsDone c h a = (op_at c a ((state_of c h).going a).index ≡ None) × (due c h a ≡ Progress.Idle)

-- if the schedule has a `drain`, which is its last line, every actor is done after the history
abbrev pub IsDrained : Program → List Entry → Type 0
IsDrained s h = has_drain s.schedule ≡ true → (a : ℕ) → IsDone s h a
