-- What a state asks of the entry that it goes on by.
use Rattle.std.specs.Prelude.{◌≡◌, ℕ, ◌≤◌, true}
use Rattle.hm_base.specs.Program.{Program}
use Rattle.hm_history.specs.Kernel.Going.{State}
use Rattle.hm_history.specs.Memory.Plain.{plain_accepts}
use Rattle.hm_history.specs.declared.Entry.{Entry}
use Rattle.hm_history.specs.declared.Progress.{Progress}
use Rattle.hm_flaws.specs.Drivers.{Driver}
use Rattle.hm_flaws.specs.Flawed.{due_by}
use Rattle.hm_flaws.specs.declared.flaws.Flaw.{Flaw}
use Rattle.hm_flaw_states.specs.Rooms.{StackStands}
use Rattle.hm_flaw_states.specs.States.{plain_in, state_in}
use Rattle.hm_flaw_states.specs.declared.state.FlawState.{FlawState}

-- the stack of each actor stands
abbrev pub Standing : State → Type 0
Standing u = (a : ℕ) → StackStands u.after.length (u.going a).stack

-- it is due and answers rightly, the stacks before it stand, and one entry more has room
pub record Follows (l : Flaw) (c : Program) (x : FlawState) (d : Driver) (e : Entry) : Type 0 where
  pub is_due : due_by l c (record { state = state_in x; driver = d }) e.actor ≡ Progress.Did e
  pub answers : plain_accepts (plain_in x) e.kind ≡ true
  pub standing : Standing (state_in x)
  pub room : x.entries ≤ 2000000
