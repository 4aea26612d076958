use Rattle.std.proofs.Common.{◌≡◌, ℕ, ◌<◌, None}
use Rattle.hm_history.specs.Kernel.Going.{op_at}
use Rattle.hm_race_states.specs.States.{state_in}
use Rattle.hm_race_top.proofs.run.keys.has_ended.Given as goal

abbrev pub invariant-loop-number : goal.invariant-loop-number
invariant-loop-number l = (a : ℕ) → a < l.number → op_at l.script a ((state_in l.state).going a).index ≡ None
