use Rattle.std.proofs.Common.{◌≡◌, ℕ, ◌<◌, None}
use Rattle.hm_history.specs.Kernel.Going.{op_at}
use Rattle.hm_flaw_states.specs.Keyed.{form_in}
use Rattle.hm_flaw_search.proofs.race.FlawRace.have_ended.Given as goal

-- none of the actors so far has an operation left
abbrev pub invariant-loop-number : goal.invariant-loop-number
invariant-loop-number l = (a : ℕ) → a < l.number → op_at l.self.script a ((form_in l.key).flawed.state.going a).index ≡ None
