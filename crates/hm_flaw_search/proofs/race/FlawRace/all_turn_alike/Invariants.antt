use Rattle.std.proofs.Common.{ℕ, ◌<◌}
use Rattle.hm_flaw_states.specs.Keyed.{form_in}
use Rattle.hm_flaw_search.specs.Alike.{TurnsAlike}
use Rattle.hm_flaw_search.proofs.race.FlawRace.all_turn_alike.Given as goal

-- turns of the actors so far are alike
abbrev pub invariant-loop-number : goal.invariant-loop-number
invariant-loop-number l = (a : ℕ) → a < l.number → TurnsAlike l.self.flaw l.self.script (form_in l.key) a
