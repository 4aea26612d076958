use Rattle.std.proofs.Common.{◌≡◌, ℕ, ◌<◌, false}
use Rattle.hm_history.specs.Kernel.Run.{is_entry}
use Rattle.hm_flaws.specs.Flawed.{due_by}
use Rattle.hm_flaw_states.specs.Keyed.{form_in}
use Rattle.hm_flaw_search.proofs.race.FlawRace.none_can_go.Given as goal

-- none of the actors so far can go on
abbrev pub invariant-loop-number : goal.invariant-loop-number
invariant-loop-number l = (a : ℕ) → a < l.number → is_entry (due_by l.self.flaw l.self.script (form_in l.key).flawed a) ≡ false
