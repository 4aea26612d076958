use Rattle.std.proofs.Common.{take}
use Rattle.hm_flaw_search.specs.Unused.{KnownTurnAlike}
use Rattle.hm_flaw_search.proofs.race.FlawRace.known_turn_alike.Given as goal

-- turns at the states so far are alike
abbrev pub invariant-loop-state : goal.invariant-loop-state
invariant-loop-state l = KnownTurnAlike l.self.flaw l.self.script (take l.state-index l.known)
