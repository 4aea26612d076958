use Rattle.std.proofs.Common.{◌≡◌, ℕ, ◌<◌}
use Rattle.hm_flaw_states.specs.Guards.{guards_in}
use Rattle.hm_flaw_states.proofs.guards.same_guards.Given as goal

abbrev pub invariant-loop-at : goal.invariant-loop-at
invariant-loop-at l = (a : ℕ) → a < l.at → guards_in l.one a ≡ guards_in l.other a
