use Rattle.std.proofs.Common.{◌≡◌, ℕ, ◌<◌, length}
use Rattle.hm_flaw_states.specs.Guards.{guards_in}
use Rattle.hm_flaw_states.proofs.guards.ActorGuards.copy.Given as goal

abbrev pub invariant-loop-at : goal.invariant-loop-at
invariant-loop-at l = record {
  len : length l.guards.items ≡ l.at;
  same : (a : ℕ) → a < l.at → guards_in l.guards.items a ≡ guards_in l.self.guards.items a;
}
