use Rattle.std.proofs.Common.{◌≡◌, ℕ, None, length}
use Rattle.hm_flaw_states.specs.Guards.{guards_in}
use Rattle.hm_flaw_states.proofs.guards.ActorGuards.new.Given as goal

abbrev pub invariant-loop : goal.invariant-loop
invariant-loop l = record {
  len : length l.guards.items ≡ l.counter;
  none : (a : ℕ) → guards_in l.guards.items a ≡ None;
}
