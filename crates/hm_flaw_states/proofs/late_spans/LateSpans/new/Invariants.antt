use Rattle.std.proofs.Common.{◌≡◌, ℕ, [], length}
use Rattle.hm_flaw_states.specs.LateSpans.{late_in}
use Rattle.hm_flaw_states.proofs.late_spans.LateSpans.new.Given as goal

abbrev pub invariant-loop : goal.invariant-loop
invariant-loop l = record {
  len : length l.of_actors.items ≡ l.counter;
  none : (a : ℕ) → late_in l.of_actors.items a ≡ [];
}
