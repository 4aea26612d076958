use Rattle.std.proofs.Common.{◌≡◌, ℕ, ◌<◌, length}
use Rattle.hm_flaw_states.specs.LateSpans.{late_in}
use Rattle.hm_flaw_states.proofs.late_spans.LateSpans.copy.Given as goal

abbrev pub invariant-loop-own : goal.invariant-loop-own
invariant-loop-own l = record {
  len : length l.of_actors.items ≡ l.own-index;
  same : (a : ℕ) → a < l.own-index → late_in l.of_actors.items a ≡ late_in l.self.of_actors.items a;
}
