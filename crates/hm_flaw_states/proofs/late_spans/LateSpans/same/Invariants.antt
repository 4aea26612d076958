use Rattle.std.proofs.Common.{◌≡◌, ℕ, ◌<◌}
use Rattle.hm_flaw_states.specs.LateSpans.{late_in}
use Rattle.hm_flaw_states.proofs.late_spans.LateSpans.same.Given as goal

abbrev pub invariant-loop-number : goal.invariant-loop-number
invariant-loop-number l = (a : ℕ) → a < l.number → late_in l.self.of_actors.items a ≡ late_in l.other.of_actors.items a
