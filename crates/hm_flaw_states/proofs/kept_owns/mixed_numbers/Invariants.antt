use Rattle.std.proofs.Common.{◌≡◌}
use Rattle.hm_flaw_states.specs.Owns.{seq_in}
use Rattle.hm_flaw_states.specs.Buckets.{mixed_numbers}
use Rattle.hm_flaw_states.proofs.kept_owns.mixed_numbers.Given as goal

abbrev pub invariant-loop-at : goal.invariant-loop-at
invariant-loop-at l = l.total ≡ mixed_numbers l.sum l.at (seq_in l.numbers)
