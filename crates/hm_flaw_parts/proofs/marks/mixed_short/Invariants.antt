use Rattle.std.proofs.Common.{◌≡◌}
use Rattle.hm_race_keys.specs.Arrays.{flag_in}
use Rattle.hm_flaw_parts.specs.Buckets.{mixed_short}
use Rattle.hm_flaw_parts.proofs.marks.mixed_short.Given as goal

abbrev pub invariant-loop-at : goal.invariant-loop-at
invariant-loop-at l = l.total ≡ mixed_short l.sum l.at (flag_in l.short)
