use Rattle.std.proofs.Common.{◌≡◌, ℕ, ◌<◌}
use Rattle.hm_race_keys.specs.Arrays.{flag_in}
use Rattle.hm_flaw_parts.proofs.marks.same_short.Given as goal

abbrev pub invariant-loop-at : goal.invariant-loop-at
invariant-loop-at l = (a : ℕ) → a < l.at → flag_in l.one a ≡ flag_in l.other a
