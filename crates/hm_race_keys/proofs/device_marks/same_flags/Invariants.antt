use Rattle.std.proofs.Common.{◌≡◌, ℕ, ◌<◌}
use Rattle.hm_race_keys.specs.Arrays.{flag_in}
use Rattle.hm_race_keys.proofs.device_marks.same_flags.Given as goal

abbrev pub invariant-loop-at : goal.invariant-loop-at
invariant-loop-at l = (d : ℕ) → d < l.at → flag_in l.one d ≡ flag_in l.other d
