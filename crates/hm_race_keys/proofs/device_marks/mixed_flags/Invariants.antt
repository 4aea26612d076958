use Rattle.std.proofs.Common.{◌≡◌, drop}
use Rattle.hm_race_keys.specs.Arrays.{mixed_flags}
use Rattle.hm_race_keys.proofs.device_marks.mixed_flags.Given as goal

abbrev pub invariant-loop-flag : goal.invariant-loop-flag
invariant-loop-flag l = mixed_flags l.total (drop l.flag-index l.flags) ≡ mixed_flags l.sum l.flags
