use Rattle.std.proofs.Common.{◌≡◌, drop}
use Rattle.hm_race_keys.specs.Answers.{mixed_bytes}
use Rattle.hm_race_keys.proofs.shared_answers.mixed_bytes.Given as goal

abbrev pub invariant-loop-byte : goal.invariant-loop-byte
invariant-loop-byte l = mixed_bytes l.total (drop l.byte-index l.bytes) ≡ mixed_bytes l.sum l.bytes
