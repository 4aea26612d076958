use Rattle.std.proofs.Common.{◌≡◌, ◌+◌, ◌++◌, ℕ, List, length, take}
use Rattle.hm_report.proofs.digits.put_bytes.Given as goal

-- the bytes so far stand after those before them
pub record SoFar (before now bytes : List ℕ) (at end count : ℕ) : Type 0 where
  pub text : take end now ≡ take at before ++ take count bytes
  pub reached : end ≡ at + count
  pub len : length now ≡ length before

abbrev pub invariant-loop-byte : goal.invariant-loop-byte
invariant-loop-byte l = SoFar l.fn.block l.block l.bytes l.at l.end l.byte-index
