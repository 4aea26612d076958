use Rattle.std.proofs.Common.{◌≡◌, take}
use Rattle.hm_base.proofs.bytes.Few.of.Given as goal

-- the bytes so far
abbrev pub invariant-loop-byte : goal.invariant-loop-byte
invariant-loop-byte l = l.few ≡ take l.byte-index l.from
