use Rattle.std.proofs.Common.{◌≡◌, ℕ, ◌+◌, ◌<◌, true, length, take}
use Rattle.hm_history.specs.Memory.Plain.{with_bytes}
use Rattle.hm_folds.specs.Stored.{byte_in, has_byte}
use Rattle.hm_folds.proofs.stored.Stored.write.Given as goal

abbrev pub invariant-loop-number : goal.invariant-loop-number
invariant-loop-number l = record {
  written : (a : ℕ) → byte_in l.self a ≡ with_bytes (byte_in l.fn.self) l.addr (take l.number l.bytes) a;
  there : (k : ℕ) → k < length l.bytes → has_byte l.self (l.addr + k) ≡ true;
}
