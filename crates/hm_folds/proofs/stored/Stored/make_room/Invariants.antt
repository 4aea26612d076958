use Rattle.std.proofs.Common.{◌≡◌, ℕ, ◌+◌, ◌<◌, true}
use Rattle.hm_folds.specs.Stored.{byte_in, has_byte}
use Rattle.hm_folds.proofs.stored.Stored.make_room.Given as goal

abbrev pub invariant-loop-number : goal.invariant-loop-number
invariant-loop-number l = record {
  same : (a : ℕ) → byte_in l.self a ≡ byte_in l.fn.self a;
  there : (k : ℕ) → k < l.number → has_byte l.self (l.addr + k) ≡ true;
}
