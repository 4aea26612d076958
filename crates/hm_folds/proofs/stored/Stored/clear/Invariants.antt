use Rattle.std.proofs.Common.{◌≡◌, ℕ, ◌-◌, ◌≤◌, ◌&&◌, nat_le, nat_lt, if◌then◌else◌}
use Rattle.hm_folds.specs.Stored.{byte_in}
use Rattle.hm_folds.proofs.stored.Stored.clear.Given as goal

abbrev pub invariant-loop-next : goal.invariant-loop-next
invariant-loop-next l = record {
  above : l.fn.from ≤ l.at;
  within : l.at ≤ l.end;
  cleared : (a : ℕ) → byte_in l.self a ≡ (if nat_le l.fn.from a && nat_lt a l.at then 0 else byte_in l.fn.self a);
}

abbrev pub decreases-loop-next : goal.decreases-loop-next
decreases-loop-next l = l.end - l.at
