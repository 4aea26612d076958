use Rattle.std.proofs.Common.{◌≡◌, ℕ, ◌-◌, ◌≤◌, ◌&&◌, nat_le, nat_lt, None, if◌then◌else◌}
use Rattle.hm_folds.specs.TableMap.{entry_in}
use Rattle.hm_folds.proofs.table_map.TableMap.erase.Given as goal

abbrev pub invariant-loop-next : goal.invariant-loop-next
invariant-loop-next l = record {
  above : l.fn.from ≤ l.at;
  within : l.at ≤ l.end;
  erased : (v : ℕ) → entry_in l.self v ≡ (if nat_le l.fn.from v && nat_lt v l.at then None else entry_in l.fn.self v);
}

abbrev pub decreases-loop-next : goal.decreases-loop-next
decreases-loop-next l = l.end - l.at
