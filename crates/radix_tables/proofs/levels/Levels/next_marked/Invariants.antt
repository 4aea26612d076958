use Rattle.std.proofs.Common.{◌≡◌, ℕ, ◌-◌, ◌^◌, ◌<◌, ◌≤◌}
use Rattle.radix_tables.specs.Levels.{marked_of}
use Rattle.radix_tables.proofs.levels.Levels.next_marked.Given as goal

abbrev pub invariant-loop-at : goal.invariant-loop-at
invariant-loop-at l = record {
  past : l.page ≤ l.at;
  none : (v : ℕ) → l.page ≤ v → v < l.at → marked_of l.self v ≡ 0;
}

abbrev pub decreases-loop-at : goal.decreases-loop-at
decreases-loop-at l = 2 ^ 36 - l.at
