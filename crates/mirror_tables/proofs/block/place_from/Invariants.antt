use Rattle.std.proofs.Common.{ℕ, ◌-◌, ◌<◌, ◌≤◌, length, get_or}
use Rattle.mirror_tables.specs.Blocks.{keys}
use Rattle.mirror_tables.proofs.block.place_from.Given as goal

abbrev pub invariant-loop-at : goal.invariant-loop-at
invariant-loop-at l = record {
  within : l.at ≤ length l.entries;
  below : (k : ℕ) → k < l.at → get_or (keys l.entries) k 0 < l.page;
}

abbrev pub decreases-loop-at : goal.decreases-loop-at
decreases-loop-at l = length l.entries - l.at
