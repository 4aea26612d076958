use Rattle.std.proofs.Common.{ℕ, ◌-◌, ◌<◌, ◌≤◌, length, get_or}
use Rattle.mirror_tables.specs.Blocks.{keys}
use Rattle.mirror_tables.proofs.block.place.Given as goal

abbrev pub invariant-loop-low : goal.invariant-loop-low
invariant-loop-low l = record {
  order : l.low ≤ l.high;
  within : l.high ≤ length l.entries;
  below : (k : ℕ) → k < l.low → get_or (keys l.entries) k 0 < l.page;
  from : (k : ℕ) → l.high ≤ k → k < length l.entries → l.page ≤ get_or (keys l.entries) k 0;
}

abbrev pub decreases-loop-low : goal.decreases-loop-low
decreases-loop-low l = l.high - l.low
