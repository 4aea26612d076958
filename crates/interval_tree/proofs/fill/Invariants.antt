use Rattle.std.proofs.Common.{◌≤◌, length}
use Rattle.interval_tree.proofs.fill.Given as goal

abbrev pub invariant-loop-more : goal.invariant-loop-more
invariant-loop-more l = record {
  room : l._more ≤ length l.spare.items;
  kept : length l.initial.spare.items ≤ length l.spare.items;
}
