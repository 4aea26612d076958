use Rattle.std.proofs.Common.{◌≡◌, ◌+◌, ◌≤◌, length, replicate, ◌++◌}
use Rattle.std.specs.Prelude.{vec_capacity}
use Rattle.mirror_tables.specs.Blocks.{empty_block}
use Rattle.mirror_tables.proofs.table.grow.Given as goal

abbrev pub invariant-loop-block : goal.invariant-loop-block
invariant-loop-block l = record {
  items : l.blocks.items ≡ l.initial.blocks.items ++ replicate l._block empty_block;
  room : length l.initial.blocks.items + l.more ≤ vec_capacity l.blocks;
}
