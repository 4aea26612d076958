use Rattle.std.proofs.Common.{◌≤◌}
use Rattle.mirror_tables.specs.Directory.{IsErased}
use Rattle.mirror_tables.proofs.table.erase_blocks.Given as goal

abbrev pub invariant-loop-at : goal.invariant-loop-at
invariant-loop-at l = record { erased : IsErased l.span l.from l.at l.initial.blocks.items l.blocks.items; order : l.at ≤ l.upto }
