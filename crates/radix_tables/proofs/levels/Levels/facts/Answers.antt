use Rattle.std.proofs.Common.{◌+◌, ◌*◌, ◌/◌, ◌%◌}
use Rattle.radix_tables.specs.Levels.{from_second}
use Rattle.radix_tables.specs.Walks.{table_in}
use Rattle.radix_tables.proofs.levels.Levels.facts.Goals as goal

pub returns : goal.returns
returns c v = c.facts.ensures (table_in (from_second c.args.self.now) (v / 64) * 64 + v % 64)
