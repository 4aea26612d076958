use Rattle.std.proofs.Common.{refl}
use Rattle.radix_tables.proofs.Made.{row_there}
use Rattle.radix_tables.proofs.levels.Levels.make_row.Goals as goal

pub returns : goal.returns
returns c = row_there c.args.self.now _ c.args.page c.place_of-at.result c.requires.levels c.requires.table c.place_of-at.ensures refl refl refl c.reserve.ensures.items c.in_ok-reserve.ensures.room
