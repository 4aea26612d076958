use Rattle.radix_tables.proofs.Made.{made_then}
use Rattle.radix_tables.proofs.levels.Levels.make_room.Goals as goal

pub returns : goal.returns
returns c = made_then c.args.self.now c.make_tables.new.self _ c.args.page c.make_row.result c.in_ok-make_tables.ensures.same c.make_row.ensures
