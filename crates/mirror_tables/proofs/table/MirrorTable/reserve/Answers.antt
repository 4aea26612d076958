use Rattle.mirror_tables.proofs.Changes.{reserved_table, reserved_rooms}
use Rattle.mirror_tables.proofs.table.MirrorTable.reserve.Goals as goal

pub returns-clause-table : goal.returns-clause-table
returns-clause-table c = reserved_table c.reserve_in.result c.self.inside.window _ c.self.inside.blocks.items c.reserve_in.new.blocks.items _ c.self.view_is c.reserve_in.ensures

pub returns-clause-more : goal.returns-clause-more
returns-clause-more c = reserved_rooms c.reserve_in.result c.self.inside.window _ c.self.inside.blocks.items c.reserve_in.new.blocks.items _ c.self.view_is c.reserve_in.ensures
