use Rattle.hm_tables.proofs.TablesKept.{still_sound}
use Rattle.hm_tables.proofs.tables.PageTables.give_back.Goals as goal

pub invariant_of-self : goal.invariant_of-self
invariant_of-self c = still_sound _ c.args.proc _ c.self.invariant c.give_back.ensures.range c.give_back.ensures.tables
