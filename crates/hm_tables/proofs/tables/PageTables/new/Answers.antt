use Rattle.hm_tables.proofs.Starts.{started}
use Rattle.hm_tables.proofs.tables.PageTables.new.Goals as goal

pub invariant_of-result : goal.invariant_of-result
invariant_of-result c = started c.args.script.now _ _ c.in_ok-tables.ensures c.in_ok-pools.ensures
