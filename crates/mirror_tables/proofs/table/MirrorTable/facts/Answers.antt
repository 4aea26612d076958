use Rattle.std.proofs.Common.{subst}
use Rattle.mirror_tables.specs.Entries.{IsTable}
use Rattle.mirror_tables.proofs.Whole.{is_table}
use Rattle.mirror_tables.proofs.table.MirrorTable.facts.Goals as goal

pub returns : goal.returns
returns c = subst (λ t. IsTable t.window t.entries) c.self.view_is (is_table c.self.inside.window c.self.inside.blocks.items c.self.invariant)
