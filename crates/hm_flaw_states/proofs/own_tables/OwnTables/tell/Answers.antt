use Rattle.std.proofs.Common.{ℕ, ap, ◌∙◌, ◌==◌}
use Rattle.hm_history.specs.Memory.Places.{erased_table}
use Rattle.hm_flaw_states.specs.OwnTables.{table_in}
use Rattle.hm_flaw_states.proofs.own_tables.OwnTables.tell.Goals as goal

pub returns-in-FirstErased : goal.returns-in-FirstErased
returns-in-FirstErased g c = rw c.in-FirstErased.is (c.erase_page.ensures ∙ ap (λ (u : ℕ). erased_table (table_in c.args.self.now) c.args.mirror (λ v. v == u)) c.first_within.ensures)
