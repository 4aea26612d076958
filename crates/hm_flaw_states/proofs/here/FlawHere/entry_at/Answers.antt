use Rattle.std.proofs.Common.{sym, subst, arith}
use Rattle.hm_history.specs.Memory.Words.{page_of}
use Rattle.hm_history.proofs.Pages.{address_past}
use Rattle.hm_flaw_states.specs.OwnTables.{AreOfPages}
use Rattle.hm_flaw_states.proofs.Past.{table_past}
use Rattle.hm_flaw_states.proofs.here.FlawHere.entry_at.Goals as goal

pub returns-then-addr : goal.returns-then-addr
returns-then-addr c = sym (table_past c.args.self.now.state.now.tables.value (subst AreOfPages c.deref.ensures c.facts.ensures) c.args.mirror (page_of c.args.addr) (address_past c.args.addr (omega (arith, c.if-addr.true))))
