use Rattle.std.proofs.Common.{sym, arith}
use Rattle.hm_history.specs.Memory.Words.{page_of}
use Rattle.hm_history.proofs.Pages.{address_past}
use Rattle.hm_flaw_states.proofs.here.FlawHere.place_at.Goals as goal

pub returns-then-addr : goal.returns-then-addr
returns-then-addr c = sym (c.none_past.ensures c.args.proc (page_of c.args.addr) (address_past c.args.addr (omega (arith, c.if-addr.true))))
