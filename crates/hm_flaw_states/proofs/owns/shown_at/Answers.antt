use Rattle.std.proofs.Common.{arith}
use Rattle.hm_flaw_states.proofs.Past.{backing_past}
use Rattle.hm_flaw_states.proofs.owns.shown_at.Goals as goal

pub returns-then-addr : goal.returns-then-addr
returns-then-addr g c = backing_past (g.W.Reads.state c.args.world.now).after.places c.args.proc c.args.addr c.none_past.ensures (omega (arith, c.if-addr.true))
