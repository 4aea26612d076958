use Rattle.std.proofs.Common.{refl, arith}
use Rattle.hm_flaw_states.specs.Owns.{driver_in}
use Rattle.hm_flaw_states.proofs.Past.{target_past}
use Rattle.hm_flaw_states.proofs.owns.Own.target.Goals as goal

pub returns-then-addr : goal.returns-then-addr
returns-then-addr c = target_past (driver_in c.args.self.now) c.args.self.now.table c.args.mirror c.args.addr refl c.facts.ensures (omega (arith, c.if-addr.true))
