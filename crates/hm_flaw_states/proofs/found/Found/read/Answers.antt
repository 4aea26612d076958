use Rattle.std.proofs.Common.{◌+◌, ◌%◌, refl, arith}
use Rattle.hm_flaws.specs.Drivers.{target_at}
use Rattle.hm_flaw_states.specs.Owns.{driver_in}
use Rattle.hm_flaw_states.proofs.Past.{byte_past, target_past}
use Rattle.hm_flaw_states.proofs.found.Found.read.Goals as goal

pub returns-in-None : goal.returns-in-None
returns-in-None g c =
    let x = driver_in c.args.self.now.own.now in
    let at = c.args.addr + c.args.number in
    byte_past x.contents (target_at x c.args.mirror at) (at % 4096) (target_past x c.args.self.now.own.now.table c.args.mirror at refl c.facts.ensures (omega (arith, c.in-None.ensures)))
