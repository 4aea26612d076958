use Rattle.std.proofs.Common.{◌+◌, ◌%◌, arith}
use Rattle.hm_history.specs.Memory.Words.{page_of}
use Rattle.hm_history.specs.Memory.Contents.{backing}
use Rattle.hm_flaw_states.specs.Owns.{driver_in}
use Rattle.hm_flaw_states.proofs.Past.{backing_past, byte_past}
use Rattle.hm_flaw_states.proofs.found.Found.shown.Goals as goal

pub returns-in-None : goal.returns-in-None
returns-in-None g c =
    let t = (g.W.Reads.state c.args.self.now.world.now).after.places in
    let at = c.args.addr + c.args.number in
    byte_past (driver_in c.args.self.now.own.now).contents (backing t (t.place c.args.proc (page_of at))) (at % 4096) (backing_past t c.args.proc at c.none_past.ensures (omega (arith, c.in-None.ensures)))
