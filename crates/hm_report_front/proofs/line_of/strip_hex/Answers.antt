use Rattle.hm_report_front.proofs.Hex.{hex_stops}
use Rattle.hm_report_front.proofs.line_of.strip_hex.Goals as goal

pub returns-in-None : goal.returns-in-None
returns-in-None c = λ rest. hex_stops c.args.bytes.now c.loop-byte.rest.now c.args.text.now rest c.loop-byte.byte-index c.loop-byte-test.true c.loop-byte.invariant c.in-None.ensures
