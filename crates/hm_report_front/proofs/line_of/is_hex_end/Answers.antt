use Rattle.hm_report_front.proofs.Hex.{hex_end}
use Rattle.hm_report_front.proofs.line_of.is_hex_end.Goals as goal

pub returns-in-Some-strip_hex : goal.returns-in-Some-strip_hex
returns-in-Some-strip_hex c = hex_end c.args.text.now c.in-Some.digits.now c.in-Some-strip_hex.rest.now c.args.bytes.now c.as_slice.result.now c.eq.result (cc) c.in-Some.ensures c.in-Some-strip_hex.ensures c.eq.ensures
