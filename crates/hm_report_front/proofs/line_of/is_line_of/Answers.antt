use Rattle.hm_report_front.proofs.Hex.{line_ends, line_begins}
use Rattle.hm_report_front.proofs.line_of.is_line_of.Goals as goal

pub returns-in-Some : goal.returns-in-Some
returns-in-Some c = line_ends c.args.line.now c.as_slice.result.now c.in-Some.end.now c.args.at c.args.entry.now c.is_end.result (cc) c.in-Some.ensures c.is_end.ensures

pub returns-in-None : goal.returns-in-None
returns-in-None c = line_begins c.args.line.now c.as_slice.result.now c.args.at c.args.entry.now (cc) c.in-None.ensures
