use Rattle.hm_report_reading.proofs.LineAgain.{one_entry}
use Rattle.hm_report_reading.proofs.laws.one_line.Goals as goal

pub returns : goal.returns
returns c = one_entry
