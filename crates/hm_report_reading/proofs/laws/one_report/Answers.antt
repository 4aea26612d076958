use Rattle.hm_report_reading.proofs.Exact.{one_text_of}
use Rattle.hm_report_reading.proofs.laws.one_report.Goals as goal

pub returns : goal.returns
returns c = one_text_of c.one_text.ensures
