use Rattle.hm_report_reading.proofs.Reports.{text_is_report}
use Rattle.hm_report_reading.proofs.laws.report_text.Goals as goal

pub returns : goal.returns
returns c = text_is_report
