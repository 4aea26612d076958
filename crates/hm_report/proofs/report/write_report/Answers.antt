use Rattle.hm_history.proofs.RunLemmas.{legal_due}
use Rattle.std.specs.Prelude.{[]}
use Rattle.hm_report.specs.Report.{first_unended}
use Rattle.hm_report.specs.Counted.{counted, EndsAreCounted}
use Rattle.hm_report.proofs.Lines.{report_same}
use Rattle.hm_report.proofs.report.write_report.Goals as goal

pub returns-clause-text : goal.returns-clause-text
returns-clause-text g c =
    let script = c.args.script.now in
    let h = c.args.history.now.entries in
    let ends : EndsAreCounted script h = c.ends_are_counted.ensures script h (legal_due script [] h c.requires) in
    rw (report_same script h (first_unended script h) (counted script h) ends) c.write_counted.ensures.text
