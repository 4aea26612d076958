use Rattle.hm_report.specs.Report.{report}
use Rattle.hm_top.proofs.Threading.{reported, shown_for}
use Rattle.hm_top.proofs.threads.threads.Goals as goal

pub returns-in-Ok-run_from-clause-does : goal.returns-in-Ok-run_from-clause-does
returns-in-Ok-run_from-clause-does g c =
    let s = c.in-Ok.ensures in
    let r = c.in-Ok-run_from.ensures in
    let e = c.report_run.ensures in
    shown_for report _ _ _ c.in-Ok-run_from.ran c.report_run.result c.in-Ok.script r.script s.text s.faults r.ended r.full r.receipt e.shows (reported _ _ c.in-Ok-run_from.ran c.in-Ok.script r.script s.text r.ended r.full) e.written e.write_faults e.flushed
