use Rattle.hm_view.proofs.Texts.{one_finding}
use Rattle.hm_view.proofs.findings.add_findings.Goals as goal

pub loop-at-preserved : goal.loop-at-preserved
loop-at-preserved c =
    one_finding c.args.entries.now c.loop-at.at c.index-entries-at.result c.args.text.now c.loop-at.text c.add_finding.new.text
    c.loop-at-test.true c.index-entries-at.is c.loop-at.invariant c.in_ok-add_finding.ensures
