use Rattle.std.proofs.Common.{length}
use Rattle.hm_top.specs.Checks.{legal_line}
use Rattle.hm_top.proofs.Checking.{judged}
use Rattle.hm_top.proofs.check.check.Goals as goal

pub returns-in-Ok-clause-does : goal.returns-in-Ok-clause-does
returns-in-Ok-clause-does g c =
    let s = c.in-Ok.ensures in
    let e = c.write_verdict.ensures in
    judged (λ h. legal_line (length h)) _ c.write_verdict.result c.in-Ok.verdict s.verdict s.faults e.ends e.written e.write_faults e.flushed e.receipt
