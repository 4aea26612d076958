use Rattle.hm_why.specs.Loads.{why_text}
use Rattle.hm_top.proofs.Checking.{judged}
use Rattle.hm_top.proofs.why.why.Goals as goal

pub returns-in-Ok-clause-does : goal.returns-in-Ok-clause-does
returns-in-Ok-clause-does g c =
    let s = c.in-Ok.ensures in
    let e = c.write_sources.ensures in
    judged why_text _ c.write_sources.result c.in-Ok.verdict s.verdict s.faults e.ends e.written e.write_faults e.flushed e.receipt
