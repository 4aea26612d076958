use Rattle.std.proofs.Common.{subst}
use Rattle.hm_report.specs.Written.{Writes}
use Rattle.hm_top.specs.Peeks.{peeked_text}
use Rattle.hm_top.proofs.Peeking.{peeked_so}
use Rattle.hm_top.proofs.peek.report_peeked.Goals as goal

pub returns-clause-written : goal.returns-clause-written
returns-clause-written g c =
    let w = c.write_peeked-written in
    let e = c.end_peeked in
    let x = c.args.peeked in
    let before = g.K.Sink.state c.args.sink.now in
    let after = g.K.Sink.state w.new.sink in
    let text = subst (λ xs. Writes before.held after.held (peeked_text xs x.ran.script x.ran.history.entries) w.result) c.as_slice.ensures w.ensures.text in
    peeked_so x.peeks e.result.peeks x.ran.script x.ran.history.entries before after w.result x.ran.full e.result.status e.ensures.status e.ensures.peeks text w.ensures.wants
