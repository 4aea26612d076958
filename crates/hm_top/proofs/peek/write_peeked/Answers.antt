use Rattle.std.proofs.Common.{◌++◌, subst}
use Rattle.hm_report.specs.Report.{report}
use Rattle.hm_report.specs.Written.{Writes}
use Rattle.hm_top.proofs.peek.write_peeked.Goals as goal

pub returns-in-Ok-clause-text : goal.returns-in-Ok-clause-text
returns-in-Ok-clause-text g c =
    subst (λ lines. Writes (g.K.Sink.state c.args.sink.now).held (g.K.Sink.state c.write_with.new.sink).held (report c.args.script.now c.args.history.now.entries ++ lines) c.write_with.result) c.in-Ok.ensures c.write_with.ensures.text
