use Rattle.hm_report.specs.Report.{report}
use Rattle.hm_top.proofs.Peeking.{front_longer, then_written}
use Rattle.hm_top.proofs.peek.write_with.Goals as goal

pub returns-in-Done-clause-text : goal.returns-in-Done-clause-text
returns-in-Done-clause-text g c =
    then_written (g.K.Sink.state c.args.sink.now).held (g.K.Sink.state c.write_report.new.sink).held (g.K.Sink.state c.write_text.new.sink).held (report c.args.script.now c.args.history.now.entries) c.args.lines.now c.write_text.result c.in-Done.ensures.text c.write_text.ensures.text

pub returns-in-Fault-clause-text : goal.returns-in-Fault-clause-text
returns-in-Fault-clause-text g c = front_longer (g.K.Sink.state c.args.sink.now).held (g.K.Sink.state c.write_report.new.sink).held (report c.args.script.now c.args.history.now.entries) c.args.lines.now c.in-Fault.ensures.text

pub returns-in-NoMemory-clause-text : goal.returns-in-NoMemory-clause-text
returns-in-NoMemory-clause-text g c = front_longer (g.K.Sink.state c.args.sink.now).held (g.K.Sink.state c.write_report.new.sink).held (report c.args.script.now c.args.history.now.entries) c.args.lines.now c.in-NoMemory.ensures.text
