use Rattle.hm_report.specs.Summary.{summary}
use Rattle.hm_edge.proofs.Sending.{cut_off, short, whole}
use Rattle.hm_top.proofs.output.write_summary.Goals.{in-Done, in-Fault}
use Rattle.hm_top.proofs.output.write_summary.Goals as goal

pub returns-in-NoMemory-clause-written : goal.returns-in-NoMemory-clause-written
returns-in-NoMemory-clause-written g c =
    let tells = g.K.Sink.state in
    short (summary c.args.number c.args.ran.script c.args.ran.history.entries) c.in-Ok.text (tells c.args.sink.now) (tells c.write_text.new.sink) c.stopped-in-NoMemory.result.status c.in-Ok.ensures c.stopped-in-NoMemory.ensures.status c.in-NoMemory.ensures.text c.in-NoMemory.ensures.wants.1

pub returns-clause-written : goal.returns-clause-written
returns-clause-written g c =
    let tells = g.K.Sink.state in
    let t = summary c.args.number c.args.ran.script c.args.ran.history.entries in
    elim c.match-write_text.branch [
      | in-Done w ↦ whole t c.in-Ok.text (tells c.args.sink.now) (tells c.write_text.new.sink) c.match-write_text.status c.in-Ok.ensures w.status-is w.in-Done.ensures.text
      | in-Fault w ↦ cut_off t c.in-Ok.text (tells c.args.sink.now) (tells c.write_text.new.sink) c.match-write_text.status c.in-Ok.ensures w.status-is w.in-Fault.ensures.text
    ]
