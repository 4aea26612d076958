use Rattle.hm_edge.specs.Traffic.{traffic}
use Rattle.hm_trace_top.proofs.Told.{judges_told}
use Rattle.hm_trace_top.proofs.call.judge_trace.Goals as goal

pub returns-in-Ok : goal.returns-in-Ok
returns-in-Ok g c =
    judges_told c.args.expected.now (traffic g.S.Source.state g.K.Sink.state c.args.source.now c.judge_source.new.source c.args.sink.now c.write_judged.new.sink) c.write_judged.result c.in-Ok.judged
    c.in-Ok.ensures.said c.in-Ok.ensures.faults c.write_judged.ensures.ends c.write_judged.ensures.written c.write_judged.ensures.faults c.write_judged.ensures.flushed
