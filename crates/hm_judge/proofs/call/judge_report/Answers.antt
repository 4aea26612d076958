use Rattle.std.proofs.Common.{refl}
use Rattle.hm_edge.specs.Traffic.{traffic}
use Rattle.hm_judge.proofs.Judged.{judges_none, judges_told}
use Rattle.hm_judge.proofs.call.judge_report.Goals as goal

pub returns-in-Ok : goal.returns-in-Ok
returns-in-Ok g c =
    judges_told c.args.asked (traffic g.S.Source.state g.K.Sink.state c.args.source.now c.answer_source.new.source c.args.sink.now c.write_answer.new.sink) c.write_answer.result c.in-Ok.answer
    c.in-Ok.ensures.sound c.in-Ok.ensures.answer c.in-Ok.ensures.faults c.write_answer.ensures.ends c.write_answer.ensures.written c.write_answer.ensures.faults c.write_answer.ensures.flushed

pub returns-in-Err : goal.returns-in-Err
returns-in-Err g c =
    judges_none c.args.asked (traffic g.S.Source.state g.K.Sink.state c.args.source.now c.answer_source.new.source c.args.sink.now c.args.sink.now) c.in-Err.status
    c.in-Err.ensures.none c.in-Err.ensures.fault refl
