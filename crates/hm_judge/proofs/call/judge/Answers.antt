use Rattle.std.proofs.Common.{refl, subst, Option}
use Rattle.hm_edge.specs.Traffic.{traffic}
use Rattle.hm_edge.specs.declared.status.Status.{Status}
use Rattle.hm_judge.specs.Runs.{RunsAsked}
use Rattle.hm_judge.specs.declared.asked.Asked.{Asked}
use Rattle.hm_judge.proofs.call.judge.Goals as goal

pub returns-in-Some : goal.returns-in-Some
returns-in-Some g c =
    let io = traffic g.S.Source.state g.K.Sink.state c.args.source.now c.judge_report.new.source c.args.sink.now c.judge_report.new.sink in
    subst (λ (o : Option Asked). RunsAsked o io c.judge_report.result) c.in-Some.ensures c.judge_report.ensures

pub returns-in-None : goal.returns-in-None
returns-in-None g c =
    let io = traffic g.S.Source.state g.K.Sink.state c.args.source.now c.args.source.now c.args.sink.now c.args.sink.now in
    subst (λ (o : Option Asked). RunsAsked o io Status.Usage) c.in-None.ensures (record { usage = refl; untouched = record { unread = refl; unwritten = refl } })
