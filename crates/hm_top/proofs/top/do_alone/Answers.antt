use Rattle.hm_edge.specs.Traffic.{traffic_of}
use Rattle.hm_top.proofs.Used.{does_alone_so}
use Rattle.hm_top.proofs.top.do_alone.Goals as goal

pub returns-in-Generate-clause-does : goal.returns-in-Generate-clause-does
returns-in-Generate-clause-does g c =
    let source = g.S.Source.state c.args.source.now in
    does_alone_so (traffic_of source g.K.Sink.state c.args.sink.now c.generate.new.sink) c.generate.result _ _ c.in-Generate.is (c.generate.ensures.does source)

pub returns-in-Trial-clause-does : goal.returns-in-Trial-clause-does
returns-in-Trial-clause-does g c =
    let source = g.S.Source.state c.args.source.now in
    does_alone_so (traffic_of source g.K.Sink.state c.args.sink.now c.trial.new.sink) c.trial.result _ _ c.in-Trial.is (c.trial.ensures.does source)
