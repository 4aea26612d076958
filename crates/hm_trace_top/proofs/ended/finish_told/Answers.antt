use Rattle.std.proofs.Common.{subst, sym}
use Rattle.hm_edge.specs.Messages.{Wrote}
use Rattle.hm_trace_top.specs.Endings.{Says}
use Rattle.hm_trace_top.specs.declared.ended.Ended.{Ended}
use Rattle.hm_trace_top.proofs.ended.finish_told.Goals as goal

pub returns-in-Unseen-clause-says : goal.returns-in-Unseen-clause-says
returns-in-Unseen-clause-says g c =
    let tells = g.K.Sink.state in
    subst (λ s. Says (Ended.Told s) (tells c.args.errors.now) (tells c.say_line.new.errors)) (sym c.in-Unseen.is)
    (subst (λ t. Wrote t (tells c.args.errors.now) (tells c.say_line.new.errors)) c.unseen.ensures c.say_line.ensures)
