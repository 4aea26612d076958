use Rattle.std.proofs.Common.{subst, sym}
use Rattle.hm_edge.specs.Messages.{Wrote}
use Rattle.hm_trace_top.specs.Endings.{Says}
use Rattle.hm_trace_top.proofs.ended.finish.Goals as goal

pub returns-in-NoRule-clause-says : goal.returns-in-NoRule-clause-says
returns-in-NoRule-clause-says g c =
    let tells = g.K.Sink.state in
    subst (λ s. Says s (tells c.args.errors.now) (tells c.say_line.new.errors)) (sym c.in-NoRule.is)
    (subst (λ t. Wrote t (tells c.args.errors.now) (tells c.say_line.new.errors)) c.no_rule.ensures c.say_line.ensures)

pub returns-in-Refused-clause-says : goal.returns-in-Refused-clause-says
returns-in-Refused-clause-says g c =
    let tells = g.K.Sink.state in
    subst (λ s. Says s (tells c.args.errors.now) (tells c.say_line-in-Refused.new.errors)) (sym c.in-Refused.is)
    (subst (λ t. Wrote t (tells c.args.errors.now) (tells c.say_line-in-Refused.new.errors)) c.refusal.ensures c.say_line-in-Refused.ensures)

pub returns-in-Usage-clause-says : goal.returns-in-Usage-clause-says
returns-in-Usage-clause-says g c =
    let tells = g.K.Sink.state in
    subst (λ s. Says s (tells c.args.errors.now) (tells c.finish.new.errors)) (sym c.in-Usage.is) c.finish.ensures.says

pub returns-in-RefusedIn-clause-says : goal.returns-in-RefusedIn-clause-says
returns-in-RefusedIn-clause-says g c =
    let tells = g.K.Sink.state in
    subst (λ s. Says s (tells c.args.errors.now) (tells c.say_line-in-RefusedIn.new.errors)) (sym c.in-RefusedIn.is)
    (subst (λ t. Wrote t (tells c.args.errors.now) (tells c.say_line-in-RefusedIn.new.errors)) c.refusal_in.ensures c.say_line-in-RefusedIn.ensures)
