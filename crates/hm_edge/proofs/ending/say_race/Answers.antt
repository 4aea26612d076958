use Rattle.std.proofs.Common.{◌∙◌, ap, subst, sym}
use Rattle.hm_edge.specs.Messages.{Wrote, line_of, race_message}
use Rattle.hm_edge.proofs.Saying.{race_unnumbered}
use Rattle.hm_edge.proofs.ending.say_race.Goals as goal

pub returns-in-NoCondition : goal.returns-in-NoCondition
returns-in-NoCondition g c =
    let tells = g.K.Sink.state in
    subst (λ t. Wrote (line_of c.args.name.now t) (tells c.args.errors.now) (tells c.say.new.errors))
    (c.as_bytes.ensures.value ∙ (c.as_str.ensures.value ∙ (c.no_condition.ensures ∙ sym (ap race_message c.in-NoCondition.is)))) c.say.ensures

pub returns-in_default : goal.returns-in_default
returns-in_default g c =
    let tells = g.K.Sink.state in
    subst (λ t. Wrote (line_of c.args.name.now t) (tells c.args.errors.now) (tells c.say-in_default.new.errors))
    (c.as_bytes-in_default.ensures.value ∙ (c.race_text.ensures ∙ race_unnumbered c.args.end.now c.in_default.not-NoCondition)) c.say-in_default.ensures
