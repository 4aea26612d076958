use Rattle.std.proofs.Common.{◌∙◌, ap, subst, sym}
use Rattle.hm_edge.specs.Messages.{Says, Wrote, line_of}
use Rattle.hm_edge.proofs.Saying.{says_fixed}
use Rattle.hm_edge.proofs.ending.say_why.Goals as goal

pub returns-in-Refused : goal.returns-in-Refused
returns-in-Refused g c =
    let tells = g.K.Sink.state in
    subst (λ s. Says c.args.name.now c.args.usage.now s (tells c.args.errors.now) (tells c.say.new.errors)) (sym c.in-Refused.is)
    (subst (λ t. Wrote (line_of c.args.name.now t) (tells c.args.errors.now) (tells c.say.new.errors)) (c.as_bytes.ensures.value ∙ (c.as_str.ensures.value ∙ c.refusal.ensures)) c.say.ensures)

pub returns-in_default : goal.returns-in_default
returns-in_default g c =
    let tells = g.K.Sink.state in
    says_fixed c.args.name.now c.args.usage.now c.args.status.now (tells c.args.errors.now) (tells c.say-in_default.new.errors) c.in_default.not-Done c.in_default.not-Refused c.in_default.not-Race
    (subst (λ t. Wrote (line_of c.args.name.now t) (tells c.args.errors.now) (tells c.say-in_default.new.errors)) (c.as_bytes-in_default.ensures.value ∙ c.fixed_text.ensures) c.say-in_default.ensures)
