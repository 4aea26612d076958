use Rattle.std.proofs.Common.{not, sym, ap, ◌∙◌, arith}
use Rattle.hm_race_top.specs.Text.Conditions.Asking.{may_ask}
use Rattle.hm_race_top.specs.declared.text.conditions.question.Question.{Question}
use Rattle.hm_race_top.proofs.Unasked.{first_at, first_none, none_more}
use Rattle.hm_race_top.proofs.text.conditions.asking.unasked_at.Goals as goal

pub loop-at-init : goal.loop-at-init
loop-at-init c = λ k d low. absurd (omega arith)

pub returns-then-not-may_ask : goal.returns-then-not-may_ask
returns-then-not-may_ask c =
    let s = c.args.script.now in
    first_at (λ (q : Question). not (may_ask s q.condition)) c.args.questions.now c.loop-at.at c.index-questions-at.result c.index-questions-at.is c.loop-at-test.true
    (ap (λ (q : Question). not (may_ask s q.condition)) c.index-questions-at.is ∙ ap not (sym c.may_ask.ensures) ∙ ap not c.if-not-may_ask.true) c.loop-at.invariant

pub loop-at-preserved : goal.loop-at-preserved
loop-at-preserved c =
    let s = c.args.script.now in
    none_more (λ (q : Question). not (may_ask s q.condition)) c.args.questions.now c.loop-at.at c.index-questions-at.result c.index-questions-at.is c.loop-at-test.true
    (ap (λ (q : Question). not (may_ask s q.condition)) c.index-questions-at.is ∙ ap not (sym c.may_ask.ensures) ∙ ap not c.if-not-may_ask.false) c.loop-at.invariant

pub returns : goal.returns
returns c = first_none (λ (q : Question). not (may_ask c.args.script.now q.condition)) c.args.questions.now c.loop-at.at c.loop-at-test.false c.loop-at.invariant
