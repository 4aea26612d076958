use Rattle.std.proofs.Common.{not}
use Rattle.hm_race_top.specs.Text.Conditions.Asking.{may_ask}
use Rattle.hm_race_top.specs.declared.text.conditions.question.Question.{Question}
use Rattle.hm_race_top.proofs.Unasked.{NoneSo}
use Rattle.hm_race_top.proofs.text.conditions.asking.unasked_at.Given as goal

-- each so far may be asked
abbrev pub invariant-loop-at : goal.invariant-loop-at
invariant-loop-at l = NoneSo (λ (q : Question). not (may_ask l.script q.condition)) l.questions l.at
