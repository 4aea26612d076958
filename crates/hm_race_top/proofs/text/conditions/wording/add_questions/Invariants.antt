use Rattle.std.proofs.Common.{◌≡◌, ◌++◌, take}
use Rattle.hm_race_top.specs.Text.Conditions.Texts.{questions_text}
use Rattle.hm_race_top.proofs.text.conditions.wording.add_questions.Given as goal

-- the conditions so far were added
abbrev pub invariant-loop-question : goal.invariant-loop-question
invariant-loop-question l = l.text ≡ l.fn.text ++ questions_text l.blocks l.whole (take l.question-index l.questions)
