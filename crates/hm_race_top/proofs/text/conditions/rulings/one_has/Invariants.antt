use Rattle.std.proofs.Common.{◌≡◌, false, take}
use Rattle.hm_race_top.specs.Text.Laws.{lines_of}
use Rattle.hm_race_top.specs.Text.Conditions.Rulings.{one_has}
use Rattle.hm_race_top.proofs.text.conditions.rulings.one_has.Given as goal

-- it is said of none so far
abbrev pub invariant-loop-question : goal.invariant-loop-question
invariant-loop-question l = one_has (take l.question-index l.questions) (lines_of l.blocks) l.whole l.wanted ≡ false
