use Rattle.std.proofs.Common.{◌≡◌, false, take}
use Rattle.hm_race_top.specs.Text.Conditions.Rulings.{one_fails}
use Rattle.hm_race_top.proofs.text.conditions.rulings.one_fails.Given as goal

-- none so far fails by it
abbrev pub invariant-loop-question : goal.invariant-loop-question
invariant-loop-question l = one_fails (take l.question-index l.questions) l.lines ≡ false
