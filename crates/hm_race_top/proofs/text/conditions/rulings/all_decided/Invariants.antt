use Rattle.std.proofs.Common.{◌≡◌, true, take}
use Rattle.hm_race_top.specs.Text.Conditions.Rulings.{all_decided}
use Rattle.hm_race_top.proofs.text.conditions.rulings.all_decided.Given as goal

-- it decides those so far
abbrev pub invariant-loop-question : goal.invariant-loop-question
invariant-loop-question l = all_decided (take l.question-index l.questions) l.lines ≡ true
