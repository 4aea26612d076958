use Rattle.std.proofs.Common.{◌≡◌, false, take}
use Rattle.hm_race_top.specs.Text.Conditions.Absent.{have_absent}
use Rattle.hm_race_top.specs.Text.Laws.{lines_of}
use Rattle.hm_race_top.proofs.text.conditions.absent.have_absent.Given as goal

-- none of the conditions so far has such a line
abbrev pub invariant-loop-question : goal.invariant-loop-question
invariant-loop-question l = have_absent (take l.question-index l.questions) (lines_of l.blocks) ≡ false
