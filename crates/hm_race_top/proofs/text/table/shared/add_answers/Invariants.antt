use Rattle.std.proofs.Common.{◌≡◌, ◌++◌, take}
use Rattle.std.specs.List.{flat_map}
use Rattle.hm_race_top.specs.Text.Table.Text.{answer_line}
use Rattle.hm_race_top.proofs.text.table.shared.add_answers.Given as goal

-- the answers so far were added
abbrev pub invariant-loop-answer : goal.invariant-loop-answer
invariant-loop-answer l = l.text ≡ l.fn.text ++ flat_map answer_line (take l.answer-index l.answers)
