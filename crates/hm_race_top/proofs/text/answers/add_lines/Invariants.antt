use Rattle.std.proofs.Common.{◌≡◌, ◌++◌, take}
use Rattle.hm_race_lines.specs.Answers.{actor_lines}
use Rattle.hm_race_top.proofs.text.answers.add_lines.Given as goal

-- the lines so far were added
abbrev pub invariant-loop-answer : goal.invariant-loop-answer
invariant-loop-answer l = l.text ≡ l.fn.text ++ actor_lines l.actor (take l.answer-index l.answers)
