use Rattle.std.proofs.Common.{◌≡◌, map}
use Rattle.hm_history.specs.Memory.Words.{numbers}
use Rattle.hm_race_keys.specs.Trail.{answers_in}
use Rattle.hm_race_lines.specs.Answers.{answer_lines}
use Rattle.hm_race_top.proofs.text.answers.answer_lines.Given as goal

-- the lines of the actors so far
abbrev pub invariant-loop-actor : goal.invariant-loop-actor
invariant-loop-actor l = l.text ≡ answer_lines (map (answers_in l.answers.lists.items) (numbers 0 l.actor))
